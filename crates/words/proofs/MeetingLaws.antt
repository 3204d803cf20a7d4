-- What comes of two heads that meet. In order:
--   clash_by_kind        a clash is two non-variable heads that differ in kind or in symbol: for all heads
--   clash_exactly        a clash is two non-variable heads with different symbols: where each function has an argument
--   go_down_exactly      going down is for two functions with one symbol: for all heads
-- Assumes nothing.
use Prim.Native.Nat.{ℕ}
use mathlib.Core.Path.{◌≡◌, refl, sym, ap, ◌∙◌}
use mathlib.Core.Bool.{Bool, true, false, cond, ◌||◌, true≢false}
use mathlib.Core.Logic.{◌↔◌}
use native.Mathlib.Omega.{arith}
use Rattle.words.specs.Word.{tag_number, same_kind}
use Rattle.words.specs.Head.{Counted, kind_of_head, is_variable, is_function, symbol_of, heads_agree}
use Rattle.words.specs.Meeting.{outcome_of, DifferentSymbols, FunctionsOfOneSymbol}
use Rattle.words.specs.declared.kind.Kind.{Kind}
use Rattle.words.specs.declared.head.Head.{Head}
use Rattle.words.specs.declared.meeting.Outcome.{Outcome}
use Rattle.words.proofs.Tests.{false_exactly, and_exactly}
use Rattle.words.proofs.WordLaws.{same_kind_exactly}
use Rattle.words.proofs.HeadLaws.{symbols_agree_exactly, kinds_by_symbols}

-- the outcome by its four tests: either head is a variable, the two agree, they are functions
abbrev tested : Bool → Bool → Bool → Bool → Outcome
tested v w agree function =
    cond (v || w) Outcome.Joined (cond agree (cond function Outcome.JoinedGoDown Outcome.Joined) Outcome.Clash)

-- no outcome is another
abbrev outcome_number : Outcome → ℕ
outcome_number Outcome.Joined = 0
outcome_number Outcome.JoinedGoDown = 1
outcome_number Outcome.Clash = 2

clash_tests :
    (v w agree function : Bool) →
    tested v w agree function ≡ Outcome.Clash ↔ ((v ≡ false) × ((w ≡ false) × (agree ≡ false)))
clash_tests true w agree function = (λ e. absurd (omega (arith, ap outcome_number e)), λ d. absurd (true≢false d.0))
clash_tests false true agree function = (λ e. absurd (omega (arith, ap outcome_number e)), λ d. absurd (true≢false d.1.0))
clash_tests false false true true = (λ e. absurd (omega (arith, ap outcome_number e)), λ d. absurd (true≢false d.1.1))
clash_tests false false true false = (λ e. absurd (omega (arith, ap outcome_number e)), λ d. absurd (true≢false d.1.1))
clash_tests false false false function = (λ e. (refl, (refl, refl)), λ d. refl)

down_tests :
    (v w agree function : Bool) →
    tested v w agree function ≡ Outcome.JoinedGoDown
    ↔ ((v ≡ false) × ((w ≡ false) × ((agree ≡ true) × (function ≡ true))))
down_tests true w agree function = (λ e. absurd (omega (arith, ap outcome_number e)), λ d. absurd (true≢false d.0))
down_tests false true agree function = (λ e. absurd (omega (arith, ap outcome_number e)), λ d. absurd (true≢false d.1.0))
down_tests false false true true = (λ e. (refl, (refl, (refl, refl))), λ d. refl)
down_tests false false true false =
    (λ e. absurd (omega (arith, ap outcome_number e)), λ d. absurd (true≢false (sym d.1.1.1)))
down_tests false false false function =
    (λ e. absurd (omega (arith, ap outcome_number e)), λ d. absurd (true≢false (sym d.1.1.0)))

no_variable : (h : Head) → is_variable h ≡ false ↔ (kind_of_head h ≡ Kind.Variable → ⊥)
no_variable h = false_exactly _ (same_kind_exactly (kind_of_head h) Kind.Variable)

function_is_other : (h : Head) → kind_of_head h ≡ Kind.Function → kind_of_head h ≡ Kind.Variable → ⊥
function_is_other h f v = omega (arith, ap tag_number (sym f ∙ v))

module _ (l r : Head) where
  agree_exactly :
      (kind_of_head l ≡ Kind.Variable → ⊥) →
      heads_agree l r ≡ true ↔ ((kind_of_head l ≡ kind_of_head r) × (symbol_of l ≡ symbol_of r))
  agree_exactly other =
      and_exactly (same_kind (kind_of_head l) (kind_of_head r)) _
      (same_kind_exactly (kind_of_head l) (kind_of_head r)) (symbols_agree_exactly l r other)

  clashes :
      outcome_of l r ≡ Outcome.Clash
      ↔ ((is_variable l ≡ false) × ((is_variable r ≡ false) × (heads_agree l r ≡ false)))
  clashes = clash_tests (is_variable l) (is_variable r) (heads_agree l r) (is_function l)

  goes_down :
      outcome_of l r ≡ Outcome.JoinedGoDown
      ↔ ((is_variable l ≡ false)
      × ((is_variable r ≡ false)
      × ((heads_agree l r ≡ true) × (is_function l ≡ true))))
  goes_down = down_tests (is_variable l) (is_variable r) (heads_agree l r) (is_function l)

  pub clash_by_kind :
      outcome_of l r ≡ Outcome.Clash
      ↔ ((kind_of_head l ≡ Kind.Variable → ⊥)
      × ((kind_of_head r ≡ Kind.Variable → ⊥)
      × ((kind_of_head l ≡ kind_of_head r) × (symbol_of l ≡ symbol_of r) → ⊥)))
  clash_by_kind = (
    λ e.
        let t = clashes.0 e in
        let other = (no_variable l).0 t.0 in
        (other, ((no_variable r).0 t.1.0, (false_exactly (heads_agree l r) (agree_exactly other)).0 t.1.1)),
    λ d.
        let apart = (false_exactly (heads_agree l r) (agree_exactly d.0)).1 d.1.1 in
        clashes.1 ((no_variable l).1 d.0, ((no_variable r).1 d.1.0, apart)),
  )

  pub clash_exactly : Counted l → Counted r → outcome_of l r ≡ Outcome.Clash ↔ DifferentSymbols l r
  clash_exactly p q = (
    λ e. let t = clash_by_kind.0 e in (t.0, (t.1.0, λ s. t.1.1 (kinds_by_symbols l r p q s, s))),
    λ d. clash_by_kind.1 (d.0, (d.1.0, λ s. d.1.1 s.1)),
  )

  pub go_down_exactly : outcome_of l r ≡ Outcome.JoinedGoDown ↔ FunctionsOfOneSymbol l r
  go_down_exactly = (
    λ e.
        let t = goes_down.0 e in
        let one = (agree_exactly ((no_variable l).0 t.0)).0 t.1.1.0 in
        let function = (same_kind_exactly (kind_of_head l) Kind.Function).0 t.1.1.1 in
        (function, (sym one.0 ∙ function, one.1)),
    λ d.
        let left = function_is_other l d.0 in
        let right = function_is_other r d.1.0 in
        let one = (agree_exactly left).1 (d.0 ∙ sym d.1.0, d.1.1) in
        let function = (same_kind_exactly (kind_of_head l) Kind.Function).1 d.0 in
        goes_down.1 ((no_variable l).1 left, ((no_variable r).1 right, (one, function))),
  )
