-- What a row of items that does not break says of its blocks.
--
-- In order: one more word of the row (`break_stands`, `break_stops`); what stands after a function (`Arguments`, `CountAndArguments`); and
-- that the blocks of a row which does not break are whole (`whole_begins`).
-- Assumes nothing.
use mathlib.Core.Path.{◌≡◌, refl, sym, ap, ◌∙◌, subst}
use mathlib.Core.Bool.{Bool, true, false, cond, true≢false}
use mathlib.Core.List.{List, [], ◌∷◌}
use Rattle.std.specs.Prelude.{Option, None, Some}
use Prim.Native.Nat.{ℕ, zero, suc, ◌+◌, ◌≤◌, ◌<◌}
use native.Mathlib.Omega.{arith}
use lib.ListN.{length, get_or}
use Rattle.words.specs.Word.{same_kind, argument_kinds, is_one_of, kind_of, content_of}
use Rattle.words.specs.declared.kind.Kind.{Kind}
use Rattle.words.specs.declared.kind.Kind.TheVariants.{Function, Count}
use Rattle.words.proofs.WordLaws.{same_kind_exactly}
use Rattle.graphs.proofs.Classes.{never}
use Rattle.table.specs.Layout.{Wanted, item, count, arguments, more, can_stand, after, at_end, break_from}

-- A word that stands passes the question on.
pub break_stands : (wanted : Wanted) (a w : ℕ) (rest : List ℕ) → can_stand wanted (kind_of w) ≡ true → break_from wanted a (w ∷ rest) ≡ break_from (after wanted w) (a + 1) rest
unfolding break_from
break_stands wanted a w rest e =
    ap (λ (b : Bool). elim b as (λ _. Option ℕ) [ true ↦ break_from (after wanted w) (a + 1) rest | false ↦ Some a ]) e

pub break_stops : (wanted : Wanted) (a w : ℕ) (rest : List ℕ) → can_stand wanted (kind_of w) ≡ false → break_from wanted a (w ∷ rest) ≡ Some a
unfolding break_from
break_stops wanted a w rest e =
    ap (λ (b : Bool). elim b as (λ _. Option ℕ) [ true ↦ break_from (after wanted w) (a + 1) rest | false ↦ Some a ]) e

-- the kind of the word at a place of a row
abbrev kind_in : List ℕ → ℕ → Kind
kind_in row i = kind_of (get_or row i 0)

-- From place x on stand k arguments.
pub record Arguments (row : List ℕ) (x k : ℕ) : Type 0 where
  pub fit : x + k ≤ length row
  pub stand : (i : ℕ) → i < k → is_one_of argument_kinds (kind_in row (x + i)) ≡ true

-- At place x stands a count word k, and then k arguments.
pub record CountAndArguments (row : List ℕ) (x : ℕ) : Type 0 where
  pub counts : kind_in row x ≡ Count
  pub arguments_follow : Arguments row (x + 1) (content_of (get_or row x 0))

-- After each function word stand a count and the arguments.
abbrev pub Blocks : List ℕ → Type 0
Blocks row = (x : ℕ) → kind_in row x ≡ Function → CountAndArguments row (x + 1)

-- what is known where `wanted` may stand first
abbrev Begins : Wanted → List ℕ → Type 0
Begins item row = Unit {0}
Begins count row = CountAndArguments row 0
Begins (arguments k) row = Arguments row 0 k

move : (row : List ℕ) {i j : ℕ} → i ≡ j → is_one_of argument_kinds (kind_in row j) ≡ true → is_one_of argument_kinds (kind_in row i) ≡ true
move row e h = ap (λ (k : ℕ). is_one_of argument_kinds (kind_in row k)) e ∙ h

-- ---- a word in front

shift_arguments : (w : ℕ) {rest : List ℕ} {x k : ℕ} → Arguments rest x k → Arguments (w ∷ rest) (suc x) k
shift_arguments w {rest} {x} {k} a =
    record {
      fit = omega (arith, a.fit);
      stand = λ i h. move (w ∷ rest) (let e : suc x + i ≡ suc (x + i) = omega arith in e) (a.stand i h);
    }

shift_counted : (w : ℕ) {rest : List ℕ} {x : ℕ} → CountAndArguments rest x → CountAndArguments (w ∷ rest) (suc x)
shift_counted w {rest} {x} c =
    record {
      counts = c.counts;
      arguments_follow =
          subst (λ (y : ℕ). Arguments (w ∷ rest) y (content_of (get_or rest x 0))) (let e : suc (x + 1) ≡ suc x + 1 = omega arith in e)
          (shift_arguments w c.arguments_follow);
    }

first_argument : (w : ℕ) {rest : List ℕ} {k : ℕ} → is_one_of argument_kinds (kind_of w) ≡ true → Arguments rest 0 k → Arguments (w ∷ rest) 0 (suc k)
first_argument w {rest} {k} e a = record { fit = omega (arith, a.fit); stand = at }
  where
    at : (i : ℕ) → i < suc k → is_one_of argument_kinds (kind_in (w ∷ rest) (0 + i)) ≡ true
    at zero h = e
    at (suc i) h =
        move (w ∷ rest) (let q : 0 + suc i ≡ suc i = omega arith in q)
        (move rest (let q : i ≡ 0 + i = omega arith in q) (a.stand i (omega arith)))

none_here : (row : List ℕ) (x : ℕ) → x ≤ length row → Arguments row x 0
none_here row x h = record { fit = omega arith; stand = λ i k. absurd (omega arith) }

-- what `more k` begins with, as arguments
begins_more : (k : ℕ) (row : List ℕ) → Begins (more k) row → Arguments row 0 k
begins_more zero row b = none_here row 0 (omega arith)
begins_more (suc k) row b = b

begins_counted : (w : ℕ) (rest : List ℕ) → kind_of w ≡ Count → Begins (more (content_of w)) rest → CountAndArguments (w ∷ rest) 0
begins_counted w rest e b =
    record {
      counts = e;
      arguments_follow =
          subst (λ (y : ℕ). Arguments (w ∷ rest) y (content_of w)) (let q : suc 0 ≡ 0 + 1 = omega arith in q)
          (shift_arguments w (begins_more (content_of w) rest b));
    }

begins : (wanted : Wanted) (w : ℕ) (rest : List ℕ) → can_stand wanted (kind_of w) ≡ true → Begins (after wanted w) rest → Begins wanted (w ∷ rest)
unfolding can_stand after
begins item w rest e b = tt
begins count w rest e b = begins_counted w rest ((same_kind_exactly (kind_of w) Count).0 e) b
begins (arguments zero) w rest e b = none_here (w ∷ rest) 0 (omega arith)
begins (arguments (suc k)) w rest e b = first_argument w e (begins_more k rest b)

-- a function can stand only as an item, and a count is wanted after it
function_first : (wanted : Wanted) (w : ℕ) (rest : List ℕ) → can_stand wanted (kind_of w) ≡ true → kind_of w ≡ Function → Begins (after wanted w) rest → CountAndArguments rest 0
unfolding can_stand after
function_first item w rest e f b = subst (λ (k : Kind). Begins (cond (same_kind k Function) count item) rest) f b
function_first count w rest e f b = absurd (true≢false (sym e ∙ ap (can_stand count) f))
function_first (arguments j) w rest e f b = absurd (true≢false (sym e ∙ ap (can_stand (arguments j)) f))

-- ---- the row

pub whole_begins : (row : List ℕ) (wanted : Wanted) (a : ℕ) → break_from wanted a row ≡ None → Begins wanted row × Blocks row
unfolding break_from at_end kind_of
whole_begins [] item a e = (tt, λ x f. never (cc))
whole_begins [] count a e = never (cc)
whole_begins [] (arguments k) a e = never (cc)
whole_begins (w ∷ rest) wanted a e = go (can_stand wanted (kind_of w)) refl (λ q. whole_begins rest (after wanted w) (a + 1) q)
  where
    go : (b : Bool) → can_stand wanted (kind_of w) ≡ b → (break_from (after wanted w) (a + 1) rest ≡ None → Begins (after wanted w) rest × Blocks rest) → Begins wanted (w ∷ rest) × Blocks (w ∷ rest)
    go false s ih = let q : Some a ≡ None = sym (break_stops wanted a w rest s) ∙ e in never (cc)
    go true s ih =
        let below : Begins (after wanted w) rest × Blocks rest = ih (sym (break_stands wanted a w rest s) ∙ e) in
        (begins wanted w rest s below.0, at below)
      where
        at : Begins (after wanted w) rest × Blocks rest → (x : ℕ) → kind_in (w ∷ rest) x ≡ Function → CountAndArguments (w ∷ rest) (x + 1)
        at below zero f =
            subst (CountAndArguments (w ∷ rest)) (let q : suc 0 ≡ 0 + 1 = omega arith in q)
            (shift_counted w (function_first wanted w rest s f below.0))
        at below (suc x) f =
            subst (CountAndArguments (w ∷ rest)) (let q : suc (x + 1) ≡ suc x + 1 = omega arith in q)
            (shift_counted w (below.1 x f))
