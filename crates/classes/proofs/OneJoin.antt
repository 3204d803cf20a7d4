-- Two results that the contract of a join allows are equal: `join_only`. Assumes nothing.
use mathlib.Core.Path.{◌≡◌, refl, sym, ap, ap₂, ◌∙◌, subst}
use mathlib.Core.List.Memᴰ
use mathlib.Core.List.{List, ◌++◌}
use mathlib.Core.Logic.{⊎_elim}
use Prim.Native.Nat.{ℕ, ◌+◌, ◌≤◌, ◌<◌}
use native.Mathlib.Decide.{dec_lt}
use native.Mathlib.Omega.{arith}
use lib.ListN.{length, take, take-append-drop}
use lib.Seq.{take-length}
use Rattle.std.specs.Prelude.{Result, Ok, Err}
use Rattle.words.specs.declared.numbers.PairNumber.{PairNumber}
use Rattle.rows.proofs.Laws.{equations_agree}
use Rattle.graphs.specs.Partition.{Pair, pairs_of, Clash}
use Rattle.graphs.proofs.Classes.{class_table_only, clash_grows, first_pairs_grow}
use Rattle.table.specs.Table.{graph_of}
use Rattle.classes.specs.Joining.{CanJoin, AllJoined, ClashAtPair, ByOutcome, JoinOf}

module _ (t : List ℕ) (earlier : List Pair) (list class : List ℕ) where
  -- a clash of the first pairs is one of more
  later : (j k : ℕ) → j ≤ k → Clash (graph_of t) (earlier ++ take j (pairs_of list)) → Clash (graph_of t) (earlier ++ take k (pairs_of list))
  later j k h =
      clash_grows (λ p m. ⊎_elim (λ a. Memᴰ.append_left (take k (pairs_of list)) a) (λ b. Memᴰ.append_right earlier (first_pairs_grow j k (pairs_of list) h p b)) (Memᴰ.append_cases earlier m))

  whole : (j : ℕ) → j ≤ length (pairs_of list) → Clash (graph_of t) (earlier ++ take j (pairs_of list)) → Clash (graph_of t) (earlier ++ pairs_of list)
  whole j h c = subst (λ (p : List Pair). Clash (graph_of t) (earlier ++ p)) (take-length (pairs_of list)) (later j (length (pairs_of list)) h c)

  both_joined : {one two : List ℕ} → AllJoined t earlier list class one → AllJoined t earlier list class two → one ≡ two
  both_joined {one} {two} a b =
      sym (take-append-drop (length t) one) ∙ ap₂ ◌++◌ (class_table_only a.class_table b.class_table) (a.behind ∙ sym b.behind) ∙ take-append-drop (length t) two

  one_place : {m n : ℕ} {one two : List ℕ} → ClashAtPair t earlier list class m one → ClashAtPair t earlier list class n two → m ≡ n
  one_place {m} {n} a b = go (dec_lt a.place b.place) (dec_lt b.place a.place)
    where
      go : Dec (a.place < b.place) → Dec (b.place < a.place) → m ≡ n
      go (yes h) d = absurd (b.none_before (later (a.place + 1) b.place (omega arith) a.clash))
      go (no h) (yes l) = absurd (a.none_before (later (b.place + 1) a.place (omega arith) b.clash))
      go (no h) (no l) = omega (arith, a.numbers, b.numbers)

  clash_and_none : {n : ℕ} {one two : List ℕ} → AllJoined t earlier list class one → ClashAtPair t earlier list class n two → ⊥
  clash_and_none a b = a.no_clash (whole (b.place + 1) (omega (arith, b.inside)) b.clash)

  one_outcome : (r s : Result (Unit {0}) PairNumber) {one two : List ℕ} → ByOutcome t earlier list class r one → ByOutcome t earlier list class s two → (r ≡ s) × (one ≡ two)
  one_outcome (Ok p) (Ok q) a b = (refl, both_joined a b)
  one_outcome (Ok p) (Err k) a b = absurd (clash_and_none a b)
  one_outcome (Err j) (Ok q) a b = absurd (clash_and_none b a)
  one_outcome (Err j) (Err k) a b = (ap Err (let e : j.0 ≡ k.0 = one_place a b in λ i. record { 0 = e i }), equations_agree a.cleared b.cleared)

pub join_only : {t list class work : List ℕ} {r s : Result (Unit {0}) PairNumber} {class₁ work₁ class₂ work₂ : List ℕ} → CanJoin t list class (length work) → JoinOf t list class work r class₁ work₁ → JoinOf t list class work s class₂ work₂
    → (r ≡ s) × (class₁ ≡ class₂) × (work₁ ≡ work₂)
join_only {t} {list} {class} {r = r} {s = s} (earlier, j) a b =
    let o : _ = one_outcome t earlier list class r s (a.outcome earlier j) (b.outcome earlier j) in
    (o.0, o.1, equations_agree a.cleared b.cleared)
