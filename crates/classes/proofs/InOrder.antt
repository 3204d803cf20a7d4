-- Two roots meet in the naming order: which of them comes first, and that they may meet either way round. Assumes nothing.
use mathlib.Core.Path.{◌≡◌, refl, sym, ap, ◌∙◌, subst}
use mathlib.Core.Logic.{⊎_elim}
use mathlib.Core.List.Memᴰ
use mathlib.Core.List.{List, ◌∷◌}
use Prim.Native.Nat.{ℕ, ◌≤◌, ◌<◌}
use native.Mathlib.Decide.{ℕ_discrete}
use native.Mathlib.Omega.{arith}
use Rattle.std.specs.Prelude.{Result}
use Rattle.words.specs.declared.numbers.Address.{Address}
use Rattle.graphs.specs.Partition.{Pair, Same, swapped, key}
use Rattle.table.specs.Readable.{PassedCheck}
use Rattle.table.specs.Table.{graph_of}
use Rattle.classes.specs.Steps.Meeting.{State, Within, Agrees, Complete, Moved, Meets, Roots, Ordered}
use Rattle.classes.specs.declared.meet.Clash.{Clash as ClashMet}
use Rattle.classes.proofs.Linked.{key_only}
use Rattle.classes.proofs.Moves.{turned_after}

-- ---- which comes first

module _ {t row : List ℕ} {a b : ℕ} (checked : PassedCheck t) (roots : Roots t row a b) where
  pub left_first : {k l : ℕ} → k ≡ key (graph_of t) a → l ≡ key (graph_of t) b → k < l → Ordered t row a b
  left_first e f h =
      record { name_node = roots.left_node; later_node = roots.right_node; name_own = roots.left_own; later_own = roots.right_own; lower = omega (arith, e, f) }

  pub right_first : {k l : ℕ} → k ≡ key (graph_of t) a → l ≡ key (graph_of t) b → l ≤ k → Ordered t row b a
  right_first e f h =
      record { name_node = roots.right_node; later_node = roots.left_node; name_own = roots.right_own; later_own = roots.left_own; lower = lower }
    where
      go : Dec (key (graph_of t) a ≡ key (graph_of t) b) → key (graph_of t) b < key (graph_of t) a
      go (yes p) = absurd (roots.different (key_only t checked a b roots.left_node roots.right_node p))
      go (no d) = omega (arith, e, f)

      lower : key (graph_of t) b < key (graph_of t) a
      lower = go (ℕ_discrete (key (graph_of t) a) (key (graph_of t) b))

-- ---- a pair that is to meet may be turned about

module _ {t row work : List ℕ} {waiting : ℕ} (a b : ℕ) (owed : List Pair) where
  turned_within : (pairs : List Pair) → Within t pairs (record { row = row; work = work; waiting = waiting; owed = record { left = a; right = b } ∷ owed })
      → Within t pairs (record { row = row; work = work; waiting = waiting; owed = record { left = b; right = a } ∷ owed })
  turned_within pairs i =
      record { links = i.links; waiting = i.waiting; owed = λ p m. ⊎_elim (λ e. pair p e) (λ r. i.owed p (Memᴰ.tail r)) (Memᴰ.cases_cons m) }
    where
      together : Same (graph_of t) pairs b a
      together = swapped (i.owed (record { left = a; right = b }) (Memᴰ.head refl))

      pair : (p : Pair) → p ≡ record { left = b; right = a } → Same (graph_of t) pairs p.left p.right
      pair p e = subst (λ (r : Pair). Same (graph_of t) pairs r.left r.right) (sym e) together

  turned_agrees : (q : ℕ → ℕ) → Agrees t (record { row = row; work = work; waiting = waiting; owed = record { left = b; right = a } ∷ owed }) q
      → Agrees t (record { row = row; work = work; waiting = waiting; owed = record { left = a; right = b } ∷ owed }) q
  turned_agrees q g =
      record { links = g.links; waiting = g.waiting; owed = λ p m. ⊎_elim (λ e. pair p e) (λ r. g.owed p (Memᴰ.tail r)) (Memᴰ.cases_cons m) }
    where
      together : q b ≡ q a
      together = g.owed (record { left = b; right = a }) (Memᴰ.head refl)

      pair : (p : Pair) → p ≡ record { left = a; right = b } → q p.left ≡ q p.right
      pair p e = ap (λ (r : Pair). q r.left) e ∙ sym together ∙ sym (ap (λ (r : Pair). q r.right) e)

  turned_complete : (done : List Pair) → Complete t done (record { row = row; work = work; waiting = waiting; owed = record { left = a; right = b } ∷ owed })
      → Complete t done (record { row = row; work = work; waiting = waiting; owed = record { left = b; right = a } ∷ owed })
  turned_complete done c = record { pairs = λ q g. c.pairs q (turned_agrees q g); children = λ q g. c.children q (turned_agrees q g) }

  pub turned_pair : State t row work waiting → Moved t (record { row = row; work = work; waiting = waiting; owed = record { left = a; right = b } ∷ owed }) (record { row = row; work = work; waiting = waiting; owed = record { left = b; right = a } ∷ owed })
  turned_pair state =
      record { state = state; within = turned_within; complete = turned_complete; less = omega arith; kept = record { row_long = refl; work_long = refl; row_behind = refl; work_behind = refl } }

pub meets_turned : {t row work : List ℕ} {waiting a b : ℕ} {row_after work_after : List ℕ} {turn : Result ℕ ClashMet} → State t row work waiting
    → Meets t row work waiting b a row_after work_after turn → Meets t row work waiting a b row_after work_after turn
meets_turned {a} {b} state m owed = turned_after (turned_pair a b owed state) (m owed)

-- ---- two roots in a pair

pub ordered_as : {t row : List ℕ} {p : Address × Address} {a b : Address} → p ≡ (a, b) → Ordered t row a.0 b.0 → Ordered t row p.0.0 p.1.0
ordered_as {t} {row} e o = subst (λ (q : Address × Address). Ordered t row q.0.0 q.1.0) (sym e) o

pub meets_as : {t row work : List ℕ} {waiting : ℕ} {p : Address × Address} {a b : Address} {row_after work_after : List ℕ} {turn : Result ℕ ClashMet} → p ≡ (a, b)
    → Meets t row work waiting p.0.0 p.1.0 row_after work_after turn → Meets t row work waiting a.0 b.0 row_after work_after turn
meets_as {t} {row} {work} {waiting} {row_after} {work_after} {turn} e m =
    subst (λ (q : Address × Address). Meets t row work waiting q.0.0 q.1.0 row_after work_after turn) e m
