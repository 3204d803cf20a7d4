-- What the scans of a list go by: odd entries by the remainder, the number of pairs by half the entries, and a bad pair by its two
-- sides. Assumes nothing.
use mathlib.Core.Path.{◌≡◌, refl, sym, ap, ◌∙◌}
use mathlib.Core.Bool.{Bool, true, false, not, ◌&&◌}
use mathlib.Core.Logic.{◌⊎◌}
use mathlib.Core.List.{List, [], ◌∷◌}
use Prim.Native.Nat.{ℕ, ◌+◌, ◌*◌, ◌/◌, ◌%◌, ◌≤◌, ◌<◌}
use native.Mathlib.Omega.{arith}
use lib.ListN.{length, get_or}
use Rattle.words.specs.Limits.{most_entries}
use Rattle.graphs.specs.Partition.{pairs_of}
use Rattle.table.specs.Table.{kind_at, node_kind}
use Rattle.table.specs.Faults.{pair_at, odd, bad_sides}
use Rattle.table.proofs.Pairs.{length-pairs_of, length-pairs_of_over, pair_at_entries}
use Rattle.matcher.specs.Steps.PassedAll.{BadList}

pub odd_entries : (list : List ℕ) → length list % 2 ≡ 1 → odd list ≡ true
unfolding odd
odd_entries [] e = absurd (omega arith)
odd_entries (l ∷ []) e = refl
odd_entries (l ∷ r ∷ rest) e = odd_entries rest (omega arith)

pub even_entries : (list : List ℕ) → (length list % 2 ≡ 1 → ⊥) → odd list ≡ false
unfolding odd
even_entries [] f = refl
even_entries (l ∷ []) f = absurd (f (omega arith))
even_entries (l ∷ r ∷ rest) f = even_entries rest (λ e. f (omega arith))

pub half_entries : (list : List ℕ) → length list / 2 ≡ length (pairs_of list)
half_entries list = omega (arith, length-pairs_of list, length-pairs_of_over list)

-- a list is bad by its own length, or good
pub bad_list : (bad : Bool) (list : List ℕ) → (bad ≡ true → (odd list ≡ true) ⊎ (most_entries < length list)) → (bad ≡ false → (odd list ≡ false) × (length list ≤ most_entries)) → BadList bad list
bad_list true list b g = b refl
bad_list false list b g = g refl

module _ (t list : List ℕ) (k : ℕ) (inside : 2 * k + 1 < length list) where
  sides_by_entries : bad_sides t (pair_at (pairs_of list) k) ≡ not (node_kind (kind_at t (get_or list (2 * k) 0)) && node_kind (kind_at t (get_or list (2 * k + 1) 0)))
  sides_by_entries = ap (bad_sides t) (pair_at_entries list k (omega (arith, length-pairs_of_over list)))

  -- a left side that is a node leaves the answer to the right side
  pub left_node : {a b : Bool} → a ≡ node_kind (kind_at t (get_or list (2 * k) 0)) → a ≡ true → b ≡ node_kind (kind_at t (get_or list (2 * k + 1) 0))
      → not b ≡ bad_sides t (pair_at (pairs_of list) k)
  left_node {a} {b} e s f =
      ap not f
      ∙ sym (sides_by_entries ∙ ap (λ (c : Bool). not (c && node_kind (kind_at t (get_or list (2 * k + 1) 0)))) (sym e ∙ s))

  pub left_no_node : {a : Bool} → a ≡ node_kind (kind_at t (get_or list (2 * k) 0)) → a ≡ false → not a ≡ bad_sides t (pair_at (pairs_of list) k)
  left_no_node {a} e s =
      ap not s
      ∙ sym (sides_by_entries ∙ ap (λ (c : Bool). not (c && node_kind (kind_at t (get_or list (2 * k + 1) 0)))) (sym e ∙ s))
