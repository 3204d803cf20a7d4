-- The pairs of a list, by its entries: how many there are (`length-pairs_of`), which entries are their sides
-- (`pair_at_entries`), where a pair stands (`pair_place`), and the pairs of the list so far (`pairs_of-take`). Assumes nothing.
use mathlib.Core.Path.{◌≡◌, refl, sym, ap, ◌∙◌}
use mathlib.Core.Bool.{false}
use mathlib.Core.List.Memᴰ
use mathlib.Core.List.{List, [], ◌∷◌}
use Prim.Native.Nat.{ℕ, zero, suc, ◌+◌, ◌*◌, ◌≤◌, ◌<◌}
use native.Mathlib.Omega.{arith}
use lib.ListN.{length, get_or, take}
use Rattle.graphs.specs.Partition.{Pair, pairs_of, ◌∈◌}
use Rattle.graphs.proofs.Classes.{never}
use Rattle.table.specs.Faults.{pair_at, odd}

-- ---- how many

-- Two entries for each pair; at most one is left over.
pub length-pairs_of : (list : List ℕ) → 2 * length (pairs_of list) ≤ length list
unfolding pairs_of
length-pairs_of [] = omega arith
length-pairs_of (l ∷ []) = omega arith
length-pairs_of (l ∷ r ∷ rest) = omega (arith, length-pairs_of rest)

pub length-pairs_of_over : (list : List ℕ) → length list ≤ 2 * length (pairs_of list) + 1
unfolding pairs_of
length-pairs_of_over [] = omega arith
length-pairs_of_over (l ∷ []) = omega arith
length-pairs_of_over (l ∷ r ∷ rest) = omega (arith, length-pairs_of_over rest)

-- None is left over where the number of entries is even.
pub length-pairs_of_even : (list : List ℕ) → odd list ≡ false → length list ≡ 2 * length (pairs_of list)
unfolding pairs_of odd
length-pairs_of_even [] e = omega arith
length-pairs_of_even (l ∷ []) e = never (cc)
length-pairs_of_even (l ∷ r ∷ rest) e = omega (arith, length-pairs_of_even rest e)

-- ---- the sides

pub pair_at-left : (list : List ℕ) (k : ℕ) → k < length (pairs_of list) → (pair_at (pairs_of list) k).left ≡ get_or list (2 * k) 0
unfolding pairs_of
pair_at-left [] k h = absurd (omega arith)
pair_at-left (l ∷ []) k h = absurd (omega arith)
pair_at-left (l ∷ r ∷ rest) zero h = refl
pair_at-left (l ∷ r ∷ rest) (suc k) h =
    pair_at-left rest k (omega arith) ∙ ap (λ (i : ℕ). get_or (l ∷ r ∷ rest) i 0) (let e : suc (suc (2 * k)) ≡ 2 * suc k = omega arith in e)

pub pair_at-right : (list : List ℕ) (k : ℕ) → k < length (pairs_of list) → (pair_at (pairs_of list) k).right ≡ get_or list (2 * k + 1) 0
unfolding pairs_of
pair_at-right [] k h = absurd (omega arith)
pair_at-right (l ∷ []) k h = absurd (omega arith)
pair_at-right (l ∷ r ∷ rest) zero h = refl
pair_at-right (l ∷ r ∷ rest) (suc k) h =
    pair_at-right rest k (omega arith) ∙ ap (λ (i : ℕ). get_or (l ∷ r ∷ rest) i 0) (let e : suc (suc (2 * k + 1)) ≡ 2 * suc k + 1 = omega arith in e)

-- The pair at place k has the entries 2k and 2k + 1 as its sides.
pub pair_at_entries : (list : List ℕ) (k : ℕ) → k < length (pairs_of list)
    → pair_at (pairs_of list) k ≡ record { left = get_or list (2 * k) 0; right = get_or list (2 * k + 1) 0 }
pair_at_entries list k h = λ i. record { left = pair_at-left list k h i; right = pair_at-right list k h i }

-- Every pair stands at some place.
pub pair_place : {p : Pair} {pairs : List Pair} → p ∈ pairs → (k : ℕ) × (k < length pairs) × (pair_at pairs k ≡ p)
pair_place {p = p} (Memᴰ.head {x = q} {xs = rest} e) = (0, (omega arith), sym e)
pair_place {p = p} (Memᴰ.tail {x = q} {xs = rest} m) =
    let found : (k : ℕ) × (k < length rest) × (pair_at rest k ≡ p) = pair_place {p = p} m in
    (suc found.0, (let h : found.0 < length rest = found.1 in omega arith), found.2)

-- ---- the list so far

pub pairs_of-take : (list : List ℕ) (k : ℕ) → pairs_of (take (2 * k) list) ≡ take k (pairs_of list)
unfolding pairs_of
pairs_of-take list zero = refl
pairs_of-take [] (suc k) = ap (λ (n : ℕ). pairs_of (take {A = ℕ} n [])) (let e : 2 * suc k ≡ suc (suc (2 * k)) = omega arith in e)
pairs_of-take (l ∷ []) (suc k) = ap (λ (n : ℕ). pairs_of (take n (l ∷ []))) (let e : 2 * suc k ≡ suc (suc (2 * k)) = omega arith in e)
pairs_of-take (l ∷ r ∷ rest) (suc k) =
    ap (λ (n : ℕ). pairs_of (take n (l ∷ r ∷ rest))) (let e : 2 * suc k ≡ suc (suc (2 * k)) = omega arith in e)
    ∙ ap (λ (ps : List Pair). record { left = l; right = r } ∷ ps) (pairs_of-take rest k)
