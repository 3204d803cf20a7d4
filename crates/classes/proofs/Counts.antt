-- Counting the classes of a row: the number of nodes that are their own entry. Assumes nothing.
use mathlib.Core.Path.{◌≡◌, refl, ap, ap₂}
use mathlib.Core.Bool.{Bool, true, false, ◌&&◌}
use mathlib.Core.List.{List}
use Prim.Native.Nat.{ℕ, zero, suc, ◌+◌, ◌<◌}
use native.Mathlib.Decide.{ℕ_discrete}
use native.Mathlib.Omega.{arith}
use lib.Dec.{eqb}
use borrow.Author.Tests.{eq-eqb, ne_eqb}
use Rattle.graphs.specs.Graph.{Symbols, Graph, Node}
use Rattle.graphs.specs.Partition.{bit, count, is_node, entry}
use Rattle.graphs.proofs.Replay.{node_is}

-- tests that agree below n pass as often
pub count_same : (f g : ℕ → Bool) (n : ℕ) → ((x : ℕ) → x < n → f x ≡ g x) → count f n ≡ count g n
unfolding count
count_same f g zero h = refl
count_same f g (suc n) h = omega (arith, ap bit (h n (omega arith)), count_same f g n (λ x b. h x (omega arith)))

-- tests that agree below n but at one place, which the first passes and the second does not
pub count_one : (f g : ℕ → Bool) (n m : ℕ) → m < n → f m ≡ true → g m ≡ false → ((x : ℕ) → x < n → (x ≡ m → ⊥) → f x ≡ g x) → count f n ≡ count g n + 1
unfolding count bit
count_one f g zero m h p q other = absurd (omega arith)
count_one f g (suc n) m h p q other = go (λ below. count_one f g n m below p q (λ x b. other x (omega arith))) (ℕ_discrete n m)
  where
    go : (m < n → count f n ≡ count g n + 1) → Dec (n ≡ m) → bit (f n) + count f n ≡ bit (g n) + count g n + 1
    go rest (yes e) =
        omega (
          arith,
          ap (λ (x : ℕ). bit (f x)) e,
          ap (λ (x : ℕ). bit (g x)) e,
          ap bit p,
          ap bit q,
          count_same f g n (λ x b. other x (omega arith) (λ d. omega arith)),
        )
    go rest (no d) =
        omega (arith, ap bit (other n (omega arith) d), rest (omega arith))

-- ---- what is counted

-- the test by which `classes` counts
abbrev pub own_node : {S : Symbols} → Graph S → List ℕ → ℕ → Bool
own_node G row x = is_node (G.head x) && eqb (entry row x) x

pub own_counts : {S : Symbols} {G : Graph S} (row : List ℕ) {x : ℕ} → Node G x → entry row x ≡ x → own_node G row x ≡ true
own_counts {S} {G} row {x} n e = ap₂ ◌&&◌ (node_is n) (eq-eqb (entry row x) x e)

pub other_passes : {S : Symbols} {G : Graph S} (row : List ℕ) {x : ℕ} → Node G x → (entry row x ≡ x → ⊥) → own_node G row x ≡ false
other_passes {S} {G} row {x} n d = ap₂ ◌&&◌ (node_is n) (ne_eqb (entry row x) x d)
