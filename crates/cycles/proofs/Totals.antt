-- Sums over marks. A store changes a sum by what it changes at its own place (`total_one`); a sum has each of its parts
-- (`total_part`), and the number of new marks is at most that of all (`news_all`). `left` measures the search. Assumes nothing.
use mathlib.Core.Path.{◌≡◌, refl, ap}
use mathlib.Core.List.{List}
use Prim.Native.Nat.{ℕ, zero, suc, ◌+◌, ◌-◌, ◌≤◌, ◌<◌}
use native.Mathlib.Decide.{ℕ_discrete}
use native.Mathlib.Omega.{arith}
use Rattle.cycles.specs.Digraph.{Digraph}
use Rattle.cycles.specs.Steps.Marks.{mark, finished_mark, total}

-- by how much marks can still be raised
abbrev pub left : Digraph → List ℕ → ℕ
left D work = total (λ x m. finished_mark - m) work D.size

module _ (f : ℕ → ℕ → ℕ) (w w' : List ℕ) where
  total_same : (k : ℕ) → ((z : ℕ) → z < k → mark w' z ≡ mark w z) → total f w' k ≡ total f w k
  unfolding total
  total_same zero same = refl
  total_same (suc k) same =
      let here : f k (mark w' k) ≡ f k (mark w k) = ap (f k) (same k (omega arith)) in
      let rest : total f w' k ≡ total f w k = total_same k (λ z h. same z (omega arith)) in
      omega arith

  -- one mark, at x, is another
  pub total_one : (x k : ℕ) → x < k → ((z : ℕ) → z < k → (z ≡ x → ⊥) → mark w' z ≡ mark w z)
      → total f w' k + f x (mark w x) ≡ total f w k + f x (mark w' x)
  unfolding total
  total_one x zero h others = absurd (omega arith)
  total_one x (suc k) h others = go (ℕ_discrete k x) (λ below. total_one x k below (λ z i. others z (omega arith)))
    where
      go : Dec (k ≡ x) → (x < k → total f w' k + f x (mark w x) ≡ total f w k + f x (mark w' x))
          → f k (mark w' k) + total f w' k + f x (mark w x) ≡ f k (mark w k) + total f w k + f x (mark w' x)
      go (yes e) rest =
          let same : total f w' k ≡ total f w k = total_same k (λ z i. others z (omega arith) (λ (p : z ≡ x). omega arith)) in
          let old : f k (mark w k) ≡ f x (mark w x) = ap (λ (y : ℕ). f y (mark w y)) e in
          let new : f k (mark w' k) ≡ f x (mark w' x) = ap (λ (y : ℕ). f y (mark w' y)) e in
          omega arith
      go (no e) rest =
          let here : f k (mark w' k) ≡ f k (mark w k) = ap (f k) (others k (omega arith) e) in
          let below : total f w' k + f x (mark w x) ≡ total f w k + f x (mark w' x) = rest (omega arith) in
          omega arith

pub total_part : (f : ℕ → ℕ → ℕ) (w : List ℕ) (x k : ℕ) → x < k → f x (mark w x) ≤ total f w k
unfolding total
total_part f w x zero h = absurd (omega arith)
total_part f w x (suc k) h = go (ℕ_discrete k x) (λ below. total_part f w x k below)
  where
    go : Dec (k ≡ x) → (x < k → f x (mark w x) ≤ total f w k) → f x (mark w x) ≤ f k (mark w k) + total f w k
    go (yes e) rest = omega (arith, ap (λ (y : ℕ). f y (mark w y)) e)
    go (no e) rest = omega (arith, rest (omega arith))

pub news_all : (w : List ℕ) (k : ℕ) → total (λ x m. 1 - m) w k ≤ k
unfolding total
news_all w zero = omega arith
news_all w (suc k) = omega (arith, news_all w k)
