-- Walks among the numbers below n. Where no walk comes back to where it was, walks are short, and so there is an induction
-- along them; a walk that can always go on comes back.
--
-- In order: steps (`steps_snoc`, `steps_join`, `steps_map`); a number taken out of a list (`without`); `Short`, and
-- `short_of_no_return`; induction along short walks (`short_induction`); `return_of_endless`.
--
-- The numbers that are still new are kept in a list, from which each visit takes one out: no counting, no pigeonhole.
-- Assumes nothing.
use mathlib.Core.Path.{◌≡◌, refl, sym, ap, ◌∙◌, subst}
use mathlib.Core.Logic.{◌⊎◌, inl, inr, ⊎_elim}
use mathlib.Core.List.{List, [], ◌∷◌, Memᴰ}
use Prim.Native.Nat.{ℕ, zero, suc, ◌≤◌, ◌<◌}
use native.Mathlib.Decide.{ℕ_discrete}
use native.Mathlib.Omega.{arith}
use lib.ListN.{length}
use Rattle.graphs.specs.Graph.{Steps, one, more}

-- ---- steps

pub steps_snoc : {R : ℕ → ℕ → Type 0} {x y z : ℕ} → Steps R x y → R y z → Steps R x z
steps_snoc (one r) s = more r (one s)
steps_snoc (more r rest) s = more r (steps_snoc rest s)

pub steps_join : {R : ℕ → ℕ → Type 0} {x y z : ℕ} → Steps R x y → Steps R y z → Steps R x z
steps_join (one r) s = more r s
steps_join (more r rest) s = more r (steps_join rest s)

pub steps_map : {Q R : ℕ → ℕ → Type 0} → ((x y : ℕ) → Q x y → R x y) → {x y : ℕ} → Steps Q x y → Steps R x y
steps_map f (one {x} {y} q) = one (f x y q)
steps_map f (more {x} {y} q rest) = more (f x y q) (steps_map f rest)

pub steps_last_inside : {R : ℕ → ℕ → Type 0} {n : ℕ} → ((x y : ℕ) → R x y → y < n) → {x y : ℕ} → Steps R x y → y < n
steps_last_inside f (one {x} {y} r) = f x y r
steps_last_inside f (more r rest) = steps_last_inside f rest

-- ---- a number taken out of a list

keep : {x y : ℕ} → Dec (x ≡ y) → List ℕ → List ℕ
keep (yes e) rest = rest
keep {x} {y} (no e) rest = y ∷ rest

pub without : ℕ → List ℕ → List ℕ
without x [] = []
without x (y ∷ ys) = keep (ℕ_discrete x y) (without x ys)

keep-length : {x y : ℕ} (d : Dec (x ≡ y)) (rest : List ℕ) → length (keep d rest) ≤ suc (length rest)
unfolding keep
keep-length (yes e) rest = omega arith
keep-length (no e) rest = omega arith

without-length : (x : ℕ) (l : List ℕ) → length (without x l) ≤ length l
unfolding without
without-length x [] = omega arith
without-length x (y ∷ ys) = omega (arith, keep-length (ℕ_discrete x y) (without x ys), without-length x ys)

pub without_shorter : {x : ℕ} {l : List ℕ} → Memᴰ x l → length (without x l) < length l
unfolding without keep
without_shorter {x} (Memᴰ.head {x = y} {xs = ys} e) = go (ℕ_discrete x y)
  where
    go : (d : Dec (x ≡ y)) → length (keep d (without x ys)) < suc (length ys)
    go (yes p) = omega (arith, without-length x ys)
    go (no p) = absurd (p e)
without_shorter {x} (Memᴰ.tail {x = y} {xs = ys} m) =
    omega (arith, keep-length (ℕ_discrete x y) (without x ys), without_shorter m)

pub still_in : {x y : ℕ} {l : List ℕ} → Memᴰ y l → (x ≡ y → ⊥) → Memᴰ y (without x l)
unfolding without keep
still_in {x} {y} (Memᴰ.head {x = z} {xs = zs} e) other = go (ℕ_discrete x z)
  where
    go : (d : Dec (x ≡ z)) → Memᴰ y (keep d (without x zs))
    go (yes p) = absurd (other (p ∙ sym e))
    go (no p) = Memᴰ.head e
still_in {x} {y} (Memᴰ.tail {x = z} {xs = zs} m) other = go (ℕ_discrete x z) (still_in m other)
  where
    go : (d : Dec (x ≡ z)) → Memᴰ y (without x zs) → Memᴰ y (keep d (without x zs))
    go (yes p) t = t
    go (no p) t = Memᴰ.tail t

pub upto : ℕ → List ℕ
upto zero = []
upto (suc n) = n ∷ upto n

pub upto-length : (n : ℕ) → length (upto n) ≡ n
unfolding upto
upto-length zero = refl
upto-length (suc n) = ap suc (upto-length n)

pub upto_has : (n x : ℕ) → x < n → Memᴰ x (upto n)
unfolding upto
upto_has zero x h = absurd (omega arith)
upto_has (suc n) x h = go (ℕ_discrete x n) (λ k. upto_has n x k)
  where
    go : Dec (x ≡ n) → (x < n → Memᴰ x (upto n)) → Memᴰ x (n ∷ upto n)
    go (yes e) f = Memᴰ.head e
    go (no e) f = Memᴰ.tail (f (omega arith))

not_empty : {x : ℕ} {l : List ℕ} → Memᴰ x l → 0 < length l
not_empty (Memᴰ.head e) = omega arith
not_empty (Memᴰ.tail m) = omega arith

-- ---- short walks

-- Each walk of R from x has fewer than k steps.
abbrev pub Short : (R : ℕ → ℕ → Type 0) → ℕ → ℕ → Type 0
Short R zero x = ⊥
Short R (suc k) x = (y : ℕ) → R x y → Short R k y

pub short_map : {Q R : ℕ → ℕ → Type 0} → ((x y : ℕ) → Q x y → R x y) → (k x : ℕ) → Short R k x → Short Q k x
short_map f zero x s = s
short_map f (suc k) x s = λ y q. short_map f k y (s y (f x y q))

module _ (R : ℕ → ℕ → Type 0) (no_return : (x : ℕ) → Steps R x x → ⊥) where
  -- what is left to visit is in `left`, and so is all that x leads to
  short_within : (k x : ℕ) (left : List ℕ) → length left ≤ k → Memᴰ x left → ((z : ℕ) → Steps R x z → Memᴰ z left) → Short R k x
  short_within zero x left few m all = omega (arith, not_empty m)
  short_within (suc k) x left few m all = λ y r.
      short_within k y (without x left) (omega (arith, without_shorter m))
      (still_in (all y (one r)) (λ e. no_return x (subst (λ (w : ℕ). Steps R x w) (sym e) (one r))))
      (λ z s. still_in (all z (more r s)) (λ e. no_return x (subst (λ (w : ℕ). Steps R x w) (sym e) (more r s))))

  -- Where no walk comes back, a walk among the numbers below n has fewer than n steps.
  pub short_of_no_return : (n : ℕ) → ((x y : ℕ) → R x y → y < n) → (x : ℕ) → x < n → Short R n x
  short_of_no_return n inside x h =
      short_within n x (upto n) (omega (arith, upto-length n)) (upto_has n x h)
      (λ z s. upto_has n z (steps_last_inside inside s))

-- An induction along walks.
pub short_induction : {R : ℕ → ℕ → Type 0} (P : ℕ → Type 0) → ((x : ℕ) → ((y : ℕ) → R x y → P y) → P x) → (k x : ℕ) → Short R k x → P x
short_induction P f zero x s = absurd s
short_induction P f (suc k) x s = f x (λ y r. short_induction P f k y (s y r))

-- ---- a walk that can always go on comes back

module _ (R : ℕ → ℕ → Type 0) (W : ℕ → Type 0) (n : ℕ) (inside : (x : ℕ) → W x → x < n) (next : (x : ℕ) → W x → (y : ℕ) × R x y × W y) where
  -- each number below n is still in `left`, or leads to x
  walk_on : (k x : ℕ) (left : List ℕ) → length left ≤ k → W x → ((v : ℕ) → v < n → Memᴰ v left ⊎ Steps R v x) → (z : ℕ) × Steps R z z
  walk_on zero x left few w seen = ⊎_elim (λ m. absurd (omega (arith, not_empty m))) (λ s. (x, s)) (seen x (inside x w))
  walk_on (suc k) x left few w seen =
      ⊎_elim
      (λ m. walk_on k (next x w).0 (without x left) (omega (arith, without_shorter m)) (next x w).2
      (λ v h. on_the_way v (ℕ_discrete x v) (seen v h)))
      (λ s. (x, s))
      (seen x (inside x w))
    where
      on_the_way : (v : ℕ) → Dec (x ≡ v) → Memᴰ v left ⊎ Steps R v x → Memᴰ v (without x left) ⊎ Steps R v (next x w).0
      on_the_way v (yes e) old = inr (subst (λ (u : ℕ). Steps R u (next x w).0) e (one (next x w).1))
      on_the_way v (no e) (inl m) = inl (still_in m e)
      on_the_way v (no e) (inr s) = inr (steps_snoc s (next x w).1)

  pub return_of_endless : (x : ℕ) → W x → (z : ℕ) × Steps R z z
  return_of_endless x w =
      walk_on n x (upto n) (omega (arith, upto-length n)) w (λ v h. inl (upto_has n v h))
