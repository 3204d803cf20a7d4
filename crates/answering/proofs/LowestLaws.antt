-- The lowest number with a property, and the first that passes a test: there is one (`lowest_only`, `first_only`, `found_only`), the one
-- is the other (`found_lowest`), and where there is none nothing passes (`found_none`, `none_at_all`).
-- Assumes nothing.
use mathlib.Core.Path.{◌≡◌, refl, sym, ap, ◌∙◌}
use mathlib.Core.Bool.{Bool, true, true≢false}
use Prim.Native.Nat.{ℕ, zero, suc, ◌<◌}
use native.Mathlib.Decide.{dec_lt}
use native.Mathlib.Omega.{arith}
use Rattle.std.specs.Prelude.{Option, None, Some}
use Rattle.answering.specs.Answers.{Lowest, First, Found}

-- two numbers, neither of which is below the other
pub neither_below : {j k : ℕ} → (j < k → ⊥) → (k < j → ⊥) → j ≡ k
neither_below {j} {k} f g = go (dec_lt j k) (dec_lt k j)
  where
    go : Dec (j < k) → Dec (k < j) → j ≡ k
    go (yes h) d = absurd (f h)
    go (no h) (yes l) = absurd (g l)
    go (no h) (no l) = omega arith

pub lowest_only : {P : ℕ → Type 0} {j k : ℕ} → Lowest P j → Lowest P k → j ≡ k
lowest_only {P} {j} {k} l m = neither_below (λ h. m.none_below j h l.has) (λ h. l.none_below k h m.has)

-- where no number is the lowest with a property, no number has it
pub none_at_all : {P : ℕ → Type 0} → ((a : ℕ) → Lowest P a → ⊥) → (k a : ℕ) → a < k → P a → ⊥
none_at_all lowest zero a h p = omega arith
none_at_all lowest (suc k) a h p = lowest a (record { has = p; none_below = λ j l q. none_at_all lowest k j (omega arith) q })

module _ {test : ℕ → Bool} {n : ℕ} where
  -- what stands before the first does not pass
  before_fails : {r j : ℕ} → First test n r → j < r → test j ≡ true → ⊥
  before_fails {r} {j} f h t = true≢false (sym t ∙ f.before j h)

  pub first_only : {j k : ℕ} → First test n j → First test n k → j ≡ k
  first_only f g =
      neither_below (λ h. before_fails g h (f.passes (omega (arith, g.within)))) (λ h. before_fails f h (g.passes (omega (arith, f.within))))

  pub found_lowest : {r : ℕ} → Found test n (Some r) → Lowest (λ b. (b < n) × (test b ≡ true)) r
  found_lowest (inside, passes, before) =
      record { has = (inside, passes); none_below = λ j l p. true≢false (sym p.1 ∙ before j l) }

  pub found_none : Found test n None → (b : ℕ) → (b < n) × (test b ≡ true) → ⊥
  found_none none b (l, t) = true≢false (sym t ∙ none b l)

pub found_only : (test : ℕ → Bool) (n : ℕ) (r s : Option ℕ) → Found test n r → Found test n s → r ≡ s
found_only test n (Some j) (Some k) f g = ap Some (lowest_only (found_lowest f) (found_lowest g))
found_only test n (Some j) None f g = absurd (found_none g j (f.0, f.1))
found_only test n None (Some k) f g = absurd (found_none f k (g.0, g.1))
found_only test n None None f g = refl
