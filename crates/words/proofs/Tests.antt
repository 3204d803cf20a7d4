-- From a test to what it tests: where `test ≡ true` is a fact P, the failed test is that P does not hold, and two tests at once are both
-- facts; where neither of two tests passes, both fail. Assumes nothing.
use mathlib.Core.Path.{◌≡◌, refl, sym}
use mathlib.Core.Bool.{Bool, true, false, ◌&&◌, ◌||◌, true≢false}
use mathlib.Core.Logic.{◌↔◌}

pub false_exactly : (test : Bool) {P : Type 0} → (test ≡ true ↔ P) → test ≡ false ↔ (P → ⊥)
false_exactly true e = (λ f. absurd (true≢false f), λ d. absurd (d (e.0 refl)))
false_exactly false e = (λ f p. true≢false (sym (e.1 p)), λ d. refl)

pub and_exactly : (a b : Bool) {P Q : Type 0} → (a ≡ true ↔ P) → (b ≡ true ↔ Q) → (a && b) ≡ true ↔ (P × Q)
and_exactly true b p q = (λ e. (p.0 refl, q.0 e), λ d. q.1 d.1)
and_exactly false b p q = (λ e. absurd (true≢false (sym e)), λ d. p.1 d.0)

pub or_false : (a b : Bool) → (a || b) ≡ false → (a ≡ false) × (b ≡ false)
or_false true b e = absurd (true≢false e)
or_false false b e = (refl, e)
