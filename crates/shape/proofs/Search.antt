-- A search below n, as the library's `find` over the numbers below n has it. Assumes nothing.
use mathlib.Core.Path.{◌≡◌}
use mathlib.Core.Bool.{Bool, true, false}
use Prim.Native.Nat.{ℕ, ◌≤◌, ◌<◌}
use native.Mathlib.Omega.{arith}
use Rattle.std.specs.Prelude.{Option, None, Some, MatchOption}
use Rattle.answering.specs.Answers.{Found}

pub found_in_range :
    (test : ℕ → Bool) (n : ℕ) (r : Option ℕ) →
    MatchOption r ((k : ℕ) → 0 ≤ k → k < n → test k ≡ false) (λ i. (0 ≤ i) × (i < n) × (test i ≡ true) × ((k : ℕ) → 0 ≤ k → k < i → test k ≡ false)) →
    Found test n r
found_in_range test n None none = λ j h. none j (omega arith) h
found_in_range test n (Some i) (from, below, passes, before) = (below, passes, λ j h. before j (omega arith) h)
