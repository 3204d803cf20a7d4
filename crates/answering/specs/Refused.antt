-- What the number and the place of a result are. Assumes nothing.
use Rattle.std.specs.Prelude.{ℕ, Result, Ok, Err}

-- "0 | accepted | 0", whatever is yielded; what refuses has a number and a place of its own
abbrev pub zero_unless_refused : {T E : Type 0} → (E → ℕ) → Result T E → ℕ
zero_unless_refused of (Ok yielded) = 0
zero_unless_refused of (Err refusal) = of refusal
