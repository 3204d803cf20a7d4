-- A number as text: its decimal digits in ASCII, the first one first. Assumes nothing.
use Rattle.std.specs.Prelude.{cond, List, [], ◌∷◌, ◌++◌, ℕ, zero, suc, ◌+◌, ◌-◌, ◌*◌, ◌/◌, ◌%◌, ltb}

-- the last digits of x, at most as many as the first number says; '0' is 48
unfoldable pub digits : ℕ → ℕ → List ℕ
digits zero x = []
digits (suc most) x = cond (ltb x 10) ((48 + x) ∷ []) (digits most (x / 10) ++ ((48 + x % 10) ∷ []))

-- all digits of x: no zeros in front, and one '0' for 0. A number has at most one digit more than it counts
unfoldable pub decimal : ℕ → List ℕ
decimal x = digits (suc x) x

-- Text read back: the numbers in a row of bytes, of which the first one is already read as far as n. A byte below '0', as a
-- space and the end of a line are, ends a number.
unfoldable pub numbers_from : ℕ → List ℕ → List ℕ
numbers_from n [] = []
numbers_from n (b ∷ bytes) = cond (ltb b 48) (n ∷ numbers_from 0 bytes) (numbers_from (10 * n + (b - 48)) bytes)

-- the numbers in a row of bytes
abbrev pub numbers_in : List ℕ → List ℕ
numbers_in bytes = numbers_from 0 bytes
