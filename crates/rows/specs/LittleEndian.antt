-- Numbers as bytes, over any count of bytes; the job file uses 2 and 4. `from_bytes`, `bytes_of` and `number_at` are the interface;
-- `AllBytes` is what the laws ask of a row of bytes. Assumes nothing.
use Rattle.std.specs.Prelude.{ℕ, zero, suc, ◌+◌, ◌*◌, ◌/◌, ◌%◌, ◌<◌, List, [], ◌∷◌, take, drop, get_or}

-- the number that bytes make, the low byte first: each later byte counts 256 times what the one before it counts.
-- Document 01, 'The job file': "All numbers are little-endian, 16 bits except table words."
unfoldable pub from_bytes : List ℕ → ℕ
from_bytes [] = 0
from_bytes (b ∷ bs) = b + 256 * from_bytes bs

-- the k low bytes of the number x, the lowest first
unfoldable pub bytes_of : ℕ → ℕ → List ℕ
bytes_of zero x = []
bytes_of (suc k) x = x % 256 ∷ bytes_of k (x / 256)

-- the number that k bytes make, from place `at` on
unfoldable pub number_at : ℕ → ℕ → List ℕ → ℕ
number_at k at bytes = from_bytes (take k (drop at bytes))

-- every entry is a byte; past the end get_or answers 0, which is one
abbrev pub AllBytes : List ℕ → Type 0
AllBytes bs = (i : ℕ) → get_or bs i 0 < 256
