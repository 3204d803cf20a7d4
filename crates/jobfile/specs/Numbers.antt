-- Rows of numbers of k bytes each, end to end in a row of bytes, over any k; the job file uses 2 and 4. Assumes nothing.
use Rattle.std.specs.Prelude.{ℕ, zero, suc, ◌<◌, List, [], ◌∷◌, ◌++◌, take, drop, get_or}
use Rattle.rows.specs.LittleEndian.{from_bytes, bytes_of}

-- the bytes of the numbers xs, k bytes each
unfoldable pub bytes_of_row : ℕ → List ℕ → List ℕ
bytes_of_row k [] = []
bytes_of_row k (x ∷ xs) = bytes_of k x ++ bytes_of_row k xs

-- the first m numbers in a row of bytes, k bytes each
unfoldable pub row_in : ℕ → ℕ → List ℕ → List ℕ
row_in k zero bytes = []
row_in k (suc m) bytes = from_bytes (take k bytes) ∷ row_in k m (drop k bytes)

-- every entry is below m; past the end get_or answers 0
abbrev pub AllBelow : ℕ → List ℕ → Type 0
AllBelow m xs = (i : ℕ) → get_or xs i 0 < m
