-- What is taken out of a body. Assumes nothing.
use Rattle.std.specs.Prelude.{List, ◌++◌, ℕ, ◌/◌, map, min, length, drop}
use Rattle.jobfile.specs.Numbers.{row_in}

module _ {A : Type 0} where
  -- how many numbers of k bytes are in a row of bytes and have room in another row
  abbrev pub fitting : ℕ → List ℕ → List A → ℕ
  fitting k bytes row = min (length row) (length bytes / k)

  -- the row with the numbers that bytes make, k bytes each, over its front: as many as there are, and as have room. `of_number` is
  -- the entry that a number is
  unfoldable pub taken : (ℕ → A) → ℕ → List ℕ → List A → List A
  taken of_number k bytes row = map of_number (row_in k (fitting k bytes row) bytes) ++ drop (fitting k bytes row) row
