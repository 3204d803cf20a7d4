-- A row with a shorter row put over a part of it, and a row with zeros in front. Assumes nothing.
use Rattle.std.specs.Prelude.{ℕ, ◌+◌, List, ◌++◌, length, take, drop, replicate}

module _ {ℓ} {A : Type ℓ} where
  -- row, with the entries from place `at` on replaced by xs, as many as xs has; before and after them it is as it was
  unfoldable pub placed : ℕ → List A → List A → List A
  placed at xs row = take at row ++ xs ++ drop (at + length xs) row

-- the first n entries are 0, and the entries above stay
abbrev pub zeroed : ℕ → List ℕ → List ℕ
zeroed n row = replicate n 0 ++ drop n row
