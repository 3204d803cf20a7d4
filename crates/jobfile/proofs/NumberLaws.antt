-- Laws of numbers of k bytes in a row of bytes, over k.
--
-- In order:
--     a part           to_the_end
--     one number       number_there_lem, rest_there (written here, so it is read here); bytes_there (read here, so it is written so)
--     a row of them    length-bytes_of_row, row_read_back, length-row_in, entry_row_in
-- Assumes nothing.
use mathlib.Core.Path.{◌≡◌, refl, sym, ap, ◌∙◌}
use Prim.Native.Nat.{ℕ, zero, suc, ◌+◌, ◌-◌, ◌*◌, ◌^◌, ◌≤◌, ◌<◌}
use native.Mathlib.Nat.{mul-suc, mul-zero, min-le_left}
use native.Mathlib.Decide.{dec_lt}
use native.Mathlib.Omega.{arith}
use mathlib.Core.List.{List, [], ◌∷◌, ◌++◌, append_assoc}
use lib.ListN.{length, take, drop, get_or, length-append, length-take, length-drop, take-append-drop, get_or-eq_default}
use lib.Seq.{take_all, take_at, drop_at, drop-drop, get_or-drop, get_or-take, length-take-le}
use Rattle.rows.specs.LittleEndian.{from_bytes, bytes_of, number_at, AllBytes}
use Rattle.rows.proofs.Laws.{length-bytes_of, number_bytes_of, bytes_of_number}
use Rattle.jobfile.specs.Numbers.{bytes_of_row, row_in, AllBelow}

-- ---- a part

-- what a part has that goes up to the end
pub to_the_end : {A : Type 0} (at : ℕ) (row : List A) → take (length row - at) (drop at row) ≡ drop at row
to_the_end at row = take_all (length row - at) (drop at row) (simp length-drop (omega arith))

-- ---- one number

module _ (k x at : ℕ) (bytes rest : List ℕ) (here : drop at bytes ≡ bytes_of k x ++ rest) where
  pub number_there_lem : x < 256 ^ k → number_at k at bytes ≡ x
  unfolding number_at
  number_there_lem below = ap (λ (l : List ℕ). from_bytes (take k l)) here ∙ ap from_bytes (take_at (bytes_of k x) rest k (length-bytes_of k x)) ∙ number_bytes_of k x below

  pub rest_there : drop (at + k) bytes ≡ rest
  rest_there = sym (drop-drop k at bytes) ∙ ap (drop k) here ∙ drop_at (bytes_of k x) rest k (length-bytes_of k x)

-- bytes are bytes, wherever a part begins and ends
all_bytes_part : (k at : ℕ) (bytes : List ℕ) → AllBytes bytes → AllBytes (take k (drop at bytes))
all_bytes_part k at bytes all i = go (dec_lt i k)
  where
    go : Dec (i < k) → get_or (take k (drop at bytes)) i 0 < 256
    go (yes h) = rw (get_or-take k (drop at bytes) i 0 h, get_or-drop at bytes i 0) (all (at + i))
    go (no h) =
        let out : length (take k (drop at bytes)) ≤ i = omega (arith, length-take k (drop at bytes), min-le_left k (length (drop at bytes))) in
        omega (arith, get_or-eq_default (take k (drop at bytes)) 0 out)

-- the bytes of the number that stands at a place are the bytes there
pub bytes_there : (k at : ℕ) (bytes : List ℕ) → AllBytes bytes → at + k ≤ length bytes → bytes_of k (number_at k at bytes) ++ drop (at + k) bytes ≡ drop at bytes
unfolding number_at
bytes_there k at bytes all inside =
    let part : List ℕ = take k (drop at bytes) in
    let size : length part ≡ k = length-take-le k (drop at bytes) (simp length-drop (omega arith)) in
    ap (λ (m : ℕ). bytes_of m (from_bytes part) ++ drop (at + k) bytes) (sym size)
    ∙ ap (λ (l : List ℕ). l ++ drop (at + k) bytes) (bytes_of_number part (all_bytes_part k at bytes all))
    ∙ ap (λ (l : List ℕ). part ++ l) (sym (drop-drop k at bytes))
    ∙ take-append-drop k (drop at bytes)

-- ---- a row of numbers

pub length-bytes_of_row : (k : ℕ) (xs : List ℕ) → length (bytes_of_row k xs) ≡ k * length xs
unfolding bytes_of_row
length-bytes_of_row k [] = sym (mul-zero k)
length-bytes_of_row k (x ∷ xs) = omega (arith, length-append (bytes_of k x) (bytes_of_row k xs), length-bytes_of k x, length-bytes_of_row k xs, mul-suc k (length xs))

-- numbers that k bytes can hold are read back from their bytes
pub row_read_back : (k : ℕ) (xs rest : List ℕ) → AllBelow (256 ^ k) xs → row_in k (length xs) (bytes_of_row k xs ++ rest) ≡ xs
unfolding bytes_of_row row_in
row_read_back k [] rest below = refl
row_read_back k (x ∷ xs) rest below =
    let size : length (bytes_of k x) ≡ k = length-bytes_of k x in
    let first : from_bytes (bytes_of k x) ≡ x = number_bytes_of k x (below 0) in
    let later : row_in k (length xs) (bytes_of_row k xs ++ rest) ≡ xs = row_read_back k xs rest (λ i. below (suc i)) in
    rw (append_assoc, take_at (bytes_of k x) (bytes_of_row k xs ++ rest) k size, drop_at (bytes_of k x) (bytes_of_row k xs ++ rest) k size, first, later)

pub length-row_in : (k m : ℕ) (bytes : List ℕ) → length (row_in k m bytes) ≡ m
unfolding row_in
length-row_in k zero bytes = refl
length-row_in k (suc m) bytes = ap suc (length-row_in k m (drop k bytes))

-- number i of a row stands at k times i
pub entry_row_in : (k m i : ℕ) (bytes : List ℕ) → i < m → get_or (row_in k m bytes) i 0 ≡ number_at k (k * i) bytes
unfolding row_in number_at
entry_row_in k zero i bytes h = absurd (omega arith)
entry_row_in k (suc m) zero bytes h = ap (λ (at : ℕ). from_bytes (take k (drop at bytes))) (sym (mul-zero k))
entry_row_in k (suc m) (suc i) bytes h =
    let way : k + k * i ≡ k * suc i = omega (arith, mul-suc k i) in
    entry_row_in k m i (drop k bytes) (omega arith)
    ∙ ap (λ (l : List ℕ). from_bytes (take k l)) (drop-drop (k * i) k bytes)
    ∙ ap (λ (at : ℕ). from_bytes (take k (drop at bytes))) way
