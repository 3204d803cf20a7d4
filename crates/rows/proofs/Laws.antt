-- The laws of rows, each over the width or the type of an entry, so that none is said twice.
--
-- In order:
--     numbers as bytes          length-bytes_of, number_bytes_of, number_below, bytes_of_number
--     a number byte by byte     fetched, number_at-fetched, from_bytes-fetched (a read); placed-sets (a write)
--     a row put over a part     length-placed, number_at-placed, number_at-placed_before, number_at-placed_after
--     a row from the front      Built, built_none, built_more, built_all: every loop that clears, fills or copies
--     by the library's methods  filled_front, filled_whole (`fill`); copied_front, copied_within (`copy_from_slice`); front_placed
--     behind the front          behind_stays, behind_cleared, cleared_zero: what a replaced or cleared front leaves
--     one answer                equations_agree
--
-- Not here: the laws of `take`, `drop`, `set`, `sets` and `◌++◌` (`lib.Seq`), and those of `replicate` (`lib.ListN`).
-- Assumes nothing.
use mathlib.Core.Path.{◌≡◌, refl, sym, ap, ◌∙◌}
use Prim.Native.Nat.{ℕ, zero, suc, ◌+◌, ◌-◌, ◌*◌, ◌/◌, ◌%◌, ◌^◌, ◌≤◌, ◌<◌}
use native.Mathlib.Nat.{pow-zero, pow-suc}
use native.Mathlib.Numerals.{add-one}
use native.Mathlib.Omega.{arith}
use mathlib.Core.List.{List, [], ◌∷◌, ◌++◌, append_assoc}
use lib.ListN.{length, take, drop, get_or, set, replicate, length-replicate, get_or-replicate, get_or-append, length-set, length-append, length-take, length-drop, take-append-drop}
use lib.Seq.{drop-cons, take-suc, append_snoc, set_at, take_at, drop_at, length-take-le, take_all, take-append-le, drop-append-le, drop-append-add, drop-drop, drop-length, sets, sets-eq}
use borrow.Rule.Slice.PartMut.{put_mid}
use Rattle.std.proofs.lemmas.List.{append-nil}
use Rattle.rows.specs.LittleEndian.{from_bytes, bytes_of, number_at, AllBytes}
use Rattle.rows.specs.Placed.{placed, zeroed}

-- ---- numbers as bytes

pub length-bytes_of : (k x : ℕ) → length (bytes_of k x) ≡ k
unfolding bytes_of
length-bytes_of zero x = refl
length-bytes_of (suc k) x = ap suc (length-bytes_of k (x / 256))

-- a number that k bytes can hold is the number that its k bytes make
pub number_bytes_of : (k x : ℕ) → x < 256 ^ k → from_bytes (bytes_of k x) ≡ x
unfolding from_bytes bytes_of
number_bytes_of zero x h = omega (arith, pow-zero 256)
number_bytes_of (suc k) x h =
    let rest : from_bytes (bytes_of k (x / 256)) ≡ x / 256 = number_bytes_of k (x / 256) (omega (arith, pow-suc 256 k)) in
    omega arith

-- what k bytes make, k bytes can hold
pub number_below : (bs : List ℕ) → AllBytes bs → from_bytes bs < 256 ^ length bs
unfolding from_bytes
number_below [] h = omega (arith, pow-zero 256)
number_below (b ∷ bs) h = omega (arith, pow-suc 256 (length bs), number_below bs (λ i. h (suc i)), h 0)

-- the bytes of the number that bytes make are those bytes
pub bytes_of_number : (bs : List ℕ) → AllBytes bs → bytes_of (length bs) (from_bytes bs) ≡ bs
unfolding from_bytes bytes_of
bytes_of_number [] h = refl
bytes_of_number (b ∷ bs) h =
    let low : (b + 256 * from_bytes bs) % 256 ≡ b = omega (arith, h 0) in
    let high : (b + 256 * from_bytes bs) / 256 ≡ from_bytes bs = omega (arith, h 0) in
    let rest : bytes_of (length bs) (from_bytes bs) ≡ bs = bytes_of_number bs (λ i. h (suc i)) in
    rw (low, high, rest)

-- ---- a number byte by byte

-- the number that k bytes make, one load for each byte. At a numeral k it computes to the loads and products of straight-line code
abbrev pub fetched : ℕ → ℕ → List ℕ → ℕ
fetched zero at bytes = 0
fetched (suc k) at bytes = get_or bytes at 0 + 256 * fetched k (suc at) bytes

pub number_at-fetched : (k at : ℕ) (bytes : List ℕ) → at + k ≤ length bytes → number_at k at bytes ≡ fetched k at bytes
unfolding number_at from_bytes
number_at-fetched zero at bytes h = refl
number_at-fetched (suc k) at bytes h =
    let first : at < length bytes = omega arith in
    let rest : number_at k (suc at) bytes ≡ fetched k (suc at) bytes = number_at-fetched k (suc at) bytes (omega arith) in
    rw (drop-cons bytes at 0 first) (ap (λ (n : ℕ). get_or bytes at 0 + 256 * n) rest)

-- the same of k bytes that are a row of their own
pub from_bytes-fetched : (k : ℕ) (bytes : List ℕ) → length bytes ≡ k → from_bytes bytes ≡ fetched k 0 bytes
unfolding number_at
from_bytes-fetched k bytes h = ap from_bytes (sym (take_all k bytes (omega arith))) ∙ number_at-fetched k 0 bytes (omega arith)

-- one store for each of k bytes. At a numeral k its left side computes to the stores of straight-line code
pub placed-sets : (k x at : ℕ) (row : List ℕ) → at + k ≤ length row → sets row at (bytes_of k x) ≡ placed at (bytes_of k x) row
unfolding placed
placed-sets k x at row h = sets-eq (bytes_of k x) row at (rw length-bytes_of h)

-- ---- a row put over a part

module _ {ℓ} {A : Type ℓ} where
  pub length-placed : (at : ℕ) (xs row : List A) → at + length xs ≤ length row → length (placed at xs row) ≡ length row
  unfolding placed
  length-placed at xs row h = simp (length-append, length-take, length-drop) (omega arith)

  -- the k entries from place `at` on, where they all lie in a front
  part_front : (k at : ℕ) (front rest : List A) → at + k ≤ length front → take k (drop at (front ++ rest)) ≡ take k (drop at front)
  part_front k at front rest h =
      let start : at ≤ length front = omega arith in
      let end : k ≤ length (drop at front) = simp length-drop (omega arith) in
      rw (drop-append-le, take-append-le)

-- a number is read back from where its bytes were placed
pub number_at-placed : (k x at : ℕ) (row : List ℕ) → x < 256 ^ k → at + k ≤ length row → number_at k at (placed at (bytes_of k x) row) ≡ x
unfolding number_at placed
number_at-placed k x at row below h =
    let start : length (take at row) ≡ at = length-take-le at row (omega arith) in
    rw (append_assoc, drop_at (take at row) _ at start, take_at (bytes_of k x) _ k (length-bytes_of k x)) (number_bytes_of k x below)

-- a number that ends before what was placed is as it was
pub number_at-placed_before : (k from at : ℕ) (xs row : List ℕ) → from + k ≤ at → at ≤ length row
    → number_at k from (placed at xs row) ≡ number_at k from row
unfolding number_at placed
number_at-placed_before k from at xs row h inside =
    let front : from + k ≤ length (take at row) = simp (length-take-le at row inside) h in
    ap from_bytes
    (simp append_assoc (part_front k from (take at row) (xs ++ drop (at + length xs) row) front)
    ∙ sym (part_front k from (take at row) (drop at row) front)
    ∙ ap (λ (l : List ℕ). take k (drop from l)) (take-append-drop at row))

-- a number that starts after what was placed is as it was
pub number_at-placed_after : (k from at : ℕ) (xs row : List ℕ) → at + length xs ≤ from → at ≤ length row
    → number_at k from (placed at xs row) ≡ number_at k from row
unfolding number_at placed
number_at-placed_after k from at xs row h inside =
    let n : ℕ = at + length xs in
    let past : ℕ = from - n in
    let way : from ≡ n + past = omega arith in
    let head : length (take at row ++ xs) ≡ n = simp (length-append, length-take-le at row inside) in
    ap (λ (l : List ℕ). from_bytes (take k l))
    (ap (λ (m : ℕ). drop m (placed at xs row)) (way ∙ ap (λ (m : ℕ). m + past) (sym head))
    ∙ drop-append-add (take at row ++ xs) (drop n row) past
    ∙ drop-drop past n row
    ∙ ap (λ (m : ℕ). drop m row) (sym way))

-- ---- a row from the front

module _ {A : Type 0} where
  -- row is row₀ with its first i entries those of whole, which has n entries, and row₀ room for them
  pub record Built (whole row₀ : List A) (n i : ℕ) (row : List A) : Type 0 where
    pub so_far : row ≡ take i whole ++ drop i row₀
    pub full : length whole ≡ n
    pub within : i ≤ n
    pub room : n ≤ length row₀
    pub same_length : length row ≡ length row₀

  -- before the first turn
  pub built_none : {whole row₀ : List A} {n : ℕ} → length whole ≡ n → n ≤ length row₀ → Built whole row₀ n 0 row₀
  built_none full room = record { so_far = refl; full = full; within = omega arith; room = room; same_length = refl }

  -- a turn stores the entry of whole that is next
  pub built_more : {whole row₀ row : List A} {n i : ℕ} {v : A} (d : A) → Built whole row₀ n i row → i < n → v ≡ get_or whole i d
      → Built whole row₀ n (i + 1) (set row i v)
  built_more {whole} {row₀} {row} {n} {i} {v} d built more next =
      let inside : i < length row₀ = omega arith in
      let left : i < length whole = omega arith in
      let seam : length (take i whole) ≡ i = length-take-le i whole (omega arith) in
      record {
        so_far = rw (built.so_far, drop-cons row₀ i d inside, set_at (take i whole) (get_or row₀ i d) (drop (suc i) row₀) v i seam, next, add-one, take-suc whole i d left, append_snoc);
        full = built.full;
        within = omega arith;
        room = built.room;
        same_length = length-set row i v ∙ built.same_length;
      }

  -- after the last turn
  pub built_all : {whole row₀ row : List A} {n i : ℕ} → Built whole row₀ n i row → n ≤ i → row ≡ whole ++ drop n row₀
  built_all {whole} {row₀} {row} {n} {i} built past =
      let end : i ≡ n = omega arith in
      let all : length whole ≤ i = omega arith in
      built.so_far ∙ rw (take_all i whole all, end)

-- ---- by the library's methods

-- What `row[..n].fill(0)` leaves. `filled` is the part that was lent, as it is behind the call: in an answer `c.fill.new.self`, and the
-- last argument is `c.fill.ensures.after (λ y e. e)`.
pub filled_front : (n : ℕ) (row filled : List ℕ) → n ≤ length row → filled ≡ replicate (length (take n row)) 0 → filled ++ drop n row ≡ zeroed n row
filled_front n row filled h same = rw (same, length-take-le n row h)

-- What `row.fill(0)` leaves: the whole row is its front.
pub filled_whole : (row filled : List ℕ) → filled ≡ replicate (length row) 0 → filled ≡ zeroed (length row) row
filled_whole row filled same = rw (same, drop-length, append-nil)

module _ {A : Type 0} where
  -- What `row[..k].copy_from_slice(xs)` leaves: the last argument is `c.copy_from_slice.ensures.after`, here and in the next.
  pub copied_front : (k : ℕ) (xs row copied : List A) → k ≡ length xs → copied ≡ xs → copied ++ drop k row ≡ xs ++ drop (length xs) row
  copied_front k xs row copied long same = rw (same, long)

  -- What `row[at..at + k].copy_from_slice(xs)` leaves.
  pub copied_within : (at k : ℕ) (xs row copied : List A) → k ≡ length xs → copied ≡ xs → put_mid at k row copied ≡ placed at xs row
  unfolding placed
  copied_within at k xs row copied long same = rw (same, long, drop-drop, append_assoc)

  -- A row put over the front of another is placed there.
  pub front_placed : (xs row : List A) → xs ++ drop (length xs) row ≡ placed 0 xs row
  unfolding placed
  front_placed xs row = let from_0 : length xs ≡ 0 + length xs = omega arith in ap (λ (n : ℕ). xs ++ drop n row) from_0

-- ---- behind the front

-- what stands behind a front that was replaced stays
pub behind_stays {ℓ} : {A : Type ℓ} (front row : List A) (k m : ℕ) → length front ≡ k → k ≤ m → drop m (front ++ drop k row) ≡ drop m row
behind_stays front row k m e h =
    let j : k + (m - k) ≡ m = omega arith in
    ap (λ (i : ℕ). drop i (front ++ drop k row)) (sym j)
    ∙ sym (drop-drop (m - k) k (front ++ drop k row))
    ∙ ap (drop (m - k)) (drop_at front (drop k row) k e)
    ∙ drop-drop (m - k) k row
    ∙ ap (λ (i : ℕ). drop i row) j

pub behind_cleared : (row : List ℕ) (k m : ℕ) → k ≤ m → drop m (zeroed k row) ≡ drop m row
behind_cleared row k m h = behind_stays (replicate k 0) row k m (length-replicate k 0) h

-- an entry of a cleared front is 0
pub cleared_zero : (row : List ℕ) (n i : ℕ) → i < n → get_or (zeroed n row) i 0 ≡ 0
cleared_zero row n i h =
    get_or-append (replicate n 0) (drop n row) 0 i (omega (arith, length-replicate {A = ℕ} n 0)) ∙ get_or-replicate n i 0 0 h

-- ---- one answer

-- A front that is cleared stays so when a part of it is cleared again.
pub cleared_again : (row : List ℕ) (k n : ℕ) → k ≤ n → zeroed k (replicate n 0 ++ row) ≡ replicate n 0 ++ row
cleared_again row zero n h = refl
cleared_again row (suc k) zero h = absurd (omega arith)
cleared_again row (suc k) (suc n) h = ap (λ (rest : List ℕ). 0 ∷ rest) (cleared_again row k n (omega arith))

-- A contract that is an equation leaves nothing open: two answers that it allows are equal
pub equations_agree {ℓ} : {A : Type ℓ} {x y e : A} → x ≡ e → y ≡ e → x ≡ y
equations_agree p q = p ∙ sym q
