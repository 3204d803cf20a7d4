-- The job file, as a row of bytes. The sentences quoted are document 01's, "The job file". Entries are counted from 0 here;
-- an entry's number is one more. Assumes nothing.
use Rattle.std.specs.Prelude.{◌≡◌, List, [], ◌∷◌, ◌++◌, ℕ, zero, suc, ◌+◌, ◌*◌, ◌/◌, ◌≤◌, ◌<◌, length, take, drop}
use Rattle.rows.specs.LittleEndian.{bytes_of, number_at}
use Rattle.words.specs.Limits.{most_bytes, most_jobs}

-- "A body is n words and p pairs, 4 bytes each."
abbrev pub body_size : ℕ → ℕ → ℕ
body_size n p = 4 * n + 4 * p

-- where the contents of J entries end: "The first body starts at 2 + 6J"
abbrev pub contents_end : ℕ → ℕ
contents_end J = 2 + 6 * J

-- ---- what stands in a file

-- "Count J, then J entries of three numbers": "All numbers are little-endian, 16 bits"
abbrev pub count_in : List ℕ → ℕ
count_in bytes = number_at 2 0 bytes

-- ".. offset of the body, n, number of pairs p", of entry k
abbrev pub offset_in : List ℕ → ℕ → ℕ
offset_in bytes k = number_at 2 (2 + 6 * k) bytes

abbrev pub words_in : List ℕ → ℕ → ℕ
words_in bytes k = number_at 2 (2 + 6 * k + 2) bytes

abbrev pub pairs_in : List ℕ → ℕ → ℕ
pairs_in bytes k = number_at 2 (2 + 6 * k + 4) bytes

-- where the body of entry k starts, by the sizes of the entries before it: "The first body starts at 2 + 6J, each next one
-- where the last ended"
unfoldable pub body_start : List ℕ → ℕ → ℕ
body_start bytes zero = contents_end (count_in bytes)
body_start bytes (suc k) = body_start bytes k + body_size (words_in bytes k) (pairs_in bytes k)

-- the body of entry k
abbrev pub body_in : List ℕ → ℕ → List ℕ
body_in bytes k = take (body_size (words_in bytes k) (pairs_in bytes k)) (drop (body_start bytes k) bytes)

-- the sizes of m entries from entry k on: n, p, n, p, ..
unfoldable pub sizes_from : ℕ → ℕ → List ℕ → List ℕ
sizes_from zero k bytes = []
sizes_from (suc m) k bytes = words_in bytes k ∷ pairs_in bytes k ∷ sizes_from m (suc k) bytes

-- "the row of sizes"
abbrev pub sizes_in : List ℕ → List ℕ
sizes_in bytes = sizes_from (count_in bytes) 0 bytes

-- "the bodies as the part of the file after the contents"
abbrev pub bodies_in : List ℕ → List ℕ
bodies_in bytes = drop (contents_end (count_in bytes)) bytes

-- "Contents first, then bodies .. and the file ends with the last." The bounds are those of the refusals 12 and 13.
pub record GoodFile (bytes : List ℕ) : Type 0 where
  pub at_least : 2 ≤ length bytes
  pub at_most : length bytes ≤ most_bytes
  pub some_job : 1 ≤ count_in bytes
  pub few_jobs : count_in bytes ≤ most_jobs
  pub contents_inside : contents_end (count_in bytes) ≤ length bytes
  pub offsets : (k : ℕ) → k < count_in bytes → offset_in bytes k ≡ body_start bytes k
  pub ends : body_start bytes (count_in bytes) ≡ length bytes

-- ---- a file of sizes and bodies

-- J of a row of sizes: n and p of each job
abbrev pub job_count : List ℕ → ℕ
job_count sizes = length sizes / 2

-- how many bytes the bodies of a row of sizes have, by "4 bytes each"
unfoldable pub bodies_size : List ℕ → ℕ
bodies_size [] = 0
bodies_size (x ∷ sizes) = 4 * x + bodies_size sizes

-- the entries of a row of sizes, the first of which has its body at `start`. A size that has no partner is dropped, which only
-- a refused row has
unfoldable pub contents_of : ℕ → List ℕ → List ℕ
contents_of start [] = []
contents_of start (n ∷ []) = []
contents_of start (n ∷ p ∷ sizes) = (bytes_of 2 start ++ bytes_of 2 n ++ bytes_of 2 p) ++ contents_of (start + body_size n p) sizes

-- the file of a row of sizes and the bodies' bytes end to end
unfoldable pub file_of : List ℕ → List ℕ → List ℕ
file_of sizes bodies = bytes_of 2 (job_count sizes) ++ contents_of (contents_end (job_count sizes)) sizes ++ bodies
