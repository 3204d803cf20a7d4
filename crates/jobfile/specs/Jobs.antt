-- The jobs of a job file: each a table's words and a list's pairs. The sentences quoted are document 01's, "The job file".
-- Assumes nothing.
use Rattle.std.specs.Prelude.{◌≡◌, List, [], ◌∷◌, ◌++◌, ℕ, ◌-◌, ◌*◌, ◌^◌, ◌≤◌, ◌<◌, length, take, drop}
use Rattle.std.proofs.Props.{props}
use Rattle.words.specs.Limits.{most_bytes, most_jobs}
use Rattle.graphs.specs.Partition.{Pair, pairs_of}
use Rattle.jobfile.specs.Numbers.{bytes_of_row, row_in, AllBelow}
use Rattle.jobfile.specs.File.{body_size, count_in, words_in, pairs_in, body_in, sizes_in, bodies_in, GoodFile, file_of}

pub record FileJob : Type 0 where
  pub words : List ℕ
  pub pairs : List Pair

-- "as 16-bit addresses: left, right, left, right"
unfoldable pub entries_of : List Pair → List ℕ
entries_of [] = []
entries_of (pair ∷ pairs) = pair.left ∷ pair.right ∷ entries_of pairs

-- ---- a file of jobs

-- n, p, n, p, ..
unfoldable pub sizes_of : List FileJob → List ℕ
sizes_of [] = []
sizes_of (job ∷ jobs) = length job.words ∷ length job.pairs ∷ sizes_of jobs

-- "A body is n words and p pairs": table words have 4 bytes, addresses 2
abbrev pub body_of : FileJob → List ℕ
body_of job = bytes_of_row 4 job.words ++ bytes_of_row 2 (entries_of job.pairs)

unfoldable pub bodies_of : List FileJob → List ℕ
bodies_of [] = []
bodies_of (job ∷ jobs) = body_of job ++ bodies_of jobs

abbrev pub file_of_jobs : List FileJob → List ℕ
file_of_jobs jobs = file_of (sizes_of jobs) (bodies_of jobs)

-- each word is a number of 32 bits, and each address one of 16
abbrev pub AllFit : List FileJob → Type 0
AllFit [] = Unit {0}
AllFit (job ∷ jobs) = AllBelow (256 ^ 4) job.words × AllBelow (256 ^ 2) (entries_of job.pairs) × AllFit jobs

-- Jobs that a file can hold: 1 to 64, in a file of at most 32,768 bytes.
pub record Holdable (jobs : List FileJob) : Type 0 where
  pub some_job : 1 ≤ length jobs
  pub few_jobs : length jobs ≤ most_jobs
  pub short : length (file_of_jobs jobs) ≤ most_bytes
  pub numbers_fit : AllFit jobs

-- ---- the jobs in a file

-- a job out of a body, by n and p
abbrev pub job_in : ℕ → ℕ → List ℕ → FileJob
job_in n p body = record { words = row_in 4 n body; pairs = pairs_of (row_in 2 (2 * p) (drop (4 * n) body)) }

-- the jobs of a row of sizes, out of their bodies end to end
unfoldable pub jobs_from : List ℕ → List ℕ → List FileJob
jobs_from [] bodies = []
jobs_from (n ∷ []) bodies = []
jobs_from (n ∷ p ∷ sizes) bodies = job_in n p bodies ∷ jobs_from sizes (drop (body_size n p) bodies)

abbrev pub jobs_in : List ℕ → List FileJob
jobs_in bytes = jobs_from (sizes_in bytes) (bodies_in bytes)

-- ---- the job of a number

-- Jobs are numbered from 1; the entries of the contents are counted from 0.
abbrev pub entry_of : ℕ → ℕ
entry_of job = job - 1

-- n of the job
abbrev pub words_of : List ℕ → ℕ → ℕ
words_of bytes job = words_in bytes (entry_of job)

-- its table: the n words of 4 bytes at the front of its body
abbrev pub table_of : List ℕ → ℕ → List ℕ
table_of bytes job = row_in 4 (words_of bytes job) (body_in bytes (entry_of job))

-- its list: the 2p addresses of 2 bytes after them
abbrev pub list_of : List ℕ → ℕ → List ℕ
list_of bytes job = row_in 2 (2 * pairs_in bytes (entry_of job)) (drop (4 * words_of bytes job) (body_in bytes (entry_of job)))

-- A good file has a job of that number.
pub record JobThere (bytes : List ℕ) (job : ℕ) : Type 0 where
  pub good : GoodFile bytes
  pub some_job : 1 ≤ job
  pub inside : job ≤ count_in bytes

-- The same, with its n and p.
pub record JobWith (bytes : List ℕ) (job n p : ℕ) : Type 0 where
  pub there : JobThere bytes job
  pub words : n ≡ words_of bytes job
  pub pairs : p ≡ pairs_in bytes (entry_of job)
  -- a number of 16 bits
  pub few_pairs : p < 65536

-- There is one way at most for that to be so.
pub job_with_is_one : (bytes : List ℕ) (job n p : ℕ) → IsProp (JobWith bytes job n p)
job_with_is_one bytes job n p = Prim.hlevel props

-- A job that is there, with a row for its words, and one for its addresses or the first of them.
pub record RowsForJob (bytes : List ℕ) (job : ℕ) (table list : List ℕ) : Type 0 where
  pub there : JobThere bytes job
  pub words : length table ≡ words_of bytes job
  pub pairs : length list ≤ 2 * pairs_in bytes (entry_of job)

-- its words and its addresses, as many as have room
abbrev pub JobTaken : List ℕ → ℕ → List ℕ → List ℕ → List ℕ → Type 0
JobTaken bytes job list table_after list_after = (table_after ≡ table_of bytes job) × (list_after ≡ take (length list) (list_of bytes job))
