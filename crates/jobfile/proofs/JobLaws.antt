-- Jobs in a file.
--
-- In order:
--     pairs and entries    length-entries_of, pairs_entries, entries_pairs
--     jobs written         length-sizes_of, jobs_sum, jobs_back: they are read back from their sizes and bodies
--     jobs by number       row_in_front, row_front, drop-take, job_there: job k of a file is what its own body holds
-- Assumes nothing.
use mathlib.Core.Path.{◌≡◌, refl, sym, ap, ap₂, ◌∙◌}
use mathlib.Core.List.{List, [], ◌∷◌, ◌++◌, append_assoc}
use Prim.Native.Nat.{ℕ, zero, suc, ◌+◌, ◌-◌, ◌*◌, ◌^◌, ◌≤◌, ◌<◌}
use native.Mathlib.Nat.{mul-suc}
use native.Mathlib.Omega.{arith}
use lib.ListN.{length, take, drop, get_or, length-append}
use lib.Seq.{take-nil, take-take, drop-drop, drop_at}
use Rattle.graphs.specs.Partition.{Pair, pairs_of}
use Rattle.rows.specs.LittleEndian.{from_bytes}
use Rattle.jobfile.specs.Numbers.{bytes_of_row, row_in, AllBelow}
use Rattle.jobfile.specs.File.{body_size, words_in, pairs_in, body_start, sizes_from, bodies_size}
use Rattle.jobfile.specs.Jobs.{FileJob, entries_of, sizes_of, body_of, bodies_of, AllFit, job_in, jobs_from}
use Rattle.jobfile.proofs.NumberLaws.{length-bytes_of_row, row_read_back}
use Rattle.jobfile.proofs.FileLaws.{next_start}

-- ---- pairs and entries

pub length-entries_of : (pairs : List Pair) → length (entries_of pairs) ≡ 2 * length pairs
unfolding entries_of
length-entries_of [] = refl
length-entries_of (pair ∷ pairs) = omega (arith, length-entries_of pairs)

pub pairs_entries : (pairs : List Pair) → pairs_of (entries_of pairs) ≡ pairs
unfolding entries_of pairs_of
pairs_entries [] = refl
pairs_entries (pair ∷ pairs) = ap (λ (rest : List Pair). pair ∷ rest) (pairs_entries pairs)

pub entries_pairs : (m : ℕ) (l : List ℕ) → length l ≡ 2 * m → entries_of (pairs_of l) ≡ l
unfolding entries_of pairs_of
entries_pairs zero [] e = refl
entries_pairs zero (x ∷ l) e = absurd (omega arith)
entries_pairs (suc m) [] e = absurd (omega arith)
entries_pairs (suc m) (x ∷ []) e = absurd (omega arith)
entries_pairs (suc m) (x ∷ y ∷ l) e = ap (λ (rest : List ℕ). x ∷ y ∷ rest) (entries_pairs m l (omega arith))

-- ---- jobs written

pub length-sizes_of : (jobs : List FileJob) → length (sizes_of jobs) ≡ 2 * length jobs
unfolding sizes_of
length-sizes_of [] = refl
length-sizes_of (job ∷ jobs) = omega (arith, length-sizes_of jobs)

length-body_of : (job : FileJob) → length (body_of job) ≡ body_size (length job.words) (length job.pairs)
length-body_of job =
    omega (
      arith,
      length-append (bytes_of_row 4 job.words) (bytes_of_row 2 (entries_of job.pairs)),
      length-bytes_of_row 4 job.words,
      length-bytes_of_row 2 (entries_of job.pairs),
      length-entries_of job.pairs,
    )

pub jobs_sum : (jobs : List FileJob) → length (bodies_of jobs) ≡ bodies_size (sizes_of jobs)
unfolding bodies_of sizes_of bodies_size
jobs_sum [] = refl
jobs_sum (job ∷ jobs) = omega (arith, length-append (body_of job) (bodies_of jobs), length-body_of job, jobs_sum jobs)

-- a job is read back from its body
job_back : (job : FileJob) (rest : List ℕ) → AllBelow (256 ^ 4) job.words → AllBelow (256 ^ 2) (entries_of job.pairs)
    → job_in (length job.words) (length job.pairs) (body_of job ++ rest) ≡ job
job_back job rest words_fit pairs_fit =
    let front : List ℕ = bytes_of_row 4 job.words in
    let back : List ℕ = bytes_of_row 2 (entries_of job.pairs) in
    let words : row_in 4 (length job.words) (body_of job ++ rest) ≡ job.words =
    ap (row_in 4 (length job.words)) (append_assoc front back rest) ∙ row_read_back 4 job.words (back ++ rest) words_fit in
    let behind : drop (4 * length job.words) (body_of job ++ rest) ≡ back ++ rest =
    ap (drop (4 * length job.words)) (append_assoc front back rest) ∙ drop_at front (back ++ rest) (4 * length job.words) (length-bytes_of_row 4 job.words) in
    let entries : row_in 2 (2 * length job.pairs) (drop (4 * length job.words) (body_of job ++ rest)) ≡ entries_of job.pairs =
    ap₂ (λ (m : ℕ) (l : List ℕ). row_in 2 m l) (sym (length-entries_of job.pairs)) behind ∙ row_read_back 2 (entries_of job.pairs) rest pairs_fit in
    let pairs : pairs_of (row_in 2 (2 * length job.pairs) (drop (4 * length job.words) (body_of job ++ rest))) ≡ job.pairs =
    ap pairs_of entries ∙ pairs_entries job.pairs in
    λ i. record { words = words i; pairs = pairs i }

pub jobs_back : (jobs : List FileJob) → AllFit jobs → jobs_from (sizes_of jobs) (bodies_of jobs) ≡ jobs
unfolding jobs_from sizes_of bodies_of
jobs_back [] fit = refl
jobs_back (job ∷ jobs) (words_fit, pairs_fit, fit) =
    let n : ℕ = length job.words in
    let p : ℕ = length job.pairs in
    let later : drop (body_size n p) (body_of job ++ bodies_of jobs) ≡ bodies_of jobs = drop_at (body_of job) (bodies_of jobs) (body_size n p) (length-body_of job) in
    ap₂ (λ (first : FileJob) (rest : List FileJob). first ∷ rest)
    (job_back job (bodies_of jobs) words_fit pairs_fit)
    (ap (jobs_from (sizes_of jobs)) later ∙ jobs_back jobs fit)

-- ---- jobs by number

pub drop-take : (k j : ℕ) (l : List ℕ) → drop k (take j l) ≡ take (j - k) (drop k l)
drop-take zero j l = let way : j ≡ j - 0 = omega arith in ap (λ (i : ℕ). take i l) way
drop-take (suc k) zero l = let way : 0 ≡ 0 - suc k = omega arith in ap (λ (i : ℕ). take i (drop (suc k) l)) way
drop-take (suc k) (suc j) [] = sym (take-nil (suc j - suc k))
drop-take (suc k) (suc j) (x ∷ l) = let way : j - k ≡ suc j - suc k = omega arith in drop-take k j l ∙ ap (λ (i : ℕ). take i (drop k l)) way

-- numbers that end within a front are read from it alone
pub row_in_front : (k m j : ℕ) (bytes : List ℕ) → k * m ≤ j → row_in k m (take j bytes) ≡ row_in k m bytes
unfolding row_in
row_in_front k zero j bytes h = refl
row_in_front k (suc m) j bytes h =
    let first : k ≤ j = omega (arith, mul-suc k m) in
    let rest : k * m ≤ j - k = omega (arith, mul-suc k m) in
    ap₂ (λ (x : ℕ) (l : List ℕ). x ∷ l)
    (ap from_bytes (take-take k j bytes first))
    (ap (row_in k m) (drop-take k j bytes) ∙ row_in_front k m (j - k) (drop k bytes) rest)

-- the first numbers of a row are the row of the first numbers
pub row_front : (k j m : ℕ) (bytes : List ℕ) → j ≤ m → row_in k j bytes ≡ take j (row_in k m bytes)
unfolding row_in
row_front k zero m bytes h = refl
row_front k (suc j) zero bytes h = absurd (omega arith)
row_front k (suc j) (suc m) bytes h = ap (λ (l : List ℕ). from_bytes (take k bytes) ∷ l) (row_front k j m (drop k bytes) (omega arith))

-- job j of the entries from entry k on stands where the contents say
pub job_there : (m k j : ℕ) (bytes : List ℕ) (d : FileJob) → j < m
    → get_or (jobs_from (sizes_from m k bytes) (drop (body_start bytes k) bytes)) j d ≡ job_in (words_in bytes (k + j)) (pairs_in bytes (k + j)) (drop (body_start bytes (k + j)) bytes)
unfolding jobs_from sizes_from
job_there zero k j bytes d h = absurd (omega arith)
job_there (suc m) k zero bytes d h =
    let way : k ≡ k + 0 = omega arith in ap (λ (i : ℕ). job_in (words_in bytes i) (pairs_in bytes i) (drop (body_start bytes i) bytes)) way
job_there (suc m) k (suc j) bytes d h =
    let next : drop (body_size (words_in bytes k) (pairs_in bytes k)) (drop (body_start bytes k) bytes) ≡ drop (body_start bytes (suc k)) bytes =
    drop-drop (body_size (words_in bytes k) (pairs_in bytes k)) (body_start bytes k) bytes ∙ ap (λ (i : ℕ). drop i bytes) (next_start bytes k refl refl refl) in
    let way : suc k + j ≡ k + suc j = omega arith in
    ap (λ (l : List ℕ). get_or (jobs_from (sizes_from m (suc k) bytes) l) j d) next
    ∙ job_there m (suc k) j bytes d (omega arith)
    ∙ ap (λ (i : ℕ). job_in (words_in bytes i) (pairs_in bytes i) (drop (body_start bytes i) bytes)) way
