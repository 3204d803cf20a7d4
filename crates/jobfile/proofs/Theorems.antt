-- What holds of the reader and the writer together, from their contracts alone.
--
-- In order:
--     reader_accepts_good        the reader accepts exactly the good files
--     writer_writes_good         the writer writes only good files, with the sizes and bodies that it was sent
--     good_read_written_again    a good file read and written again has the same bytes
--     jobs_written, jobs_read_back    jobs written to a file are read back as the same jobs: sizes, words and pairs
--     good_count, good_entry     how many sizes a good file has, and where n and p of an entry stand
--     job_body                   job k of a file is what its own body holds
--     cut_not_good               the front of a good file is not good
--     read_sizes, read_count, read_length    which sizes count, that they are at most 128, and how long their row is
--     find_only                  a look for a job tells one thing of a file and a number
--
-- Two results that a public contract allows are equal: `judged_only`, `read_only` and `bodies_only` (ReaderLaws.antt), `write_only`
-- (WriteAnswers.antt); of a look for a job, `find_only`. Assumes nothing.
use mathlib.Core.Path.{◌≡◌, refl, sym, ap, ap₂, ◌∙◌, subst}
use mathlib.Core.Logic.{inl, inr}
use mathlib.Core.List.{List, ◌++◌}
use Rattle.std.specs.Prelude.{Result, Ok, Err}
use Prim.Native.Nat.{ℕ, zero, suc, ◌+◌, ◌-◌, ◌*◌, ◌≤◌, ◌<◌}
use native.Mathlib.Omega.{arith}
use lib.ListN.{length, take, drop, get_or, replicate, length-replicate, length-append, get_or-append}
use lib.Seq.{take_at, take-take, length-take-le}
use Rattle.rows.specs.LittleEndian.{from_bytes, number_at, AllBytes}
use Rattle.words.specs.Limits.{most_sizes}
use Rattle.graphs.specs.Partition.{pairs_of}
use Rattle.jobfile.specs.Numbers.{row_in}
use Rattle.jobfile.specs.File.{body_size, contents_end, count_in, words_in, pairs_in, body_start, body_in, sizes_in, bodies_in, GoodFile, file_of}
use Rattle.jobfile.specs.Found.{FoundBy}
use Rattle.jobfile.specs.Jobs.{FileJob, sizes_of, bodies_of, file_of_jobs, Holdable, job_in, jobs_from, jobs_in, entry_of, words_of, JobThere}
use Rattle.jobfile.specs.Reader.{FileAnswer, number_of, Judged, yielded_sizes, yielded_bodies, in_row, Holds, ReadOf, BodiesOf}
use Rattle.jobfile.specs.Writer.{WriteAnswer, WriteOf, room_written}
use Rattle.jobfile.specs.declared.found.NoJob.{NoJob}
use Rattle.jobfile.specs.declared.found.NoJob.TheVariants.{File, Number}
use Rattle.jobfile.specs.declared.job.FoundJob.{FoundJob}
use Rattle.jobfile.specs.declared.sizes.Sizes.{Sizes}
use Rattle.jobfile.proofs.FileLaws.{length-sizes_from, entry_in_sizes}
use Rattle.jobfile.proofs.ReaderLaws.{fault_refuses, judged_only, good_judged, judged_good}
use Rattle.jobfile.proofs.WriteAnswers.{written_writable, writable_written}
use Rattle.jobfile.proofs.Written.{Writable, written_good, written_sizes, written_bodies, good_again, good_writable}
use Rattle.jobfile.proofs.JobLaws.{length-sizes_of, jobs_sum, jobs_back, row_in_front, drop-take, job_there}

-- ---- the reader and the good files

pub reader_accepts_good : {bytes : List ℕ} {answer : FileAnswer} {sizes : Sizes} → ReadOf bytes answer sizes
    → (answer ≡ Ok tt → GoodFile bytes) × (GoodFile bytes → answer ≡ Ok tt)
reader_accepts_good {bytes} {answer} r =
    (λ e. judged_good (subst (Judged bytes) e r.judged), λ good. judged_only answer (Ok tt) r.judged (good_judged good))

-- the sizes that count, of a row by value
held : {sizes : Sizes} {xs : List ℕ} → Holds sizes xs → take sizes.count sizes.row ≡ xs
unfolding in_row
held {sizes} {xs} h = ap₂ (λ (n : ℕ) (l : List ℕ). take n l) h.counted h.numbers ∙ take_at xs (replicate (most_sizes - length xs) 0) (length xs) refl

pub read_sizes : {bytes : List ℕ} {answer : FileAnswer} {sizes : Sizes} → ReadOf bytes answer sizes → take sizes.count sizes.row ≡ yielded_sizes answer bytes
read_sizes r = held r.yielded

-- what the reader yields of a good file
module _ {bytes : List ℕ} (good : GoodFile bytes) where
  pub good_sizes : {answer : FileAnswer} {sizes : Sizes} → ReadOf bytes answer sizes → take sizes.count sizes.row ≡ sizes_in bytes
  good_sizes r = read_sizes r ∙ ap (λ (q : FileAnswer). yielded_sizes q bytes) ((reader_accepts_good r).1 good)

  pub good_count : {answer : FileAnswer} {sizes : Sizes} → ReadOf bytes answer sizes → sizes.count ≡ 2 * count_in bytes
  good_count r = r.yielded.counted ∙ ap (λ (q : FileAnswer). length (yielded_sizes q bytes)) ((reader_accepts_good r).1 good) ∙ length-sizes_from (count_in bytes) 0 bytes

  -- n and p of entry k, in the row by value
  pub good_entry : {answer : FileAnswer} {sizes : Sizes} → ReadOf bytes answer sizes → (k : ℕ) → k < count_in bytes
      → (get_or sizes.row (2 * k) 0 ≡ words_in bytes k) × (get_or sizes.row (2 * k + 1) 0 ≡ pairs_in bytes k)
  unfolding in_row
  good_entry {sizes = sizes} r k h =
      let row : sizes.row ≡ in_row (sizes_in bytes) = r.yielded.numbers ∙ ap (λ (q : FileAnswer). in_row (yielded_sizes q bytes)) ((reader_accepts_good r).1 good) in
      let at : (i : ℕ) → i < 2 * count_in bytes → get_or sizes.row i 0 ≡ get_or (sizes_in bytes) i 0 =
      λ i l. ap (λ (xs : List ℕ). get_or xs i 0) row
      ∙ get_or-append (sizes_in bytes) (replicate (most_sizes - length (sizes_in bytes)) 0) 0 i (omega (arith, length-sizes_from (count_in bytes) 0 bytes)) in
      let held = entry_in_sizes bytes k h in
      (at (2 * k) (omega arith) ∙ held.0, at (2 * k + 1) (omega arith) ∙ held.1)

  pub good_bodies : {part : List ℕ} → BodiesOf bytes part → part ≡ bodies_in bytes
  good_bodies b = b.yielded ∙ ap (λ (q : FileAnswer). yielded_bodies q bytes) (judged_only b.answer (Ok tt) b.judged (good_judged good))

pub writer_writes_good : {sizes bodies room after : List ℕ} → WriteOf sizes bodies room (Ok tt) after
    → GoodFile (file_of sizes bodies)
    × (after ≡ file_of sizes bodies ++ drop (length (file_of sizes bodies)) room)
    × (sizes_in (file_of sizes bodies) ≡ sizes)
    × (bodies_in (file_of sizes bodies) ≡ bodies)
unfolding room_written
writer_writes_good r = let w = written_writable r in (written_good w, r.room_left, written_sizes w, written_bodies w)

-- ---- a file read and written again

pub good_read_written_again : {bytes part room after : List ℕ} {answer : FileAnswer} {sizes : Sizes} {written : WriteAnswer} → AllBytes bytes → GoodFile bytes
    → ReadOf bytes answer sizes → BodiesOf bytes part → length bytes ≤ length room → WriteOf (take sizes.count sizes.row) part room written after
    → (written ≡ Ok tt) × (after ≡ bytes ++ drop (length bytes) room)
good_read_written_again {bytes} {part} {room} {after} {sizes = sizes} {written} all good r b enough w =
    let same : file_of (sizes_in bytes) (bodies_in bytes) ≡ bytes = good_again good all in
    let w' : WriteOf (sizes_in bytes) (bodies_in bytes) room written after =
    subst (λ (l : List ℕ). WriteOf l (bodies_in bytes) room written after) (good_sizes good r)
    (subst (λ (l : List ℕ). WriteOf (take sizes.count sizes.row) l room written after) (good_bodies good b) w) in
    let done : (written ≡ Ok tt) × (after ≡ file_of (sizes_in bytes) (bodies_in bytes) ++ drop (length (file_of (sizes_in bytes) (bodies_in bytes))) room) =
    writable_written (good_writable good all) (omega (arith, ap length same)) w' in
    (done.0, done.1 ∙ ap (λ (l : List ℕ). l ++ drop (length l) room) same)

-- ---- jobs written and read back

holdable_writable : {jobs : List FileJob} → Holdable jobs → Writable (sizes_of jobs) (bodies_of jobs)
holdable_writable {jobs} h = record {
  even = omega (arith, length-sizes_of jobs);
  some_job = omega (arith, length-sizes_of jobs, h.some_job);
  few_jobs = omega (arith, length-sizes_of jobs, h.few_jobs);
  sum = jobs_sum jobs;
  short = h.short;
}

pub jobs_written : {jobs : List FileJob} {room after : List ℕ} {written : WriteAnswer} → Holdable jobs → length (file_of_jobs jobs) ≤ length room
    → WriteOf (sizes_of jobs) (bodies_of jobs) room written after → (written ≡ Ok tt) × (after ≡ file_of_jobs jobs ++ drop (length (file_of_jobs jobs)) room)
jobs_written h enough w = writable_written (holdable_writable h) enough w

pub jobs_read_back : {jobs : List FileJob} {answer : FileAnswer} {sizes : Sizes} → Holdable jobs → ReadOf (file_of_jobs jobs) answer sizes
    → (answer ≡ Ok tt) × (take sizes.count sizes.row ≡ sizes_of jobs) × (jobs_in (file_of_jobs jobs) ≡ jobs)
jobs_read_back {jobs} h r =
    let w : Writable (sizes_of jobs) (bodies_of jobs) = holdable_writable h in
    let good : GoodFile (file_of_jobs jobs) = written_good w in (
      (reader_accepts_good r).1 good,
      good_sizes good r ∙ written_sizes w,
      ap₂ (λ (s b : List ℕ). jobs_from s b) (written_sizes w) (written_bodies w) ∙ jobs_back jobs h.numbers_fit,
    )

-- ---- jobs by number

-- job k of the file is what its own body holds
pub job_body : (bytes : List ℕ) (k : ℕ) → k < count_in bytes → (d : FileJob) → get_or (jobs_in bytes) k d ≡ job_in (words_in bytes k) (pairs_in bytes k) (body_in bytes k)
unfolding body_start
job_body bytes k there d =
    let n : ℕ = words_in bytes k in
    let p : ℕ = pairs_in bytes k in
    let onwards : List ℕ = drop (body_start bytes k) bytes in
    let words : row_in 4 n onwards ≡ row_in 4 n (body_in bytes k) = sym (row_in_front 4 n (body_size n p) onwards (omega arith)) in
    let entries : row_in 2 (2 * p) (drop (4 * n) onwards) ≡ row_in 2 (2 * p) (drop (4 * n) (body_in bytes k)) =
    sym (ap (row_in 2 (2 * p)) (drop-take (4 * n) (body_size n p) onwards) ∙ row_in_front 2 (2 * p) (body_size n p - 4 * n) (drop (4 * n) onwards) (omega arith)) in
    let way : 0 + k ≡ k = omega arith in
    job_there (count_in bytes) 0 k bytes d there
    ∙ ap (λ (i : ℕ). job_in (words_in bytes i) (pairs_in bytes i) (drop (body_start bytes i) bytes)) way
    ∙ ap₂ (λ (ws es : List ℕ). record { words = ws; pairs = pairs_of es }) words entries

-- ---- a file that is cut short

module _ (m : ℕ) (bytes : List ℕ) where
  number_in_front : (k at : ℕ) → at + k ≤ m → number_at k at (take m bytes) ≡ number_at k at bytes
  unfolding number_at
  number_in_front k at h = ap (λ (l : List ℕ). from_bytes (take k l)) (drop-take at m bytes) ∙ ap from_bytes (take-take k (m - at) (drop at bytes) (omega arith))

  starts_in_front : count_in (take m bytes) ≡ count_in bytes → (k : ℕ) → 2 + 6 * k ≤ m → body_start (take m bytes) k ≡ body_start bytes k
  unfolding body_start
  starts_in_front e zero h = ap contents_end e
  starts_in_front e (suc k) h = omega (arith, starts_in_front e k (omega arith), number_in_front 2 (2 + 6 * k + 2) (omega arith), number_in_front 2 (2 + 6 * k + 4) (omega arith))

-- the front of a good file is not good, so input that ends early is refused
pub cut_not_good : {bytes : List ℕ} {m : ℕ} → GoodFile bytes → m < length bytes → GoodFile (take m bytes) → ⊥
cut_not_good {bytes} {m} good h cut =
    let size : length (take m bytes) ≡ m = length-take-le m bytes (omega arith) in
    let count : count_in (take m bytes) ≡ count_in bytes = number_in_front m bytes 2 0 (omega (arith, cut.at_least, size)) in
    let starts = starts_in_front m bytes count (count_in bytes) (omega (arith, cut.contents_inside, size, count)) in
    omega (arith, good.ends, cut.ends, size, ap (body_start (take m bytes)) count, starts)

-- ---- the sizes that count

-- "at most 128 numbers"
pub read_count : {bytes : List ℕ} {answer : FileAnswer} {sizes : Sizes} → ReadOf bytes answer sizes → sizes.count ≤ most_sizes
read_count {bytes} {answer} {sizes} r = go answer r.judged r.yielded.counted
  where
    go : (q : FileAnswer) → Judged bytes q → sizes.count ≡ length (yielded_sizes q bytes) → sizes.count ≤ most_sizes
    go (Ok good) judged e = omega (arith, length-sizes_from (count_in bytes) 0 bytes, (judged_good judged).few_jobs)
    go (Err fault) judged e = omega arith

pub read_length : {bytes : List ℕ} {answer : FileAnswer} {sizes : Sizes} → ReadOf bytes answer sizes → length sizes.row ≡ most_sizes
unfolding in_row
read_length {bytes} {answer} r =
    let xs : List ℕ = yielded_sizes answer bytes in
    omega (
      arith,
      read_count r,
      r.yielded.counted,
      ap length r.yielded.numbers,
      length-append xs (replicate (most_sizes - length xs) 0),
      length-replicate {A = ℕ} (most_sizes - length xs) 0,
    )

-- ---- a look for a job

-- Two results tell one thing: one job of one file, or one refusal. Where the file's bytes lie is not asked.
abbrev pub SameFound : Result FoundJob NoJob → Result FoundJob NoJob → Type 0
SameFound (Ok a) (Ok b) = (a.file.now ≡ b.file.now) × (a.number ≡ b.number) × (a.words ≡ b.words) × (a.pairs ≡ b.pairs)
SameFound (Err why) (Err other) = why ≡ other
SameFound (Ok a) (Err why) = ⊥
SameFound (Err why) (Ok a) = ⊥

-- what refuses a file, as what refuses a look
as_refusal : FileAnswer → NoJob
as_refusal (Ok good) = Number
as_refusal (Err fault) = File fault

module _ (bytes : List ℕ) (number : ℕ) where
  there_for : (job : FoundJob) → FoundBy bytes number (Ok job) → JobThere bytes number
  there_for job (file, asked) = subst (λ (j : ℕ). JobThere bytes j) asked (subst (λ (l : List ℕ). JobThere l job.number) file job.is_there.there)

  never_refused : JobThere bytes number → (why : NoJob) → FoundBy bytes number (Err why) → ⊥
  never_refused there (File fault) judged = fault_refuses fault (sym (ap number_of (judged_only (Ok tt) (Err fault) (good_judged there.good) judged)))
  never_refused there Number (good, inl z) = omega (arith, z, there.some_job)
  never_refused there Number (good, inr over) = omega (arith, over, there.inside)

  one_refusal : (why other : NoJob) → FoundBy bytes number (Err why) → FoundBy bytes number (Err other) → why ≡ other
  unfolding as_refusal
  one_refusal (File fault) (File other) x y = ap as_refusal (judged_only (Err fault) (Err other) x y)
  one_refusal (File fault) Number x y = absurd (fault_refuses fault (ap number_of (judged_only (Err fault) (Ok tt) x (good_judged y.0))))
  one_refusal Number (File fault) x y = absurd (fault_refuses fault (ap number_of (judged_only (Err fault) (Ok tt) y (good_judged x.0))))
  one_refusal Number Number x y = refl

  -- Two results that the contract of find allows tell one thing.
  pub find_only : (r s : Result FoundJob NoJob) → FoundBy bytes number r → FoundBy bytes number s → SameFound r s
  find_only (Ok a) (Ok b) x y =
      let file : a.file.now ≡ b.file.now = x.0 ∙ sym y.0 in
      let asked : a.number ≡ b.number = x.1 ∙ sym y.1 in (
        file,
        asked,
        a.is_there.words ∙ ap₂ words_of file asked ∙ sym b.is_there.words,
        a.is_there.pairs ∙ ap₂ (λ (l : List ℕ) (j : ℕ). pairs_in l (entry_of j)) file asked ∙ sym b.is_there.pairs,
      )
  find_only (Ok a) (Err why) x y = never_refused (there_for a x) why y
  find_only (Err why) (Ok b) x y = never_refused (there_for b y) why x
  find_only (Err why) (Err other) x y = one_refusal why other x y
