-- Jobs that are written and then read out of the bytes that were written (`jobs_there_and_back`), and that the host call matches
-- the table and the list of the job that it names (`job_of_file`). Assumes nothing.
use mathlib.Core.Path.{◌≡◌, refl, sym, ap, ◌∙◌, subst}
use mathlib.Core.List.{List}
use Prim.Native.Nat.{ℕ, ◌≤◌}
use native.Mathlib.Omega.{arith}
use lib.ListN.{length, take, drop, get_or}
use lib.Seq.{take_at}
use Rattle.graphs.specs.Partition.{pairs_of}
use Rattle.jobfile.specs.File.{count_in, words_in, pairs_in, body_in, GoodFile}
use Rattle.jobfile.specs.Jobs.{FileJob, sizes_of, bodies_of, file_of_jobs, Holdable, job_in, jobs_in, entry_of, table_of, list_of}
use Rattle.jobfile.specs.Reader.{FileAnswer, ReadOf}
use Rattle.jobfile.specs.Writer.{WriteAnswer, WriteOf}
use Rattle.std.specs.Prelude.{Ok}
use Rattle.jobfile.specs.declared.sizes.Sizes.{Sizes}
use Rattle.jobfile.proofs.Theorems.{jobs_written, jobs_read_back, job_body}

module _ {jobs : List FileJob} {room after : List ℕ} {written : WriteAnswer} {answer : FileAnswer} {sizes : Sizes} (holdable : Holdable jobs) (enough : length (file_of_jobs jobs) ≤ length room) (w : WriteOf (sizes_of jobs) (bodies_of jobs) room written after) (r : ReadOf (take (length (file_of_jobs jobs)) after) answer sizes) where
  -- the bytes in front are the file
  front : take (length (file_of_jobs jobs)) after ≡ file_of_jobs jobs
  front =
      ap (take (length (file_of_jobs jobs))) (jobs_written holdable enough w).1
      ∙ take_at (file_of_jobs jobs) (drop (length (file_of_jobs jobs)) room) (length (file_of_jobs jobs)) refl

  pub jobs_there_and_back : (written ≡ Ok tt) × (answer ≡ Ok tt) × (take sizes.count sizes.row ≡ sizes_of jobs) × (jobs_in (take (length (file_of_jobs jobs)) after) ≡ jobs)
  jobs_there_and_back =
      let back = jobs_read_back holdable (subst (λ (bytes : List ℕ). ReadOf bytes answer sizes) front r) in
      ((jobs_written holdable enough w).0, back.0, back.1, ap jobs_in front ∙ back.2)

-- ---- the job that a number names

pub job_of_file : {bytes : List ℕ} → GoodFile bytes → {job : ℕ} → 1 ≤ job → job ≤ count_in bytes → (d : FileJob)
    → (table_of bytes job ≡ (get_or (jobs_in bytes) (entry_of job) d).words) × (pairs_of (list_of bytes job) ≡ (get_or (jobs_in bytes) (entry_of job) d).pairs)
job_of_file {bytes} good {job} some_job there d =
    let named : job_in (words_in bytes (entry_of job)) (pairs_in bytes (entry_of job)) (body_in bytes (entry_of job)) ≡ get_or (jobs_in bytes) (entry_of job) d =
    sym (job_body bytes (entry_of job) (omega arith) d) in
    (ap (λ (j : FileJob). j.words) named, ap (λ (j : FileJob). j.pairs) named)
