-- The parts of a listing, by what the reader and the look for a job give. In order: the first line (`header_first`,
-- `refusal_first`); how many jobs there are (`jobs_told`); the job of a number (`part_there`, `part_nowhere`). Assumes nothing.
use mathlib.Core.Path.{◌≡◌, refl, subst}
use mathlib.Core.List.{List, []}
use Prim.Native.Nat.{ℕ, ◌/◌}
use native.Mathlib.Omega.{arith}
use Rattle.std.specs.Prelude.{Ok, Err}
use Rattle.jobfile.specs.File.{GoodFile, count_in}
use Rattle.jobfile.specs.Found.{FoundBy}
use Rattle.jobfile.specs.Jobs.{JobThere}
use Rattle.jobfile.specs.Reader.{fault_number, fault_place, FileAnswer, Judged, ReadOf}
use Rattle.jobfile.specs.declared.answers.FileFault.{FileFault}
use Rattle.jobfile.specs.declared.found.NoJob.{NoJob}
use Rattle.jobfile.specs.declared.found.NoJob.TheVariants.{File, Number}
use Rattle.jobfile.specs.declared.sizes.Sizes.{Sizes}
use Rattle.jobfile.proofs.ReaderLaws.{fault_refuses, judged_good, not_good}
use Rattle.jobfile.proofs.Theorems.{good_count}
use Rattle.lines.specs.Lines.{header_line, file_line, LineIn, TextIn}
use Rattle.listing.specs.Listing.{JobListed}
use Rattle.listing.specs.Parts.{FirstLine, refusal, header, JobsTold, all_of_good, none_of_refused, job_at, JobPart, lines_there, nothing_there}

-- ---- the first line

module _ {file row after : List ℕ} {r : ℕ} where
  pub header_first : Judged file (Ok tt) → LineIn header_line row r after → TextIn (FirstLine file) row r after
  header_first judged line = record { text = header_line; is = header (judged_good judged); there = line }

  pub refusal_first : (fault : FileFault) → Judged file (Err fault) → LineIn (file_line (fault_number fault) (fault_place fault)) row r after → TextIn (FirstLine file) row r after
  refusal_first fault judged line = record { text = file_line (fault_number fault) (fault_place fault); is = refusal judged (fault_refuses fault); there = line }

-- ---- how many jobs there are

pub jobs_told : {file : List ℕ} (answer : FileAnswer) {sizes : Sizes} → ReadOf file answer sizes → JobsTold file (sizes.count / 2)
jobs_told {file} (Ok done) {sizes} read =
    let good : GoodFile file = judged_good read.judged in
    subst (JobsTold file) (let e : count_in file ≡ sizes.count / 2 = omega (arith, good_count good read) in e) (all_of_good good)
jobs_told {file} (Err fault) {sizes} read =
    subst (JobsTold file) (let e : 0 ≡ sizes.count / 2 = omega (arith, read.yielded.counted) in e) (none_of_refused (not_good read.judged (fault_refuses fault)))

-- ---- the job of a number

-- the job that was found is of the file, and has the number, that were asked for
pub part_there : {file bytes row after : List ℕ} {number job r : ℕ} → file ≡ bytes → number ≡ job → JobThere file number → TextIn (JobListed number (job_at file number)) row r after
    → TextIn (JobPart bytes job) row r after
part_there {bytes = bytes} {row} {after} {number} {r = r} e f there t =
    subst (λ (j : ℕ). TextIn (JobPart bytes j) row r after) f
    (subst (λ (l : List ℕ). TextIn (JobPart l number) row r after) e (record { text = t.text; is = lines_there there t.is; there = t.there }))

none_there : {file : List ℕ} {number : ℕ} (none : NoJob) → FoundBy file number (Err none) → JobThere file number → ⊥
none_there (File fault) judged there = not_good judged (fault_refuses fault) there.good
none_there Number (good, off) there = omega (arith, off, there.some_job, there.inside)

pub part_nowhere : {file : List ℕ} {number : ℕ} (row : List ℕ) (none : NoJob) → FoundBy file number (Err none) → TextIn (JobPart file number) row 0 row
part_nowhere row none found = record { text = []; is = nothing_there (none_there none found); there = record { long = refl; there = refl } }
