-- A job found by its number, or why there is none. Assumes nothing.
use Rattle.std.specs.Prelude.{◌≡◌, ◌⊎◌, List, ℕ, ◌<◌, Result, Ok, Err}
use Rattle.jobfile.specs.File.{count_in, GoodFile}
use Rattle.jobfile.specs.Reader.{fault_number, fault_place, Judged}
use Rattle.jobfile.specs.declared.job.FoundJob.{FoundJob}
use Rattle.jobfile.specs.declared.found.NoJob.{NoJob}
use Rattle.jobfile.specs.declared.found.NoJob.TheVariants.{File, Number}

-- the file's, and "15 JOB if the number is not 1 to J"
abbrev pub refusal_number : NoJob → ℕ
refusal_number (File fault) = fault_number fault
refusal_number Number = 15

abbrev pub refusal_place : NoJob → ℕ
refusal_place (File fault) = fault_place fault
refusal_place Number = 0

-- what comes of a look for the job of a number
abbrev pub FoundBy : List ℕ → ℕ → Result FoundJob NoJob → Type 0
FoundBy bytes number (Ok job) = (job.file.now ≡ bytes) × (job.number ≡ number)
FoundBy bytes number (Err (File fault)) = Judged bytes (Err fault)
FoundBy bytes number (Err Number) = GoodFile bytes × ((number ≡ 0) ⊎ (count_in bytes < number))
