-- The parts that a listing is written in: its first line, and the lines of each job. Put one after the other they are the
-- listing (`parts_make_listing`, proofs/Theorems.antt). Assumes nothing.
use Rattle.std.specs.Prelude.{◌≡◌, List, [], ℕ, get_or}
use Rattle.answering.specs.Answers.{Answered}
use Rattle.jobfile.specs.File.{GoodFile, count_in}
use Rattle.jobfile.specs.Faults.{file_number, ReadFault, read_order}
use Rattle.jobfile.specs.Jobs.{FileJob, jobs_in, entry_of, JobThere}
use Rattle.lines.specs.Lines.{header_line, file_line}
use Rattle.listing.specs.Listing.{JobListed}

-- the line of a refused file, or the header
pub data FirstLine (file : List ℕ) : List ℕ → Type 0 where
  refusal : {answer place : ℕ} → Answered file_number (ReadFault file) read_order answer place → (answer ≡ 0 → ⊥) → FirstLine file (file_line answer place)
  header : GoodFile file → FirstLine file header_line

-- how many jobs are told: all of a good file, and none of a refused one
pub data JobsTold (file : List ℕ) : ℕ → Type 0 where
  all_of_good : GoodFile file → JobsTold file (count_in file)
  none_of_refused : (GoodFile file → ⊥) → JobsTold file 0

-- the job of a number, from 1
abbrev pub job_at : List ℕ → ℕ → FileJob
job_at file job = get_or (jobs_in file) (entry_of job) (record { words = []; pairs = [] })

-- the lines of the job of a number, and nothing where there is no such job
pub data JobPart (file : List ℕ) (job : ℕ) : List ℕ → Type 0 where
  lines_there : {lines : List ℕ} → JobThere file job → JobListed job (job_at file job) lines → JobPart file job lines
  nothing_there : (JobThere file job → ⊥) → JobPart file job []
