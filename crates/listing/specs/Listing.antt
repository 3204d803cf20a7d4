-- The listing of a job file, as bytes. The sentences quoted are document 01's, "The host and the listing". Assumes nothing.
use Rattle.std.specs.Prelude.{◌≡◌, List, [], ◌∷◌, ◌++◌, ℕ, zero, suc, ◌*◌, length}
use Rattle.words.specs.Limits.{most_words}
use Rattle.words.specs.Word.{same_kind}
use Rattle.words.specs.declared.kind.Kind.{Kind}
use Rattle.answering.specs.Answers.{Answered}
use Rattle.graphs.specs.Partition.{entry, ClassTable, joins}
use Rattle.table.specs.Table.{choose, kind_at, content_at, graph_of}
use Rattle.table.specs.Faults.{Job, sent, Fault, number, match_order}
use Rattle.jobfile.specs.File.{GoodFile}
use Rattle.jobfile.specs.Faults.{file_number, ReadFault, read_order}
use Rattle.jobfile.specs.Jobs.{FileJob, entries_of, jobs_in}
use Rattle.lines.specs.Lines.{header_line, job_line, variable_line, file_line}

-- ---- the variables

-- "one line for each variable ..: `v`, its address, label and class name": what is told of address x
unfoldable pub line_at : List ℕ → List ℕ → ℕ → List ℕ
line_at t classes x = choose (same_kind (kind_at t x) Kind.Variable) (variable_line x (content_at t x) (entry classes x)) []

-- "in address order": of the addresses below x
unfoldable pub lines_below : List ℕ → List ℕ → ℕ → List ℕ
lines_below t classes zero = []
lines_below t classes (suc x) = lines_below t classes x ++ line_at t classes x

abbrev pub variable_lines : List ℕ → List ℕ → List ℕ
variable_lines t classes = lines_below t classes (length t)

-- ---- the jobs

-- what the match of a job is sent, with room for every table, so that 2 is never given
abbrev pub sent_for : FileJob → Job
sent_for job = sent job.words (entries_of job.pairs) most_words (4 * most_words)

-- "one line a job": its number, and answer, place and joins of its match ..
pub data JobListed (k : ℕ) (job : FileJob) : List ℕ → Type 0 where
  job_refused : {answer place : ℕ} → Answered number (Fault (sent_for job)) match_order answer place → (answer ≡ 0 → ⊥) → JobListed k job (job_line k answer place 0)
  -- .. ", and after an accepted job one line for each variable", by its class table
  job_accepted : {classes : List ℕ} → Answered number (Fault (sent_for job)) match_order 0 0 → ClassTable (graph_of job.words) job.pairs classes
      → JobListed k job (job_line k 0 0 (joins (graph_of job.words) classes) ++ variable_lines job.words classes)

-- the jobs from number k on
pub data JobsListed : ℕ → List FileJob → List ℕ → Type 0 where
  no_jobs : {k : ℕ} → JobsListed k [] []
  next_job : {k : ℕ} {job : FileJob} {jobs : List FileJob} {lines rest : List ℕ} → JobListed k job lines → JobsListed (suc k) jobs rest → JobsListed k (job ∷ jobs) (lines ++ rest)

-- ---- the file

pub data ListingOf (file : List ℕ) : List ℕ → Type 0 where
  -- "A refused file prints one line, `file`, answer, place."
  file_refused : {answer place : ℕ} → Answered file_number (ReadFault file) read_order answer place → (answer ≡ 0 → ⊥) → ListingOf file (file_line answer place)
  -- "Otherwise a header, one line a job, and after an accepted job one line for each variable"; jobs are numbered from 1
  file_listed : {lines : List ℕ} → GoodFile file → JobsListed 1 (jobs_in file) lines → ListingOf file (header_line ++ lines)
