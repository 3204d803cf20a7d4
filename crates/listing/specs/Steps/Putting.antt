-- Lines put into a lent row, one after the other. For this crate alone. Assumes nothing.
use Rattle.std.specs.Prelude.{◌≡◌, List, ◌++◌, ℕ, ◌+◌, ◌*◌, ◌≤◌, length, Ok, Err}
use Rattle.words.specs.Limits.{most_words}
use Rattle.rows.specs.Placed.{placed}
use Rattle.matcher.specs.Match.{Matched, number_of, place_of, joins_of}
use Rattle.jobfile.specs.File.{pairs_in}
use Rattle.jobfile.specs.Jobs.{entry_of, RowsForJob}
use Rattle.lines.specs.Lines.{job_line, line_room}
use Rattle.listing.specs.Listing.{variable_lines}

-- a job has a line for itself and at most one for each word
abbrev pub job_room : ℕ
job_room = line_room * (1 + most_words)

-- text put into the bytes from place `at` on, and the place after it; the other bytes stay
pub record PutAt (text : List ℕ) (at : ℕ) (row : List ℕ) (r : ℕ) (after : List ℕ) : Type 0 where
  pub next : r ≡ at + length text
  pub there : after ≡ placed at text row

-- rows in which the variables of a table of at most 4,096 words are told
abbrev pub Tellable : List ℕ → List ℕ → Type 0
Tellable table class = (length table ≤ most_words) × (length table ≤ length class)

-- the line of a job, by its number and its answer
abbrev pub answer_line : ℕ → Matched → List ℕ
answer_line job answer = job_line job (number_of answer) (place_of answer) (joins_of answer)

-- the same, and after an accepted job the lines of its variables, by the class entries after the match
abbrev pub answer_lines : ℕ → Matched → List ℕ → List ℕ → List ℕ
answer_lines job (Ok counts) table class = answer_line job (Ok counts) ++ variable_lines table class
answer_lines job (Err refusal) table class = answer_line job (Err refusal)

-- rows for the job, and for a match of it in buffers with room for every table
pub record RowsForListing (file : List ℕ) (job : ℕ) (table list class work : List ℕ) : Type 0 where
  pub copied : RowsForJob file job table list
  pub whole : length list ≡ 2 * pairs_in file (entry_of job)
  pub classes : length class ≡ most_words
  pub works : length work ≡ 4 * most_words
