-- What the reader's own functions promise each other. Assumes nothing.
use Rattle.std.specs.Prelude.{◌≡◌, List, [], ◌∷◌, ℕ, ◌≤◌, length}
use Rattle.words.specs.Limits.{most_bytes, most_jobs}
use Rattle.answering.specs.Answers.{Answered}
use Rattle.jobfile.specs.File.{contents_end, count_in}
use Rattle.jobfile.specs.Faults.{BODY, file_number, ReadFault}
use Rattle.jobfile.specs.Reader.{FileAnswer, number_of, place_of}

-- the count was read: neither 12 nor 13 applies
pub record Opened (bytes : List ℕ) (jobs : ℕ) : Type 0 where
  pub counted : jobs ≡ count_in bytes
  pub at_least : 2 ≤ length bytes
  pub at_most : length bytes ≤ most_bytes
  pub some_job : 1 ≤ count_in bytes
  pub few_jobs : count_in bytes ≤ most_jobs
  pub contents_inside : contents_end (count_in bytes) ≤ length bytes

-- the answer by the row 14 alone
abbrev pub BodiesJudged : List ℕ → FileAnswer → Type 0
BodiesJudged bytes answer = Answered file_number (ReadFault bytes) (BODY ∷ []) (number_of answer) (place_of answer)
