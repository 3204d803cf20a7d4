-- The rows that are lent for a job of a file. For this crate alone. Assumes nothing.
use Rattle.std.specs.Prelude.{◌≡◌, List, ℕ, ◌+◌, ◌*◌, ◌≤◌, min, length}
use Rattle.words.specs.Limits.{most_words}
use Rattle.jobfile.specs.File.{pairs_in}
use Rattle.jobfile.specs.Jobs.{entry_of, words_of, RowsForJob}

-- A list of over 256 pairs is cut off, with one pair too many.
abbrev pub list_room : ℕ
list_room = 514

-- rows of these lengths have room in their fronts for a table of n words, its class entries and its work; a list has its own room
abbrev pub RowsFit : ℕ → ℕ → ℕ → ℕ → ℕ → Type 0
RowsFit n table list class work = (n ≤ table) × (list ≡ list_room) × (n ≤ class) × (4 * n ≤ work)

-- rows for the job and for a match of it
pub record RowsOfJob (bytes : List ℕ) (job : ℕ) (table list class work room : List ℕ) : Type 0 where
  pub copied : RowsForJob bytes job table list
  pub cut : length list ≡ min (2 * pairs_in bytes (entry_of job)) list_room
  pub classes : length class ≡ words_of bytes job
  pub works : length work ≡ 4 * words_of bytes job
  pub some_word : 1 ≤ words_of bytes job
  pub few_words : words_of bytes job ≤ most_words
  pub enough : 6 + 2 * words_of bytes job ≤ length room
