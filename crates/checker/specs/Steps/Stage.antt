-- What the stages of the check promise each other. For this crate alone. Assumes nothing.
use Rattle.std.specs.Prelude.{◌≡◌, List, [], ◌∷◌, ℕ, zero, suc, ◌*◌, ◌≤◌, ◌<◌, length, drop}
use Rattle.words.specs.Limits.{most_words}
use Rattle.answering.specs.Answers.{Answered}
use Rattle.table.specs.Faults.{sent, Row, Fault, number}
use Rattle.checker.specs.Check.{Checked, number_of, place_of}

-- Rows that speak of the table alone answer so, whatever the list and the room.
abbrev pub ByRows : List Row → List ℕ → Checked → Type 0
ByRows rows t answer =
    (list : List ℕ) (class_room work_room : ℕ)
    → Answered number (Fault (sent t list class_room work_room)) rows (number_of answer) (place_of answer)

-- 0, 1, 2, .. : the numbers from one on, as many as the second says
abbrev pub counting : ℕ → ℕ → List ℕ
counting from zero = []
counting from (suc k) = from ∷ counting (suc from) k

-- a table, of a size that is allowed, with room for it
pub record SizeAndRoom (t class work : List ℕ) : Type 0 where
  pub some_word : 0 < length t
  pub small : length t ≤ most_words
  pub class_enough : length t ≤ length class
  pub work_enough : 4 * length t ≤ length work

-- the rows that a stage was lent: nothing above n and 4n changed
pub record OnlyFronts (t class work class_after work_after : List ℕ) : Type 0 where
  pub class_kept : drop (length t) class_after ≡ drop (length t) class
  pub work_kept : drop (4 * length t) work_after ≡ drop (4 * length t) work

-- what a stage answers by its rows, and what it keeps
pub record Stage (rows : List Row) (t class work : List ℕ) (answer : Checked) (class_after work_after : List ℕ) : Type 0 where
  pub answered : ByRows rows t answer
  pub kept : OnlyFronts t class work class_after work_after
