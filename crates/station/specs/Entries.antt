-- What the entries on lent buffers return and leave: a match or a table check with its answer as one number, and the writer.
-- Assumes nothing.
use Rattle.std.specs.Prelude.{◌≡◌, List, ℕ}
use Rattle.checker.specs.Check.{Checked, CheckOf, number_of as check_number, place_of as check_place, joins_of as check_joins}
use Rattle.matcher.specs.Match.{Matched, MatchOf, number_of, place_of, joins_of}
use Rattle.jobfile.specs.Writer.{WriteAnswer, WriteOf, number_of as write_number}
use Rattle.host.specs.AsOne.{as_one}

-- the one answer of a match, as a number, and the buffers that the match leaves
pub record LentOf (t list class work : List ℕ) (r : ℕ) (class_after work_after : List ℕ) : Type 0 where
  pub answer : Matched
  pub matched : MatchOf t list class work answer class_after work_after
  pub is : r ≡ as_one (number_of answer) (place_of answer) (joins_of answer)

-- the same of the table check
pub record CheckedOf (t class work : List ℕ) (r : ℕ) (class_after work_after : List ℕ) : Type 0 where
  pub answer : Checked
  pub checked : CheckOf t class work answer class_after work_after
  pub is : r ≡ as_one (check_number answer) (check_place answer) (check_joins answer)

-- the one answer of the writer, by its number, and the room that the writer leaves
pub record WrittenOf (sizes bodies room : List ℕ) (r : ℕ) (after : List ℕ) : Type 0 where
  pub answer : WriteAnswer
  pub written : WriteOf sizes bodies room answer after
  pub is : r ≡ write_number answer
