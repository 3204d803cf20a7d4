-- What the table check answers, and what it leaves in the lent buffers. The sentences quoted are document 01's, "Numbers
-- returned". Assumes nothing.
use Rattle.std.specs.Prelude.{◌≡◌, List, [], ℕ, ◌*◌, length, Result}
use Rattle.answering.specs.Answers.{Answered}
use Rattle.answering.specs.Refused.{zero_unless_refused}
use Rattle.answering.specs.declared.fault.TableFault.{TableFault}
use Rattle.answering.specs.TableFaults.{number_of as fault_number, place_of as fault_place}
use Rattle.answering.specs.Buffers.{left}
use Rattle.table.specs.Faults.{Job, sent, Fault, number, check_order}

-- ---- the numbers of an answer

-- The table is accepted, or refused for what is wrong with it.
abbrev pub Checked : Type 0
Checked = Result (Unit {0}) TableFault

abbrev pub number_of : Checked → ℕ
number_of = zero_unless_refused fault_number

abbrev pub place_of : Checked → ℕ
place_of = zero_unless_refused fault_place

-- "Joins is 0 on refusal"; "on 0 its joins is 0"
abbrev pub joins_of : Checked → ℕ
joins_of answer = 0

-- ---- the check

-- "The table check by itself takes the same buffers": a job with no list
abbrev pub checked_job : List ℕ → List ℕ → List ℕ → Job
checked_job t class work = sent t [] (length class) (length work)

-- "gives 0 to 7 by the same rules"
pub record CheckOf (t class work : List ℕ) (answer : Checked) (class_after work_after : List ℕ) : Type 0 where
  pub answered : Answered number (Fault (checked_job t class work)) check_order (number_of answer) (place_of answer)
  pub class_left : class_after ≡ left (number_of answer) (length t) class
  pub work_left : work_after ≡ left (number_of answer) (4 * length t) work
