-- What a match answers, and what it leaves in the lent buffers. The sentences quoted are document 01's, "Numbers returned".
-- Assumes nothing.
use Rattle.std.specs.Prelude.{◌≡◌, Result, Ok, Err, List, ◌++◌, ℕ, ◌*◌, length, drop}
use Rattle.answering.specs.Answers.{Answered, NoneOf}
use Rattle.answering.specs.Refused.{zero_unless_refused}
use Rattle.answering.specs.TableFaults.{number_of as fault_number, place_of as fault_place}
use Rattle.answering.specs.Buffers.{left}
use Rattle.graphs.specs.Partition.{pairs_of, ClassTable, joins}
use Rattle.table.specs.Table.{graph_of}
use Rattle.table.specs.Faults.{Job, sent, Fault, number, check_order, list_rows, match_order}
use Rattle.matcher.specs.declared.answer.Counts.{Counts}
use Rattle.matcher.specs.declared.answer.Refusal.{Refusal}
use Rattle.matcher.specs.declared.answer.Refusal.TheVariants.{Table, List as Entries, Side, Clash, Cycle}

-- ---- the numbers of an answer

-- The list is accepted, with what is counted of it, or refused.
abbrev pub Matched : Type 0
Matched = Result Counts Refusal

abbrev pub refusal_number : Refusal → ℕ
refusal_number (Table fault) = fault_number fault
refusal_number Entries = 8
refusal_number (Side k) = 9
refusal_number (Clash k) = 10
refusal_number (Cycle k) = 11

abbrev pub refusal_place : Refusal → ℕ
refusal_place (Table fault) = fault_place fault
refusal_place Entries = 0
refusal_place (Side k) = k.0
refusal_place (Clash k) = k.0
refusal_place (Cycle k) = k.0

abbrev pub number_of : Matched → ℕ
number_of = zero_unless_refused refusal_number

abbrev pub place_of : Matched → ℕ
place_of = zero_unless_refused refusal_place

-- "Joins is 0 on refusal."
abbrev pub joins_of : Matched → ℕ
joins_of (Ok counts) = counts.joins
joins_of (Err refusal) = 0

-- ---- the match

-- "for answer 0 the class entries are the class table", and "The joins are the number of nodes less the number of classes."
pub record AcceptedWith (t list class class_after : List ℕ) (joined : ℕ) : Type 0 where
  pub table : List ℕ
  pub class_table : ClassTable (graph_of t) (pairs_of list) table
  pub row : class_after ≡ table ++ drop (length t) class
  pub joins_counted : joined ≡ joins (graph_of t) table

abbrev pub job_of : List ℕ → List ℕ → List ℕ → List ℕ → Job
job_of t list class work = sent t list (length class) (length work)

-- "Each match returns answer, place and joins."
pub record MatchOf (t list class work : List ℕ) (answer : Matched) (class_after work_after : List ℕ) : Type 0 where
  pub answered : Answered number (Fault (job_of t list class work)) match_order (number_of answer) (place_of answer)
  pub bound : number_of answer ≡ 0 → AcceptedWith t list class class_after (joins_of answer)
  pub refused : (number_of answer ≡ 0 → ⊥) → class_after ≡ left (number_of answer) (length t) class
  pub work_left : work_after ≡ left (number_of answer) (4 * length t) work

-- ---- a job that passes all checks

-- "For a table, list and buffers that pass all checks": none of the rows 1 to 9 applies.
abbrev pub Passes : Job → Type 0
Passes job = NoneOf (Fault job) (check_order ++ list_rows)
