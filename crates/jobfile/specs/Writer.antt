-- What the writer answers, and what it leaves in the room. The sentences quoted are document 01's, "The job file".
-- Assumes nothing.
use Rattle.std.specs.Prelude.{◌≡◌, List, ◌++◌, ℕ, length, drop, Result, Ok, Err}
use Rattle.answering.specs.Answers.{Answered}
use Rattle.answering.specs.Refused.{zero_unless_refused}
use Rattle.jobfile.specs.File.{file_of}
use Rattle.jobfile.specs.Faults.{file_number, WriteFault, write_order}
use Rattle.jobfile.specs.declared.answers.WriteFault.{WriteFault as WriteRefusal}
use Rattle.jobfile.specs.declared.answers.WriteFault.TheVariants.{Contents, Body, File, Room}

abbrev pub fault_number : WriteRefusal → ℕ
fault_number Contents = 13
fault_number Body = 14
fault_number File = 12
fault_number Room = 2

-- "place is 0"
abbrev pub fault_place : WriteRefusal → ℕ
fault_place fault = 0

-- what `write` returns: that the file is written, or why none is
abbrev pub WriteAnswer : Type 0
WriteAnswer = Result (Unit {0}) WriteRefusal

abbrev pub number_of : WriteAnswer → ℕ
number_of = zero_unless_refused fault_number

-- "Else it answers 0, place 0"
abbrev pub place_of : WriteAnswer → ℕ
place_of = zero_unless_refused fault_place

-- "It refuses in this order, writes nothing then .. Bytes after the file stay."
unfoldable pub room_written : WriteAnswer → List ℕ → List ℕ → List ℕ
room_written (Ok written) file room = file ++ drop (length file) room
room_written (Err fault) file room = room

pub record WriteOf (sizes bodies room : List ℕ) (answer : WriteAnswer) (after : List ℕ) : Type 0 where
  pub answered : Answered file_number (WriteFault sizes bodies room) write_order (number_of answer) (place_of answer)
  pub room_left : after ≡ room_written answer (file_of sizes bodies) room
