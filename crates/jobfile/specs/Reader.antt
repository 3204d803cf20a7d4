-- What the reader answers, and what it yields. The sentences quoted are document 01's, "The job file". Assumes nothing.
use Rattle.std.specs.Prelude.{◌≡◌, List, [], ◌++◌, ℕ, ◌-◌, length, replicate, Result, Ok, Err}
use Rattle.words.specs.Limits.{most_sizes}
use Rattle.answering.specs.Answers.{Answered}
use Rattle.answering.specs.Refused.{zero_unless_refused}
use Rattle.jobfile.specs.File.{sizes_in, bodies_in}
use Rattle.jobfile.specs.Faults.{file_number, ReadFault, read_order}
use Rattle.jobfile.specs.declared.answers.FileFault.{FileFault}
use Rattle.jobfile.specs.declared.answers.FileFault.TheVariants.{File, Contents, Body}
use Rattle.jobfile.specs.declared.sizes.Sizes.{Sizes}

-- ---- the numbers of an answer

abbrev pub fault_number : FileFault → ℕ
fault_number File = 12
fault_number Contents = 13
fault_number (Body entry) = 14

abbrev pub fault_place : FileFault → ℕ
fault_place File = 0
fault_place Contents = 0
fault_place (Body entry) = entry.0

-- what `judge` returns: that the file is good, or why it is refused
abbrev pub FileAnswer : Type 0
FileAnswer = Result (Unit {0}) FileFault

abbrev pub number_of : FileAnswer → ℕ
number_of = zero_unless_refused fault_number

abbrev pub place_of : FileAnswer → ℕ
place_of = zero_unless_refused fault_place

-- "The lowest number wins, then the lowest place. A good file answers 0, place 0"
abbrev pub Judged : List ℕ → FileAnswer → Type 0
Judged bytes answer = Answered file_number (ReadFault bytes) read_order (number_of answer) (place_of answer)

-- ---- what it yields

-- "the row of sizes"; "a refusal yields an empty row and part"
abbrev pub yielded_sizes : FileAnswer → List ℕ → List ℕ
yielded_sizes (Ok good) bytes = sizes_in bytes
yielded_sizes (Err fault) bytes = []

-- "and the bodies as the part of the file after the contents"
abbrev pub yielded_bodies : FileAnswer → List ℕ → List ℕ
yielded_bodies (Ok good) bytes = bodies_in bytes
yielded_bodies (Err fault) bytes = []

-- "by value, at most 128 numbers, unused places 0"
unfoldable pub in_row : List ℕ → List ℕ
in_row xs = xs ++ replicate (most_sizes - length xs) 0

-- a row of sizes by value holds these sizes
pub record Holds (sizes : Sizes) (xs : List ℕ) : Type 0 where
  pub numbers : sizes.row ≡ in_row xs
  pub counted : sizes.count ≡ length xs

-- ---- the reader's functions

pub record ReadOf (bytes : List ℕ) (answer : FileAnswer) (sizes : Sizes) : Type 0 where
  pub judged : Judged bytes answer
  pub yielded : Holds sizes (yielded_sizes answer bytes)

-- the one answer that the reader gives of the file, and what it then yields
pub record BodiesOf (bytes part : List ℕ) : Type 0 where
  pub answer : FileAnswer
  pub judged : Judged bytes answer
  pub yielded : part ≡ yielded_bodies answer bytes
