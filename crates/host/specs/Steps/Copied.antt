-- What the copying of a file's sizes promises. For this crate alone. Assumes nothing.
use Rattle.std.specs.Prelude.{◌≡◌, List, [], ◌∷◌, ◌++◌, ℕ, ◌*◌, drop, Result, Ok, Err}
use Rattle.answering.specs.Answers.{Answered}
use Rattle.answering.specs.Refused.{zero_unless_refused}
use Rattle.jobfile.specs.File.{count_in, sizes_in}
use Rattle.jobfile.specs.Faults.{ROOM, file_number, read_order}
use Rattle.jobfile.specs.Reader.{fault_number, fault_place}
use Rattle.host.specs.Sizes.{SizesFault}
use Rattle.host.specs.declared.sizes.Refusal.{Refusal}
use Rattle.host.specs.declared.sizes.Refusal.TheVariants.{File, Room}

abbrev pub refusal_number : Refusal → ℕ
refusal_number (File fault) = fault_number fault
refusal_number Room = 2

abbrev pub refusal_place : Refusal → ℕ
refusal_place (File fault) = fault_place fault
refusal_place Room = 0

-- what is left of the row, by what was given
abbrev pub RowLeft : List ℕ → List ℕ → Result ℕ Refusal → List ℕ → Type 0
RowLeft bytes sizes (Ok jobs) after = (jobs ≡ count_in bytes) × (after ≡ sizes_in bytes ++ drop (2 * count_in bytes) sizes)
RowLeft bytes sizes (Err refusal) after = after ≡ sizes

pub record SizesCopied (bytes sizes : List ℕ) (given : Result ℕ Refusal) (after : List ℕ) : Type 0 where
  pub answered :
      Answered file_number (SizesFault bytes sizes) (read_order ++ (ROOM ∷ [])) (zero_unless_refused refusal_number given) (zero_unless_refused refusal_place given)
  pub row_left : RowLeft bytes sizes given after
