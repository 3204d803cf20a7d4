-- What the program writes for a file. Assumes nothing.
use Rattle.std.specs.Prelude.{◌≡◌, List, ℕ}
use Rattle.answering.specs.Answers.{Answered}
use Rattle.jobfile.specs.File.{GoodFile}
use Rattle.jobfile.specs.Faults.{file_number, ReadFault, read_order}
use Rattle.lines.specs.Lines.{file_line}

pub data AgainOf (file : List ℕ) : List ℕ → Type 0 where
  -- "A job file that is read and written again has the same bytes"
  same_bytes : GoodFile file → AgainOf file file
  -- a refused file gives the line that a listing of it is
  refusal : {answer place : ℕ} → Answered file_number (ReadFault file) read_order answer place → (answer ≡ 0 → ⊥) → AgainOf file (file_line answer place)
