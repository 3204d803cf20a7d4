-- The sizes of a job file, for a host that did not write it: what the call that reads them returns, and what it leaves in the
-- row that it is lent. The sentences quoted are those of include/station.h. Assumes nothing.
use Rattle.std.specs.Prelude.{◌≡◌, List, [], ◌∷◌, ◌++◌, ℕ, ◌*◌, ◌<◌, length, drop}
use Rattle.answering.specs.Answers.{Answered}
use Rattle.jobfile.specs.File.{count_in, sizes_in}
use Rattle.jobfile.specs.Faults.{FileRow, ROOM, FILE, CONTENTS, BODY, file_number, ReadFault, read_order}
use Rattle.host.specs.AsOne.{as_one}

-- A row applies to a call, at a place: 12, 13 and 14 as to the reader, and "2 if there is room for fewer than 2J sizes".
abbrev pub SizesFault : List ℕ → List ℕ → FileRow → ℕ → Type 0
SizesFault bytes sizes FILE p = ReadFault bytes FILE p
SizesFault bytes sizes CONTENTS p = ReadFault bytes CONTENTS p
SizesFault bytes sizes BODY p = ReadFault bytes BODY p
SizesFault bytes sizes ROOM p = (length sizes < 2 * count_in bytes) × (p ≡ 0)

-- "answer + 65,536 x place + 4,294,967,296 x J"
pub record SizesOf (bytes sizes : List ℕ) (r : ℕ) (sizes_after : List ℕ) : Type 0 where
  pub answer : ℕ
  pub place : ℕ
  pub jobs : ℕ
  pub is : r ≡ as_one answer place jobs
  -- "12, 13 and 14 .. then 2"
  pub answered : Answered file_number (SizesFault bytes sizes) (read_order ++ (ROOM ∷ [])) answer place
  -- "On 0 the first 2J entries are n, p, n, p, ..; later entries stay"
  pub given : answer ≡ 0 → (jobs ≡ count_in bytes) × (sizes_after ≡ sizes_in bytes ++ drop (2 * count_in bytes) sizes)
  -- "J is 0 on refusal", and "a refusal writes nothing"
  pub refused : (answer ≡ 0 → ⊥) → (jobs ≡ 0) × (sizes_after ≡ sizes)
