-- The rows of document 01, "The job file", by which a job file is refused, and by which the writer refuses what it is sent,
-- with the words of each beside its constructor. Assumes nothing.
use Rattle.std.specs.Prelude.{◌≡◌, ◌⊎◌, List, [], ◌∷◌, ℕ, suc, ◌+◌, ◌%◌, ◌<◌, length}
use Rattle.words.specs.Limits.{most_bytes, most_jobs}
use Rattle.answering.specs.Answers.{Lowest}
use Rattle.jobfile.specs.File.{contents_end, count_in, offset_in, body_start, job_count, bodies_size, file_of}

pub data FileRow : Type 0 where
  ROOM FILE CONTENTS BODY : FileRow

unfoldable pub file_number : FileRow → ℕ
file_number ROOM = 2
file_number FILE = 12
file_number CONTENTS = 13
file_number BODY = 14

-- ---- the reader

-- What is wrong with the bodies, at a place: "place the entry's number", and "J + 1 if bytes follow the last body".
pub data BodyFault (bytes : List ℕ) : ℕ → Type 0 where
  -- "a wrong offset"
  wrong_offset : {k : ℕ} → k < count_in bytes → (offset_in bytes k ≡ body_start bytes k → ⊥) → BodyFault bytes (k + 1)
  -- "or a body past the end"; it ends where the next would start
  past_end : {k : ℕ} → k < count_in bytes → length bytes < body_start bytes (suc k) → BodyFault bytes (k + 1)
  -- "bytes follow the last body"
  bytes_follow : body_start bytes (count_in bytes) < length bytes → BodyFault bytes (count_in bytes + 1)

-- A row applies to a file, at a place.
pub data ReadFault (bytes : List ℕ) : FileRow → ℕ → Type 0 where
  -- "under 2 bytes or over 32,768, place 0"
  file_fault : (length bytes < 2) ⊎ (most_bytes < length bytes) → ReadFault bytes FILE 0
  -- "J is 0 or over 64, or the contents pass the end, place 0"
  contents_fault : (count_in bytes ≡ 0) ⊎ ((most_jobs < count_in bytes) ⊎ (length bytes < contents_end (count_in bytes))) → ReadFault bytes CONTENTS 0
  -- "The lowest number wins, then the lowest place."
  body_fault : {p : ℕ} → Lowest (BodyFault bytes) p → ReadFault bytes BODY p

abbrev pub read_order : List FileRow
read_order = FILE ∷ CONTENTS ∷ BODY ∷ []

-- ---- the writer

-- A row applies to what the writer takes: "the sizes (n, p, n, p, ..), the bodies' bytes end to end, and room"; "place is 0".
pub data WriteFault (sizes bodies room : List ℕ) : FileRow → ℕ → Type 0 where
  -- "13 for an odd row of sizes or J not 1 to 64"
  contents_refused : (length sizes % 2 ≡ 1) ⊎ ((job_count sizes ≡ 0) ⊎ (most_jobs < job_count sizes)) → WriteFault sizes bodies room CONTENTS 0
  -- "14 if the bodies' length is not the sum"
  body_refused : (length bodies ≡ bodies_size sizes → ⊥) → WriteFault sizes bodies room BODY 0
  -- "12 if the file passes 32,768"
  file_refused : most_bytes < length (file_of sizes bodies) → WriteFault sizes bodies room FILE 0
  -- "2 if room is short"
  room_refused : length room < length (file_of sizes bodies) → WriteFault sizes bodies room ROOM 0

-- "It refuses in this order": 13, 14, 12, 2
abbrev pub write_order : List FileRow
write_order = CONTENTS ∷ BODY ∷ FILE ∷ ROOM ∷ []
