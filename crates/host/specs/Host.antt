-- The host call: which number it returns, and what it leaves in the room. The sentences quoted are document 01's, "The host
-- and the listing". Assumes nothing.
use Rattle.std.specs.Prelude.{◌≡◌, Bool, cond, ◌||◌, ◌⊎◌, List, [], ◌∷◌, ◌++◌, map, ℕ, ◌+◌, ◌*◌, ◌<◌, eqb, length, drop, replicate}
use Rattle.rows.specs.LittleEndian.{bytes_of}
use Rattle.words.specs.Limits.{most_words}
use Rattle.graphs.specs.Partition.{pairs_of, ClassTable, joins}
use Rattle.table.specs.Table.{graph_of}
use Rattle.answering.specs.Answers.{Answered}
use Rattle.table.specs.Faults.{Job, sent, Row as MatchRow, Fault, number as match_number, table_rows, list_rows, pair_rows}
use Rattle.jobfile.specs.Numbers.{bytes_of_row}
use Rattle.jobfile.specs.File.{count_in}
use Rattle.jobfile.specs.Jobs.{words_of, table_of, list_of}
use Rattle.jobfile.specs.Faults.{FileRow, ReadFault, file_number, read_order}

-- ---- the job

-- What the match is sent. The host call has buffers of n and of 4n entries for it, so that 2 is about the room alone.
abbrev pub called_job : List ℕ → ℕ → Job
called_job bytes job = sent (table_of bytes job) (list_of bytes job) (words_of bytes job) (4 * words_of bytes job)

-- ---- the answer

pub data HostRow : Type 0 where
  of_file : FileRow → HostRow
  JOB SIZE ROOM : HostRow
  of_match : MatchRow → HostRow

unfoldable pub host_number : HostRow → ℕ
host_number (of_file row) = file_number row
host_number JOB = 15
host_number SIZE = 1
host_number ROOM = 2
host_number (of_match row) = match_number row

-- A row applies to a call, at a place.
pub data HostFault (bytes : List ℕ) (job : ℕ) (room : List ℕ) : HostRow → ℕ → Type 0 where
  -- 12, 13 and 14 are the reader's
  file_fault : {row : FileRow} {p : ℕ} → ReadFault bytes row p → HostFault bytes job room (of_file row) p
  -- "15 JOB if the number is not 1 to J"
  job_fault : (job ≡ 0) ⊎ (count_in bytes < job) → HostFault bytes job room JOB 0
  -- 1: "n is 0 or over 4,096"
  size_fault : (words_of bytes job ≡ 0) ⊎ (most_words < words_of bytes job) → HostFault bytes job room SIZE 0
  -- "2 if room is under 6 + 2n"
  room_fault : length room < 6 + 2 * words_of bytes job → HostFault bytes job room ROOM 0
  -- 3 to 11 are the match's, of the job's own table and list
  match_fault : {row : MatchRow} {p : ℕ} → Fault (called_job bytes job) row p → HostFault bytes job room (of_match row) p

-- "Order: 12, 13, 14; 15 ..; 1; 2 .." and then 3 to 11
abbrev pub call_rows : List HostRow
call_rows = JOB ∷ SIZE ∷ ROOM ∷ []

abbrev pub early_order : List HostRow
early_order = map of_file read_order ++ call_rows

abbrev pub late_order : List HostRow
late_order = map of_match (table_rows ++ list_rows ++ pair_rows)

abbrev pub host_order : List HostRow
host_order = early_order ++ late_order

-- ---- the room

-- "answer, place, joins (2 bytes each) and the n class entries"
unfoldable pub report_of : ℕ → ℕ → ℕ → List ℕ → List ℕ
report_of answer place joined classes = bytes_of 2 answer ++ bytes_of 2 place ++ bytes_of 2 joined ++ bytes_of_row 2 classes

-- "These six write nothing."
unfoldable pub writes_nothing : ℕ → Bool
writes_nothing answer = eqb answer 12 || eqb answer 13 || eqb answer 14 || eqb answer 15 || eqb answer 1 || eqb answer 2

-- "The room then holds" the report; "later bytes stay"
unfoldable pub room_after : ℕ → List ℕ → List ℕ → List ℕ
room_after answer report room = cond (writes_nothing answer) room (report ++ drop (length report) room)

-- ---- the call

-- for answer 0, the class table of the job, and its joins
pub record JobAcceptedWith (bytes : List ℕ) (job joined : ℕ) (classes : List ℕ) : Type 0 where
  pub class_table : ClassTable (graph_of (table_of bytes job)) (pairs_of (list_of bytes job)) classes
  pub joins_counted : joined ≡ joins (graph_of (table_of bytes job)) classes

-- "it passes a job file as bytes, a job number and byte room, and gets the answer number"
pub record HostOf (bytes : List ℕ) (job : ℕ) (room : List ℕ) (answer : ℕ) (after : List ℕ) : Type 0 where
  pub place : ℕ
  pub joined : ℕ
  pub classes : List ℕ
  pub answered : Answered host_number (HostFault bytes job room) host_order answer place
  pub bound : answer ≡ 0 → JobAcceptedWith bytes job joined classes
  -- "zeros if refused"
  pub refused : (answer ≡ 0 → ⊥) → (joined ≡ 0) × (classes ≡ replicate (words_of bytes job) 0)
  pub room_left : after ≡ room_after answer (report_of answer place joined classes) room
