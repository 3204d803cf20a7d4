-- Demand 1, sentence by sentence. Assumes nothing.
use mathlib.Core.Path.{◌≡◌}
use mathlib.Core.Bool.{true, false}
use mathlib.Core.Logic.{◌⊎◌}
use mathlib.Core.List.{List, [], ◌∷◌, ◌++◌}
use Prim.Native.Nat.{ℕ, ◌+◌, ◌*◌, ◌≤◌}
use lib.ListN.{length, take, drop, replicate}
use Rattle.answering.specs.Answers.{Answered}
use Rattle.answering.specs.Buffers.{changes_nothing}
use Rattle.table.specs.Faults.{Fault, number, check_order, match_order}
use Rattle.checker.specs.Check.{Checked, CheckOf, number_of as check_number, place_of as check_place, checked_job}
use Rattle.matcher.specs.Match.{Matched, MatchOf, number_of, place_of, joins_of, job_of}
use Rattle.jobfile.specs.declared.sizes.Sizes.{Sizes}
use Rattle.jobfile.specs.Faults.{ROOM, ReadFault, WriteFault, read_order, write_order, file_number}
use Rattle.jobfile.specs.File.{count_in, file_of}
use Rattle.jobfile.specs.Reader.{FileAnswer, ReadOf, number_of as read_number, place_of as read_place}
use Rattle.jobfile.specs.Writer.{WriteAnswer, WriteOf, number_of as write_number, place_of as write_place}
use Rattle.host.specs.AsOne.{answer_in, place_in, joins_in}
use Rattle.jobfile.specs.Jobs.{words_of}
use Rattle.host.specs.Host.{HostOf, HostFault, host_order, report_of, writes_nothing, host_number}
use Rattle.host.specs.Sizes.{SizesFault, SizesOf}
use Rattle.station.specs.Entries.{LentOf, CheckedOf, WrittenOf}
use Rattle.checker.proofs.OneCheck.{check_only}
use Rattle.matcher.proofs.OneMatch.{match_only}
use Rattle.jobfile.proofs.ReaderLaws.{read_only}
use Rattle.jobfile.proofs.WriteAnswers.{write_only}
use Rattle.station.proofs.Theorems.{host_only, lent_only, check_entry_only, written_only, sizes_only}
use Rattle.demands.proofs.Buffers.{check_untouched, check_zero, refused_untouched, refused_zero, write_untouched}
use Rattle.demands.proofs.Lengths.{check_lengths, match_lengths, write_length}
use Rattle.demands.proofs.Room.{room_length, room_untouched, room_zero}
use Rattle.demands.proofs.OldContents.{check_old_contents, match_old_contents, host_old_contents}
use Rattle.demands.proofs.Packing.{match_unpacked, check_unpacked, sizes_unpacked}
use Rattle.demands.proofs.Entries.{lent_old_contents, lent_answered, lent_untouched, lent_zero, check_entry_old_contents, check_entry_answered, check_entry_untouched, check_entry_zero, write_entry_old_contents, write_entry_answered, write_entry_untouched, read_entry_old_contents, read_entry_answered, read_entry_untouched, read_entry_length}

-- ==== "Every call ends and stays inside the lent memory, for all words, pairs, lengths and old contents."
--
-- That a call ends, and reads and writes only what it was lent, is what the prover shows of every function before it calls it
-- proved. What it returns and leaves is then fixed, for all that can be sent:

pub check_has_one_result : {t class work : List ℕ} {r s : Checked} {class₁ work₁ class₂ work₂ : List ℕ}
    → CheckOf t class work r class₁ work₁ → CheckOf t class work s class₂ work₂ → (r ≡ s) × (class₁ ≡ class₂) × (work₁ ≡ work₂)
check_has_one_result = check_only

pub match_has_one_result : {t list class work : List ℕ} {r s : Matched} {class₁ work₁ class₂ work₂ : List ℕ}
    → MatchOf t list class work r class₁ work₁ → MatchOf t list class work s class₂ work₂ → (r ≡ s) × (class₁ ≡ class₂) × (work₁ ≡ work₂)
match_has_one_result = match_only

pub reader_has_one_result : {bytes : List ℕ} {r s : FileAnswer} {a b : Sizes} → ReadOf bytes r a → ReadOf bytes s b → (r ≡ s) × (a ≡ b)
reader_has_one_result = read_only

pub writer_has_one_result : {sizes bodies room : List ℕ} {r s : WriteAnswer} {room₁ room₂ : List ℕ}
    → WriteOf sizes bodies room r room₁ → WriteOf sizes bodies room s room₂ → (r ≡ s) × (room₁ ≡ room₂)
writer_has_one_result = write_only

pub host_call_has_one_result : {bytes room : List ℕ} {job r s : ℕ} {room₁ room₂ : List ℕ}
    → HostOf bytes job room r room₁ → HostOf bytes job room s room₂ → (r ≡ s) × (room₁ ≡ room₂)
host_call_has_one_result = host_only

pub lent_has_one_result : {t list class work : List ℕ} {r s : ℕ} {class₁ work₁ class₂ work₂ : List ℕ}
    → LentOf t list class work r class₁ work₁ → LentOf t list class work s class₂ work₂ → (r ≡ s) × (class₁ ≡ class₂) × (work₁ ≡ work₂)
lent_has_one_result = lent_only

pub check_entry_has_one_result : {t class work : List ℕ} {r s : ℕ} {class₁ work₁ class₂ work₂ : List ℕ}
    → CheckedOf t class work r class₁ work₁ → CheckedOf t class work s class₂ work₂ → (r ≡ s) × (class₁ ≡ class₂) × (work₁ ≡ work₂)
check_entry_has_one_result = check_entry_only

pub write_entry_has_one_result : {sizes bodies room : List ℕ} {r s : ℕ} {room₁ room₂ : List ℕ}
    → WrittenOf sizes bodies room r room₁ → WrittenOf sizes bodies room s room₂ → (r ≡ s) × (room₁ ≡ room₂)
write_entry_has_one_result = written_only

pub read_entry_has_one_result : {bytes sizes : List ℕ} {r s : ℕ} {sizes₁ sizes₂ : List ℕ}
    → SizesOf bytes sizes r sizes₁ → SizesOf bytes sizes s sizes₂ → (r ≡ s) × (sizes₁ ≡ sizes₂)
read_entry_has_one_result = sizes_only

-- "old contents": what the buffers held before does not count. For buffers of the same lengths and any contents what is returned is
-- the same, and so is every entry in use, for every answer but those that change nothing.

pub check_ignores_old_contents : {t class work class' work' : List ℕ} {r s : Checked} {class₁ work₁ class₂ work₂ : List ℕ}
    → length class ≡ length class' → length work ≡ length work' → CheckOf t class work r class₁ work₁ → CheckOf t class' work' s class₂ work₂
    → (r ≡ s)
    × (changes_nothing (check_number r) ≡ false → (take (length t) class₁ ≡ take (length t) class₂) × (take (4 * length t) work₁ ≡ take (4 * length t) work₂))
check_ignores_old_contents = check_old_contents

pub match_ignores_old_contents : {t list class work class' work' : List ℕ} {r s : Matched} {class₁ work₁ class₂ work₂ : List ℕ}
    → length class ≡ length class' → length work ≡ length work' → MatchOf t list class work r class₁ work₁ → MatchOf t list class' work' s class₂ work₂
    → (r ≡ s)
    × (changes_nothing (number_of r) ≡ false → (take (length t) class₁ ≡ take (length t) class₂) × (take (4 * length t) work₁ ≡ take (4 * length t) work₂))
match_ignores_old_contents = match_old_contents

pub host_call_ignores_old_contents : {bytes room other : List ℕ} {job r s : ℕ} {room₁ room₂ : List ℕ}
    → length room ≡ length other → HostOf bytes job room r room₁ → HostOf bytes job other s room₂
    → (r ≡ s) × (writes_nothing r ≡ false → take (6 + 2 * words_of bytes job) room₁ ≡ take (6 + 2 * words_of bytes job) room₂)
host_call_ignores_old_contents = host_old_contents

pub lent_ignores_old_contents : {t list class work class' work' : List ℕ} {r s : ℕ} {class₁ work₁ class₂ work₂ : List ℕ}
    → length class ≡ length class' → length work ≡ length work' → LentOf t list class work r class₁ work₁ → LentOf t list class' work' s class₂ work₂
    → (r ≡ s) × (changes_nothing (answer_in r) ≡ false → (take (length t) class₁ ≡ take (length t) class₂) × (take (4 * length t) work₁ ≡ take (4 * length t) work₂))
lent_ignores_old_contents = lent_old_contents

pub check_entry_ignores_old_contents : {t class work class' work' : List ℕ} {r s : ℕ} {class₁ work₁ class₂ work₂ : List ℕ}
    → length class ≡ length class' → length work ≡ length work' → CheckedOf t class work r class₁ work₁ → CheckedOf t class' work' s class₂ work₂
    → (r ≡ s) × (changes_nothing (answer_in r) ≡ false → (take (length t) class₁ ≡ take (length t) class₂) × (take (4 * length t) work₁ ≡ take (4 * length t) work₂))
check_entry_ignores_old_contents = check_entry_old_contents

pub write_entry_ignores_old_contents : {sizes bodies room other : List ℕ} {r s : ℕ} {room₁ room₂ : List ℕ}
    → length room ≡ length other → WrittenOf sizes bodies room r room₁ → WrittenOf sizes bodies other s room₂
    → (r ≡ s) × (r ≡ 0 → take (length (file_of sizes bodies)) room₁ ≡ take (length (file_of sizes bodies)) room₂)
write_entry_ignores_old_contents = write_entry_old_contents

pub read_entry_ignores_old_contents : {bytes sizes other : List ℕ} {r s : ℕ} {sizes₁ sizes₂ : List ℕ}
    → length sizes ≡ length other → SizesOf bytes sizes r sizes₁ → SizesOf bytes other s sizes₂
    → (r ≡ s) × (answer_in r ≡ 0 → take (2 * count_in bytes) sizes₁ ≡ take (2 * count_in bytes) sizes₂)
read_entry_ignores_old_contents = read_entry_old_contents

-- A lent row is as long afterwards as before:

pub check_keeps_lengths : {t class work : List ℕ} {r : Checked} {class_after work_after : List ℕ} → CheckOf t class work r class_after work_after
    → (length class_after ≡ length class) × (length work_after ≡ length work)
check_keeps_lengths = check_lengths

pub match_keeps_lengths : {t list class work : List ℕ} {r : Matched} {class_after work_after : List ℕ} → MatchOf t list class work r class_after work_after
    → (length class_after ≡ length class) × (length work_after ≡ length work)
match_keeps_lengths = match_lengths

pub writer_keeps_length : {sizes bodies room after : List ℕ} {r : WriteAnswer} → WriteOf sizes bodies room r after → length after ≡ length room
writer_keeps_length = write_length

pub host_call_keeps_length : {bytes room after : List ℕ} {job r : ℕ} → HostOf bytes job room r after → length after ≡ length room
host_call_keeps_length = room_length

pub lent_keeps_lengths : {t list class work : List ℕ} {r : ℕ} {class_after work_after : List ℕ} → LentOf t list class work r class_after work_after
    → (length class_after ≡ length class) × (length work_after ≡ length work)
lent_keeps_lengths h = match_lengths h.matched

pub check_entry_keeps_lengths : {t class work : List ℕ} {r : ℕ} {class_after work_after : List ℕ} → CheckedOf t class work r class_after work_after
    → (length class_after ≡ length class) × (length work_after ≡ length work)
check_entry_keeps_lengths h = check_lengths h.checked

pub write_entry_keeps_length : {sizes bodies room after : List ℕ} {r : ℕ} → WrittenOf sizes bodies room r after → length after ≡ length room
write_entry_keeps_length h = write_length h.written

pub read_entry_keeps_length : {bytes sizes sizes_after : List ℕ} {r : ℕ} → SizesOf bytes sizes r sizes_after → length sizes_after ≡ length sizes
read_entry_keeps_length = read_entry_length

-- ==== "Bad input is refused with the number and place in document 01."
--
-- Of document 01's rows, in the order that it gives, the first that applies gives number and place; if none does, both are 0.

pub check_refuses : {t class work : List ℕ} {r : Checked} {class_after work_after : List ℕ} → CheckOf t class work r class_after work_after
    → Answered number (Fault (checked_job t class work)) check_order (check_number r) (check_place r)
check_refuses c = c.answered

pub match_refuses : {t list class work : List ℕ} {r : Matched} {class_after work_after : List ℕ} → MatchOf t list class work r class_after work_after
    → Answered number (Fault (job_of t list class work)) match_order (number_of r) (place_of r)
match_refuses m = m.answered

pub reader_refuses : {bytes : List ℕ} {r : FileAnswer} {sizes : Sizes} → ReadOf bytes r sizes → Answered file_number (ReadFault bytes) read_order (read_number r) (read_place r)
reader_refuses f = f.judged

pub writer_refuses : {sizes bodies room after : List ℕ} {r : WriteAnswer} → WriteOf sizes bodies room r after
    → Answered file_number (WriteFault sizes bodies room) write_order (write_number r) (write_place r)
writer_refuses w = w.answered

pub host_call_refuses : {bytes room after : List ℕ} {job r : ℕ} (h : HostOf bytes job room r after) → Answered host_number (HostFault bytes job room) host_order r h.place
host_call_refuses h = h.answered

pub lent_refuses : {t list class work : List ℕ} {r : ℕ} {class_after work_after : List ℕ} → LentOf t list class work r class_after work_after
    → Answered number (Fault (job_of t list class work)) match_order (answer_in r) (place_in r)
lent_refuses = lent_answered

pub check_entry_refuses : {t class work : List ℕ} {r : ℕ} {class_after work_after : List ℕ} → CheckedOf t class work r class_after work_after
    → Answered number (Fault (checked_job t class work)) check_order (answer_in r) (place_in r)
check_entry_refuses = check_entry_answered

pub write_entry_refuses : {sizes bodies room after : List ℕ} {r : ℕ} → WrittenOf sizes bodies room r after → Answered file_number (WriteFault sizes bodies room) write_order r 0
write_entry_refuses = write_entry_answered

pub read_entry_refuses : {bytes sizes sizes_after : List ℕ} {r : ℕ} → SizesOf bytes sizes r sizes_after
    → Answered file_number (SizesFault bytes sizes) (read_order ++ (ROOM ∷ [])) (answer_in r) (place_in r)
read_entry_refuses = read_entry_answered

-- What the header's macros take out of a number is what was put into it:

pub lent_unpacks : {t list class work : List ℕ} {r : ℕ} {class_after work_after : List ℕ} (h : LentOf t list class work r class_after work_after)
    → (answer_in r ≡ number_of h.answer) × (place_in r ≡ place_of h.answer) × (joins_in r ≡ joins_of h.answer)
lent_unpacks = match_unpacked

pub check_entry_unpacks : {t class work : List ℕ} {r : ℕ} {class_after work_after : List ℕ} (h : CheckedOf t class work r class_after work_after)
    → (answer_in r ≡ check_number h.answer) × (place_in r ≡ check_place h.answer) × (joins_in r ≡ 0)
check_entry_unpacks = check_unpacked

pub read_entry_unpacks : {bytes sizes sizes_after : List ℕ} {r : ℕ} (h : SizesOf bytes sizes r sizes_after) → (answer_in r ≡ h.answer) × (place_in r ≡ h.place) × (joins_in r ≡ h.jobs)
read_entry_unpacks = sizes_unpacked

-- ==== "In a match, a refusal for size or room changes no buffer; every later refusal leaves the entries in use at zero."

pub match_changes_nothing : {t list class work : List ℕ} {r : Matched} {class_after work_after : List ℕ} → MatchOf t list class work r class_after work_after
    → (number_of r ≡ 1) ⊎ (number_of r ≡ 2) → (class_after ≡ class) × (work_after ≡ work)
match_changes_nothing = refused_untouched

pub match_leaves_zero : {t list class work : List ℕ} {r : Matched} {class_after work_after : List ℕ} → MatchOf t list class work r class_after work_after
    → 3 ≤ number_of r → (take (length t) class_after ≡ replicate (length t) 0) × (take (4 * length t) work_after ≡ replicate (4 * length t) 0)
match_leaves_zero = refused_zero

pub lent_changes_nothing : {t list class work : List ℕ} {r : ℕ} {class_after work_after : List ℕ} → LentOf t list class work r class_after work_after
    → (answer_in r ≡ 1) ⊎ (answer_in r ≡ 2) → (class_after ≡ class) × (work_after ≡ work)
lent_changes_nothing = lent_untouched

pub lent_leaves_zero : {t list class work : List ℕ} {r : ℕ} {class_after work_after : List ℕ} → LentOf t list class work r class_after work_after
    → 3 ≤ answer_in r → (take (length t) class_after ≡ replicate (length t) 0) × (take (4 * length t) work_after ≡ replicate (4 * length t) 0)
lent_leaves_zero = lent_zero

-- for the host call: the six numbers that write nothing, and the zeros of a later refusal
pub host_call_changes_nothing : {bytes room after : List ℕ} {job r : ℕ} → HostOf bytes job room r after → writes_nothing r ≡ true → after ≡ room
host_call_changes_nothing = room_untouched

pub host_call_leaves_zero : {bytes room after : List ℕ} {job r : ℕ} (h : HostOf bytes job room r after) → (r ≡ 0 → ⊥) → writes_nothing r ≡ false
    → after ≡ report_of r h.place 0 (replicate (words_of bytes job) 0) ++ drop (6 + 2 * words_of bytes job) room
host_call_leaves_zero = room_zero

-- and the same of the table check, the writer and the reader of sizes
pub check_changes_nothing : {t class work : List ℕ} {r : Checked} {class_after work_after : List ℕ} → CheckOf t class work r class_after work_after
    → (check_number r ≡ 1) ⊎ (check_number r ≡ 2) → (class_after ≡ class) × (work_after ≡ work)
check_changes_nothing = check_untouched

pub check_leaves_zero : {t class work : List ℕ} {r : Checked} {class_after work_after : List ℕ} → CheckOf t class work r class_after work_after
    → (check_number r ≡ 1 → ⊥) → (check_number r ≡ 2 → ⊥)
    → (take (length t) class_after ≡ replicate (length t) 0) × (take (4 * length t) work_after ≡ replicate (4 * length t) 0)
check_leaves_zero = check_zero

pub check_entry_changes_nothing : {t class work : List ℕ} {r : ℕ} {class_after work_after : List ℕ} → CheckedOf t class work r class_after work_after
    → (answer_in r ≡ 1) ⊎ (answer_in r ≡ 2) → (class_after ≡ class) × (work_after ≡ work)
check_entry_changes_nothing = check_entry_untouched

pub check_entry_leaves_zero : {t class work : List ℕ} {r : ℕ} {class_after work_after : List ℕ} → CheckedOf t class work r class_after work_after
    → (answer_in r ≡ 1 → ⊥) → (answer_in r ≡ 2 → ⊥)
    → (take (length t) class_after ≡ replicate (length t) 0) × (take (4 * length t) work_after ≡ replicate (4 * length t) 0)
check_entry_leaves_zero = check_entry_zero

pub writer_changes_nothing : {sizes bodies room after : List ℕ} {r : WriteAnswer} → WriteOf sizes bodies room r after → (write_number r ≡ 0 → ⊥) → after ≡ room
writer_changes_nothing = write_untouched

pub write_entry_changes_nothing : {sizes bodies room after : List ℕ} {r : ℕ} → WrittenOf sizes bodies room r after → (r ≡ 0 → ⊥) → after ≡ room
write_entry_changes_nothing = write_entry_untouched

pub read_entry_changes_nothing : {bytes sizes sizes_after : List ℕ} {r : ℕ} → SizesOf bytes sizes r sizes_after → (answer_in r ≡ 0 → ⊥) → (joins_in r ≡ 0) × (sizes_after ≡ sizes)
read_entry_changes_nothing = read_entry_untouched
