-- A lent row is as long after a call as before it, whatever the answer: of the check and a match (`check_lengths`,
-- `match_lengths`), and of the writer (`write_length`). Assumes nothing.
use mathlib.Core.Path.{◌≡◌, refl, ap, ◌∙◌}
use mathlib.Core.Bool.{Bool, true, false}
use mathlib.Core.Logic.{inl, inr}
use mathlib.Core.List.{List, ◌++◌}
use Prim.Native.Nat.{ℕ, ◌*◌, ◌≤◌}
use native.Mathlib.Decide.{ℕ_discrete}
use native.Mathlib.Omega.{arith}
use lib.ListN.{length, drop, replicate, length-append, length-replicate, length-drop}
use Rattle.answering.specs.Answers.{Answered}
use Rattle.answering.specs.Buffers.{changes_nothing, left}
use Rattle.answering.proofs.Orders.{passed_none}
use Rattle.answering.proofs.BufferLaws.{left_same, left-zeroed}
use Rattle.graphs.proofs.Classes.{never}
use Rattle.table.specs.Faults.{Job, Row, Fault, room_fault, number, size_rows, table_rows, list_rows, pair_rows}
use Rattle.checker.specs.Check.{Checked, CheckOf, number_of as check_number, place_of as check_place, checked_job}
use Rattle.matcher.specs.Match.{Matched, number_of, place_of, MatchOf, job_of}
use Rattle.matcher.proofs.Verdicts.{at_most}
use Rattle.std.specs.Prelude.{Ok, Err}
use Rattle.jobfile.specs.declared.answers.WriteFault.TheVariants.{Contents, Body, File, Room as NoRoom}
use Rattle.jobfile.specs.File.{file_of}
use Rattle.jobfile.specs.Faults.{WriteFault, room_refused, write_order, file_number}
use Rattle.jobfile.specs.Writer.{WriteAnswer, WriteOf, number_of as write_number}
use Rattle.jobfile.proofs.Theorems.{writer_writes_good}
use Rattle.demands.proofs.Buffers.{write_untouched}

-- a front of n entries, and of a row of at least n what stands behind them
pub front_length : {n : ℕ} (front row : List ℕ) → length front ≡ n → n ≤ length row → length (front ++ drop n row) ≡ length row
front_length {n} front row e h = simp (length-append, length-drop) (omega (arith, e, h))

-- ---- the check and a match

-- An answer that changes something is given in room enough.
record Enough (job : Job) : Type 0 where
  classes : length job.table ≤ job.class_room
  works : 4 * length job.table ≤ job.work_room

enough : (job : Job) (rows : List Row) (a p : ℕ) → changes_nothing a ≡ false → Answered number (Fault job) (size_rows ++ rows) a p → Enough job
unfolding number changes_nothing
enough job rows a p late (inl (e, f)) = let early : changes_nothing a ≡ true = ap changes_nothing e in never (cc)
enough job rows a p late (inr (no_size, inl (e, f))) = let early : changes_nothing a ≡ true = ap changes_nothing e in never (cc)
enough job rows a p late (inr (no_size, inr (no_room, later))) =
    record { classes = at_most (λ h. no_room 0 (room_fault (inl h))); works = at_most (λ h. no_room 0 (room_fault (inr h))) }

-- What an answer leaves of a row, n entries of it cleared where it has them, is as long as the row.
left-length : (a n : ℕ) (row : List ℕ) {after : List ℕ} → after ≡ left a n row → (changes_nothing a ≡ false → n ≤ length row) → length after ≡ length row
left-length a n row {after} e room = go (changes_nothing a) refl
  where
    go : (b : Bool) → changes_nothing a ≡ b → length after ≡ length row
    go true t = ap length (e ∙ left_same a n row t)
    go false t = ap length (e ∙ left-zeroed a n row t) ∙ front_length (replicate n 0) row (length-replicate {A = ℕ} n 0) (room t)

module _ {t class work : List ℕ} {r : Checked} {class_after work_after : List ℕ} (c : CheckOf t class work r class_after work_after) where
  check_enough : changes_nothing (check_number r) ≡ false → Enough (checked_job t class work)
  check_enough late = enough (checked_job t class work) table_rows (check_number r) (check_place r) late c.answered

  pub check_lengths : (length class_after ≡ length class) × (length work_after ≡ length work)
  check_lengths = (
    left-length (check_number r) (length t) class c.class_left (λ late. (check_enough late).classes),
    left-length (check_number r) (4 * length t) work c.work_left (λ late. (check_enough late).works),
  )

module _ {t list class work : List ℕ} {r : Matched} {class_after work_after : List ℕ} (m : MatchOf t list class work r class_after work_after) where
  match_enough : changes_nothing (number_of r) ≡ false → Enough (job_of t list class work)
  match_enough late = enough (job_of t list class work) (table_rows ++ list_rows ++ pair_rows) (number_of r) (place_of r) late m.answered

  class-length : Dec (number_of r ≡ 0) → length class_after ≡ length class
  unfolding changes_nothing
  class-length (yes z) =
      ap length (m.bound z).row
      ∙ front_length (m.bound z).table class (m.bound z).class_table.long (match_enough (ap changes_nothing z)).classes
  class-length (no z) = left-length (number_of r) (length t) class (m.refused z) (λ late. (match_enough late).classes)

  pub match_lengths : (length class_after ≡ length class) × (length work_after ≡ length work)
  match_lengths = (class-length (ℕ_discrete (number_of r) 0), left-length (number_of r) (4 * length t) work m.work_left (λ late. (match_enough late).works))

-- ---- the writer

module _ {sizes bodies room : List ℕ} where
  file_fits : {p : ℕ} → Answered file_number (WriteFault sizes bodies room) write_order 0 p → length (file_of sizes bodies) ≤ length room
  unfolding file_number
  file_fits {p} x = at_most (λ h. (passed_none file_number (WriteFault sizes bodies room) write_order 0 p refl refl x).0.1.1.1.0 0 (room_refused h))

  pub write_length : {r : WriteAnswer} {after : List ℕ} → WriteOf sizes bodies room r after → length after ≡ length room
  write_length {r} {after} w = go (ℕ_discrete (write_number r) 0)
    where
      written : (s : WriteAnswer) → WriteOf sizes bodies room s after → write_number s ≡ 0 → length after ≡ length room
      written (Ok done) v z = ap length (writer_writes_good v).1 ∙ front_length (file_of sizes bodies) room refl (file_fits v.answered)
      written (Err Contents) v z = absurd (omega (arith, z))
      written (Err Body) v z = absurd (omega (arith, z))
      written (Err File) v z = absurd (omega (arith, z))
      written (Err NoRoom) v z = absurd (omega (arith, z))

      go : Dec (write_number r ≡ 0) → length after ≡ length room
      go (no refused) = ap length (write_untouched w refused)
      go (yes z) = written r w z
