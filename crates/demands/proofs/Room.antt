-- What the host call leaves in the room, by its answer: nothing (`room_untouched`), the report (`room_reported`), and the
-- zeros of a refusal (`room_zero`), the class table of an accepted list (`room_bound`); and that it keeps its length (`room_length`). Assumes nothing.
use mathlib.Core.Path.{◌≡◌, refl, ap, ap₂, ◌∙◌}
use mathlib.Core.Bool.{Bool, true, false, cond}
use mathlib.Core.Logic.{◌⊎◌, inl, inr}
use mathlib.Core.List.{List, ◌++◌, map}
use Prim.Native.Nat.{ℕ, ◌+◌, ◌*◌, ◌≤◌}
use native.Mathlib.Decide.{ℕ_discrete}
use native.Mathlib.Omega.{arith}
use lib.ListN.{length, drop, replicate, length-append, length-replicate}
use Rattle.rows.proofs.Laws.{length-bytes_of}
use Rattle.answering.specs.Answers.{Answered, NoneOf}
use Rattle.answering.proofs.Orders.{passed_none, answered_parts, none_parts}
use Rattle.graphs.specs.Partition.{pairs_of, ClassTable, joins}
use Rattle.graphs.proofs.Classes.{never}
use Rattle.table.specs.Table.{graph_of}
use Rattle.table.specs.Faults.{number as match_number}
use Rattle.matcher.proofs.Verdicts.{at_most}
use Rattle.jobfile.specs.File.{body_in}
use Rattle.jobfile.specs.Faults.{file_number, read_order}
use Rattle.jobfile.proofs.NumberLaws.{length-bytes_of_row, length-row_in}
use Rattle.jobfile.specs.Jobs.{entry_of, words_of, table_of, list_of}
use Rattle.host.specs.Host.{of_file, host_number, HostFault, room_fault, call_rows, early_order, late_order, host_order, report_of, writes_nothing, room_after, HostOf}
use Rattle.host.proofs.ChoiceLaws.{early_silent}
use Rattle.demands.proofs.Lengths.{front_length}

pub length_report : (a p j : ℕ) (classes : List ℕ) → length (report_of a p j classes) ≡ 6 + 2 * length classes
unfolding report_of
length_report a p j classes = simp (length-append, length-bytes_of, length-bytes_of_row) (omega arith)

module _ {bytes : List ℕ} {job : ℕ} {room : List ℕ} {a : ℕ} {after : List ℕ} (h : HostOf bytes job room a after) where
  pub room_untouched : writes_nothing a ≡ true → after ≡ room
  unfolding room_after
  room_untouched e = h.room_left ∙ ap (λ (b : Bool). cond b room (report_of a h.place h.joined h.classes ++ drop (length (report_of a h.place h.joined h.classes)) room)) e

  pub room_reported : writes_nothing a ≡ false → after ≡ report_of a h.place h.joined h.classes ++ drop (6 + 2 * length h.classes) room
  unfolding room_after
  room_reported e =
      h.room_left
      ∙ ap (λ (b : Bool). cond b room (report_of a h.place h.joined h.classes ++ drop (length (report_of a h.place h.joined h.classes)) room)) e
      ∙ ap (λ (n : ℕ). report_of a h.place h.joined h.classes ++ drop n room) (length_report a h.place h.joined h.classes)

  pub room_zero : (a ≡ 0 → ⊥) → writes_nothing a ≡ false → after ≡ report_of a h.place 0 (replicate (words_of bytes job) 0) ++ drop (6 + 2 * words_of bytes job) room
  room_zero refused e =
      room_reported e
      ∙ ap₂ (λ (j : ℕ) (l : List ℕ). report_of a h.place j l ++ drop (6 + 2 * length l) room) (h.refused refused).0 (h.refused refused).1
      ∙ ap (λ (n : ℕ). report_of a h.place 0 (replicate (words_of bytes job) 0) ++ drop (6 + 2 * n) room) (length-replicate {A = ℕ} (words_of bytes job) 0)

  pub room_bound : a ≡ 0 → ClassTable (graph_of (table_of bytes job)) (pairs_of (list_of bytes job)) h.classes
      × (after ≡ report_of 0 0 (joins (graph_of (table_of bytes job)) h.classes) h.classes ++ drop (6 + 2 * words_of bytes job) room)
  unfolding writes_nothing host_number file_number match_number
  room_bound z =
      let b = h.bound z in
      let origin : h.place ≡ 0 = (passed_none host_number (HostFault bytes job room) host_order a h.place refl z h.answered).1 in
      let size : length h.classes ≡ words_of bytes job = b.class_table.long ∙ length-row_in 4 (words_of bytes job) (body_in bytes (entry_of job)) in (
        b.class_table,
        room_reported (ap writes_nothing z)
            ∙ ap₂ (λ (r n : ℕ). report_of r h.place h.joined h.classes ++ drop (6 + 2 * n) room) z size
            ∙ ap₂ (λ (p j : ℕ). report_of 0 p j h.classes ++ drop (6 + 2 * words_of bytes job) room) origin b.joins_counted,
      )

  -- ---- its length

  -- An answer that writes is given in room enough.
  enough : writes_nothing a ≡ false → 6 + 2 * words_of bytes job ≤ length room
  unfolding host_number file_number
  enough w = go (answered_parts host_number (HostFault bytes job room) early_order late_order a h.place refl h.answered)
    where
      go : ((a ≡ 0 → ⊥) × Answered host_number (HostFault bytes job room) early_order a h.place) ⊎ (NoneOf (HostFault bytes job room) early_order × Answered host_number (HostFault bytes job room) late_order a h.place)
          → 6 + 2 * words_of bytes job ≤ length room
      go (inl (refused, x)) = let silent : writes_nothing a ≡ true = early_silent bytes job room a h.place refused x in never (cc)
      go (inr (none_early, later)) = at_most (λ short. (none_parts (HostFault bytes job room) (map of_file read_order) call_rows none_early).1.1.1.0 0 (room_fault short))

  pub classes-length : Dec (a ≡ 0) → length h.classes ≡ words_of bytes job
  classes-length (yes z) = (h.bound z).class_table.long ∙ length-row_in 4 (words_of bytes job) (body_in bytes (entry_of job))
  classes-length (no z) = ap length (h.refused z).1 ∙ length-replicate {A = ℕ} (words_of bytes job) 0

  pub room_length : length after ≡ length room
  room_length = go (writes_nothing a) refl
    where
      go : (b : Bool) → writes_nothing a ≡ b → length after ≡ length room
      go true e = ap length (room_untouched e)
      go false e =
          let size : length h.classes ≡ words_of bytes job = classes-length (ℕ_discrete a 0) in
          ap length (room_reported e)
          ∙ front_length (report_of a h.place h.joined h.classes) room (length_report a h.place h.joined h.classes) (omega (arith, size, enough e))
