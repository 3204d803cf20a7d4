-- The stages of the check put together.
--
-- In order: names and loops by their rows; what the shape rows let pass can be read (`accepted_readable`, `shape_passed`); the
-- stages (`shape_refused`, `sound_stage`); size and room; the whole (`check_size`, `check_room`, `check_faults`). Assumes nothing.
use mathlib.Core.Path.{◌≡◌, refl, sym, ap, ◌∙◌, subst}
use mathlib.Core.Bool.{Bool, true, false}
use mathlib.Core.Logic.{◌⊎◌, inl, inr, ⊎_elim}
use mathlib.Core.List.{List, [], ◌∷◌, ◌++◌}
use Prim.Native.Nat.{ℕ, ◌*◌, ◌≤◌, ◌<◌}
use native.Mathlib.Omega.{arith}
use lib.ListN.{length, drop, replicate}
use Rattle.rows.specs.Placed.{zeroed}
use Rattle.words.specs.Limits.{most_words}
use Rattle.answering.specs.declared.fault.TableFault.{TableFault}
use Rattle.answering.specs.declared.fault.TableFault.TheVariants.{Size, Room, Name, Loop}
use Rattle.answering.specs.Answers.{NoneOf}
use Rattle.answering.specs.TableFaults.{number_of as fault_number, place_of as fault_place}
use Rattle.answering.specs.Buffers.{changes_nothing, left}
use Rattle.answering.proofs.FaultLaws.{known}
use Rattle.answering.proofs.Orders.{passed_none, refused_first, none_first}
use Rattle.answering.proofs.BufferLaws.{later_rows, left-zeroed}
use Rattle.table.specs.Faults.{sent, Row, Repeats, SIZE, ROOM, NAME, LOOP, number, Fault, size_fault, room_fault, name_fault, loop_fault, shape_rows, table_rows}
use Rattle.table.specs.Readable.{Readable}
use Rattle.table.proofs.PassedCheck.{no_fault_readable}
use Rattle.std.specs.Prelude.{Some, Ok, Err}
use Rattle.checker.specs.Check.{Checked, number_of, place_of, checked_job, CheckOf}
use Rattle.checker.specs.Steps.Names.{RestStays, FirstRepeated}
use Rattle.checker.specs.Steps.Sound.{SoundTable}
use Rattle.checker.specs.Steps.Stage.{ByRows, SizeAndRoom, Stage}
use Rattle.checker.proofs.LoopLaws.{Loops, LoopSearch}
use Rattle.checker.proofs.Stages.{readable_accepted}

-- ---- names and loops

pub name_stage : {t class before after : List ℕ} {a : ℕ} → FirstRepeated t before after (Some a) → Stage (NAME ∷ LOOP ∷ []) t class before (Err (Name (record { 0 = a }))) class after
unfolding number
name_stage scan = record {
  answered = λ list c w. inl (refl, name_fault scan.lowest);
  kept = record { class_kept = refl; work_kept = scan.stays.rest };
}

module _ {t class work class_after work_after : List ℕ} where
  -- the answer by row 7
  module _ {b : Bool} (search : LoopSearch t class work b class_after work_after) where
    pub loop_stage : b ≡ true → Stage (LOOP ∷ []) t class work (Err Loop) class_after work_after
    unfolding number
    loop_stage e = record { answered = λ list c w. there (subst (λ (x : Bool). Loops x t) e search.truth) list c w; kept = search.kept }
      where
        there : Loops true t → ByRows (LOOP ∷ []) t (Err Loop)
        there (x, s) list c w = inl (refl, loop_fault x s)

    pub pass_stage : b ≡ false → Stage (LOOP ∷ []) t class work (Ok tt) class_after work_after
    pass_stage e = record { answered = λ list c w. inr (none list c w, (refl, refl)); kept = search.kept }
      where
        none : (list : List ℕ) (c w p : ℕ) → Fault (sent t list c w) LOOP p → ⊥
        none list c w p (loop_fault x s) = subst (λ (x : Bool). Loops x t) e search.truth x s

  -- .. and by row 6 before it, for a table in which no name is repeated
  pub names_passed : {answer : Checked} → ((a : ℕ) → Repeats t a → ⊥) → Stage (LOOP ∷ []) t class work answer class_after work_after
      → Stage (NAME ∷ LOOP ∷ []) t class work answer class_after work_after
  names_passed none stage = record { answered = λ list c w. inr (no_name list c w, stage.answered list c w); kept = stage.kept }
    where
      no_name : (list : List ℕ) (c w p : ℕ) → Fault (sent t list c w) NAME p → ⊥
      no_name list c w p (name_fault l) = none p l.has

-- A stage that was lent the work row after another had written below 4n.
pub lent_later : {rows : List Row} {t class before work class_after work_after : List ℕ} {answer : Checked} → RestStays t before work
    → Stage rows t class work answer class_after work_after → Stage rows t class before answer class_after work_after
lent_later s stage = record {
  answered = stage.answered;
  kept = record { class_kept = stage.kept.class_kept; work_kept = stage.kept.work_kept ∙ s.rest };
}

-- ---- the shape rows

-- What the rows 3, 4 and 5 let pass can be read.
module _ {t : List ℕ} (by : ByRows shape_rows t (Ok tt)) where
  none_there : (list : List ℕ) (c w : ℕ) → NoneOf (Fault (sent t list c w)) shape_rows
  unfolding number
  none_there list c w = (passed_none number (Fault (sent t list c w)) shape_rows 0 0 refl refl (by list c w)).0

  pub accepted_readable : {class work : List ℕ} → SizeAndRoom t class work → Readable t
  accepted_readable roomy = no_fault_readable (sent t [] 0 0) roomy.some_word roomy.small (none_there [] 0 0)

  pub shape_passed : {class work class_after work_after : List ℕ} {r : Checked} → Stage (NAME ∷ LOOP ∷ []) t class work r class_after work_after
      → Stage table_rows t class work r class_after work_after
  shape_passed {r = r} stage =
      record {
        answered = λ list c w.
            none_first number (Fault (sent t list c w)) shape_rows (NAME ∷ LOOP ∷ []) (number_of r) (place_of r) (none_there list c w) (stage.answered list c w);
        kept = stage.kept;
      }

-- ---- the stages

pub shape_refused : {t class work : List ℕ} {fault : TableFault} → ByRows shape_rows t (Err fault) → Stage table_rows t class work (Err fault) class work
shape_refused {t} {fault = fault} by =
    record {
      answered = λ list c w.
          refused_first number (Fault (sent t list c w)) shape_rows (NAME ∷ LOOP ∷ []) (fault_number fault) (fault_place fault) (λ z. omega (arith, z, (known fault).1)) (by list c w);
      kept = record { class_kept = refl; work_kept = refl };
    }

-- the walk found the table sound
pub sound_stage : {t class work between class_after work_after : List ℕ} {sound : Bool} {answer : Checked} → SoundTable t work between sound → sound ≡ true
    → Stage (LOOP ∷ []) t class between answer class_after work_after → Stage table_rows t class work answer class_after work_after
sound_stage walk e stage = shape_passed (readable_accepted (walk.shows e).0) (lent_later walk.stays (names_passed (walk.shows e).1 stage))

-- ---- size and room

-- no row from 3 on leaves the buffers as they were
late : {t : List ℕ} (r : Checked) → ByRows table_rows t r → (n : ℕ) (row : List ℕ) → left (number_of r) n row ≡ zeroed n row
unfolding number changes_nothing
late {t} r by n row = left-zeroed (number_of r) n row (later_rows number (Fault (sent t [] 0 0)) table_rows (number_of r) (place_of r) refl (by [] 0 0))

cleared : (n : ℕ) (row stage : List ℕ) {after : List ℕ} → after ≡ zeroed n stage → drop n stage ≡ drop n row → after ≡ zeroed n row
cleared n row stage e k = e ∙ ap (λ (rest : List ℕ). replicate n 0 ++ rest) k

module _ (t class work : List ℕ) where
  pub check_size : (length t ≡ 0) ⊎ (most_words < length t) → CheckOf t class work (Err Size) class work
  unfolding number left changes_nothing
  check_size h = record { answered = inl (refl, size_fault h); class_left = refl; work_left = refl }

  no_size : 0 < length t → length t ≤ most_words → (p : ℕ) → Fault (checked_job t class work) SIZE p → ⊥
  no_size l u p (size_fault h) = ⊎_elim (λ e. omega arith) (λ e. omega arith) h

  pub check_room : 0 < length t → length t ≤ most_words → (length class < length t) ⊎ (length work < 4 * length t) → CheckOf t class work (Err Room) class work
  unfolding number left changes_nothing
  check_room l u h = record { answered = inr (no_size l u, inl (refl, room_fault h)); class_left = refl; work_left = refl }

  no_room : SizeAndRoom t class work → (p : ℕ) → Fault (checked_job t class work) ROOM p → ⊥
  no_room roomy p (room_fault h) = ⊎_elim (λ e. omega (arith, roomy.class_enough)) (λ e. omega (arith, roomy.work_enough)) h

  -- The answer by the rows from 3 on, with both rows cleared, is the check's.
  pub check_faults : {class_stage work_stage class_after work_after : List ℕ} {r : Checked} → SizeAndRoom t class work
      → Stage table_rows t class work r class_stage work_stage
      → class_after ≡ zeroed (length t) class_stage → work_after ≡ zeroed (4 * length t) work_stage
      → CheckOf t class work r class_after work_after
  check_faults {class_stage} {work_stage} {r = r} roomy stage ec ew =
      record {
        answered = inr (no_size roomy.some_word roomy.small, inr (no_room roomy, stage.answered [] (length class) (length work)));
        class_left = cleared (length t) class class_stage ec stage.kept.class_kept ∙ sym (late r stage.answered (length t) class);
        work_left = cleared (4 * length t) work work_stage ew stage.kept.work_kept ∙ sym (late r stage.answered (4 * length t) work);
      }
