-- What a refusal leaves in the lent buffers.
--
-- In order: the rows of a match (`refused_untouched`, `refused_zero`), those of the check (`check_untouched`, `check_zero`), and
-- the writer's room (`write_untouched`). Assumes nothing.
use mathlib.Core.Path.{◌≡◌, refl, ap, ◌∙◌}
use mathlib.Core.Bool.{false}
use mathlib.Core.Logic.{◌⊎◌, ⊎_elim}
use mathlib.Core.List.{List}
use Prim.Native.Nat.{ℕ, ◌*◌, ◌≤◌}
use native.Mathlib.Omega.{arith}
use lib.ListN.{length, take, drop, replicate, length-replicate}
use lib.Seq.{take_at}
use Rattle.answering.specs.Buffers.{changes_nothing, left}
use Rattle.answering.proofs.BufferLaws.{early_changes, late_changes, left_same, left-zeroed}
use Rattle.checker.specs.Check.{Checked, CheckOf, number_of as check_number}
use Rattle.matcher.specs.Match.{Matched, number_of, MatchOf}
use Rattle.std.specs.Prelude.{Ok, Err}
use Rattle.jobfile.specs.declared.answers.WriteFault.TheVariants.{Contents, Body, File, Room as NoRoom}
use Rattle.jobfile.specs.File.{file_of}
use Rattle.jobfile.specs.Writer.{WriteAnswer, WriteOf, room_written, number_of as write_number}

-- what is in front then
pub left_front : (a n : ℕ) (row : List ℕ) → changes_nothing a ≡ false → take n (left a n row) ≡ replicate n 0
left_front a n row late = ap (take n) (left-zeroed a n row late) ∙ take_at (replicate n 0) (drop n row) n (length-replicate {A = ℕ} n 0)

-- ---- a match

module _ {t list class work : List ℕ} {r : Matched} {class_after work_after : List ℕ} (m : MatchOf t list class work r class_after work_after) where
  pub refused_untouched : (number_of r ≡ 1) ⊎ (number_of r ≡ 2) → (class_after ≡ class) × (work_after ≡ work)
  refused_untouched h = (
    m.refused (λ z. ⊎_elim (λ e. omega arith) (λ e. omega arith) h) ∙ left_same (number_of r) (length t) class (early_changes (number_of r) h),
    m.work_left ∙ left_same (number_of r) (4 * length t) work (early_changes (number_of r) h),
  )

  pub refused_zero : 3 ≤ number_of r → (take (length t) class_after ≡ replicate (length t) 0) × (take (4 * length t) work_after ≡ replicate (4 * length t) 0)
  refused_zero h =
      let late : changes_nothing (number_of r) ≡ false = late_changes (number_of r) (λ e. omega arith) (λ e. omega arith) in (
        ap (take (length t)) (m.refused (λ z. omega arith)) ∙ left_front (number_of r) (length t) class late,
        ap (take (4 * length t)) m.work_left ∙ left_front (number_of r) (4 * length t) work late,
      )

-- ---- the check

module _ {t class work : List ℕ} {r : Checked} {class_after work_after : List ℕ} (c : CheckOf t class work r class_after work_after) where
  pub check_untouched : (check_number r ≡ 1) ⊎ (check_number r ≡ 2) → (class_after ≡ class) × (work_after ≡ work)
  check_untouched h = (
    c.class_left ∙ left_same (check_number r) (length t) class (early_changes (check_number r) h),
    c.work_left ∙ left_same (check_number r) (4 * length t) work (early_changes (check_number r) h),
  )

  pub check_zero : (check_number r ≡ 1 → ⊥) → (check_number r ≡ 2 → ⊥) → (take (length t) class_after ≡ replicate (length t) 0) × (take (4 * length t) work_after ≡ replicate (4 * length t) 0)
  check_zero one two = (
    ap (take (length t)) c.class_left ∙ left_front (check_number r) (length t) class (late_changes (check_number r) one two),
    ap (take (4 * length t)) c.work_left ∙ left_front (check_number r) (4 * length t) work (late_changes (check_number r) one two),
  )

-- ---- the writer

write_left : (r : WriteAnswer) (file room : List ℕ) → (write_number r ≡ 0 → ⊥) → room_written r file room ≡ room
unfolding room_written
write_left (Ok done) file room refused = absurd (refused refl)
write_left (Err Contents) file room refused = refl
write_left (Err Body) file room refused = refl
write_left (Err File) file room refused = refl
write_left (Err NoRoom) file room refused = refl

pub write_untouched : {sizes bodies room after : List ℕ} {r : WriteAnswer} → WriteOf sizes bodies room r after → (write_number r ≡ 0 → ⊥) → after ≡ room
write_untouched {sizes} {bodies} {room} {r = r} w refused = w.room_left ∙ write_left r (file_of sizes bodies) room refused
