-- What the lent buffers held before a call does not count: for buffers of the same lengths and any contents the answer is the
-- same, and so is every entry in use, but for the answers that change nothing.
--
-- In order: the check (`check_old_contents`), a match (`match_old_contents`), the host call (`host_old_contents`), the writer
-- (`write_old_contents`), the reader of sizes (`sizes_old_contents`). Assumes nothing.
use mathlib.Core.Path.{◌≡◌, refl, sym, ap, ◌∙◌}
use mathlib.Core.Bool.{false}
use mathlib.Core.List.{List, ◌++◌}
use Prim.Native.Nat.{ℕ, ◌+◌, ◌*◌}
use native.Mathlib.Decide.{ℕ_discrete}
use native.Mathlib.Omega.{arith}
use lib.ListN.{length, take, drop}
use lib.Seq.{take_at}
use Rattle.answering.specs.Buffers.{changes_nothing, left}
use Rattle.checker.specs.Check.{Checked, CheckOf, number_of as check_number}
use Rattle.checker.proofs.OneCheck.{check_answer_only}
use Rattle.matcher.specs.Match.{Matched, MatchOf, number_of}
use Rattle.matcher.proofs.OneMatch.{match_answer_only, same_tables}
use Rattle.std.specs.Prelude.{Ok, Err}
use Rattle.jobfile.specs.declared.answers.WriteFault.TheVariants.{Contents, Body, File, Room as NoRoom}
use Rattle.jobfile.specs.File.{count_in, sizes_in, file_of}
use Rattle.jobfile.specs.Writer.{WriteAnswer, WriteOf, room_written, number_of as write_number}
use Rattle.jobfile.proofs.FileLaws.{length-sizes_from}
use Rattle.jobfile.proofs.WriteAnswers.{write_answer_only}
use Rattle.jobfile.specs.Jobs.{words_of}
use Rattle.host.specs.Host.{report_of, writes_nothing, HostOf}
use Rattle.host.specs.Sizes.{SizesOf}
use Rattle.station.proofs.Theorems.{host_answer_only, host_report_only, same_answer, sizes_answer_only}
use Rattle.demands.proofs.Buffers.{left_front}
use Rattle.demands.proofs.Room.{length_report, room_reported, classes-length}

-- ---- the check and a match

-- n entries that two late answers leave
same_front : (n : ℕ) (row other : List ℕ) {a b : ℕ} {after₁ after₂ : List ℕ} → changes_nothing a ≡ false → a ≡ b → after₁ ≡ left a n row → after₂ ≡ left b n other → take n after₁ ≡ take n after₂
same_front n row other {a} {b} late e p q =
    ap (take n) p ∙ left_front a n row late ∙ sym (ap (take n) q ∙ left_front b n other (sym (ap changes_nothing e) ∙ late))

module _ {t class work class' work' : List ℕ} {r s : Checked} {class₁ work₁ class₂ work₂ : List ℕ} (class_long : length class ≡ length class') (work_long : length work ≡ length work') (a : CheckOf t class work r class₁ work₁) (b : CheckOf t class' work' s class₂ work₂) where
  pub check_old_contents : (r ≡ s)
      × (changes_nothing (check_number r) ≡ false → (take (length t) class₁ ≡ take (length t) class₂) × (take (4 * length t) work₁ ≡ take (4 * length t) work₂))
  check_old_contents =
      let e : r ≡ s = check_answer_only class_long work_long a b in (
        e,
        λ late. (
          same_front (length t) class class' late (ap check_number e) a.class_left b.class_left,
          same_front (4 * length t) work work' late (ap check_number e) a.work_left b.work_left,
        ),
      )

module _ {t list class work class' work' : List ℕ} {r s : Matched} {class₁ work₁ class₂ work₂ : List ℕ} (class_long : length class ≡ length class') (work_long : length work ≡ length work') (a : MatchOf t list class work r class₁ work₁) (b : MatchOf t list class' work' s class₂ work₂) where
  same_answers : r ≡ s
  same_answers = match_answer_only class_long work_long a b

  same_classes : changes_nothing (number_of r) ≡ false → Dec (number_of r ≡ 0) → take (length t) class₁ ≡ take (length t) class₂
  same_classes late (yes z) =
      let y : number_of s ≡ 0 = sym (ap number_of same_answers) ∙ z in
      ap (take (length t)) (a.bound z).row
      ∙ take_at (a.bound z).table (drop (length t) class) (length t) (a.bound z).class_table.long
      ∙ same_tables class_long work_long a b z y
      ∙ sym (ap (take (length t)) (b.bound y).row ∙ take_at (b.bound y).table (drop (length t) class') (length t) (b.bound y).class_table.long)
  same_classes late (no z) = same_front (length t) class class' late (ap number_of same_answers) (a.refused z) (b.refused (λ e. z (ap number_of same_answers ∙ e)))

  pub match_old_contents : (r ≡ s)
      × (changes_nothing (number_of r) ≡ false → (take (length t) class₁ ≡ take (length t) class₂) × (take (4 * length t) work₁ ≡ take (4 * length t) work₂))
  match_old_contents = (
    same_answers,
    λ late. (same_classes late (ℕ_discrete (number_of r) 0), same_front (4 * length t) work work' late (ap number_of same_answers) a.work_left b.work_left),
  )

-- ---- the host call

-- the bytes in use are the report
in_use : {bytes room : List ℕ} {job r : ℕ} {after : List ℕ} (h : HostOf bytes job room r after) → writes_nothing r ≡ false
    → take (6 + 2 * words_of bytes job) after ≡ report_of r h.place h.joined h.classes
in_use {bytes} {room} {job} {r} h late =
    ap (take (6 + 2 * words_of bytes job)) (room_reported h late)
    ∙ take_at (report_of r h.place h.joined h.classes) (drop (6 + 2 * length h.classes) room) (6 + 2 * words_of bytes job)
    (length_report r h.place h.joined h.classes ∙ ap (λ (n : ℕ). 6 + 2 * n) (classes-length h (ℕ_discrete r 0)))

pub host_old_contents : {bytes room other : List ℕ} {job r s : ℕ} {room₁ room₂ : List ℕ} → length room ≡ length other → HostOf bytes job room r room₁ → HostOf bytes job other s room₂
    → (r ≡ s) × (writes_nothing r ≡ false → take (6 + 2 * words_of bytes job) room₁ ≡ take (6 + 2 * words_of bytes job) room₂)
host_old_contents long a b =
    let e = host_answer_only long a b in (
      e,
      λ late. in_use a late ∙ host_report_only long a b ∙ sym (in_use b (sym (ap writes_nothing e) ∙ late)),
    )

-- ---- the writer and the reader of sizes

written_front : (r : WriteAnswer) (file room : List ℕ) → write_number r ≡ 0 → take (length file) (room_written r file room) ≡ file
unfolding room_written
written_front (Ok done) file room z = take_at file (drop (length file) room) (length file) refl
written_front (Err Contents) file room z = absurd (omega (arith, z))
written_front (Err Body) file room z = absurd (omega (arith, z))
written_front (Err File) file room z = absurd (omega (arith, z))
written_front (Err NoRoom) file room z = absurd (omega (arith, z))

pub write_old_contents : {sizes bodies room other : List ℕ} {r s : WriteAnswer} {room₁ room₂ : List ℕ} → length room ≡ length other → WriteOf sizes bodies room r room₁
    → WriteOf sizes bodies other s room₂
    → (r ≡ s) × (write_number r ≡ 0 → take (length (file_of sizes bodies)) room₁ ≡ take (length (file_of sizes bodies)) room₂)
write_old_contents {sizes} {bodies} {room} {other} {r} {s} long a b =
    let e : r ≡ s = write_answer_only long a b in
    let file : List ℕ = file_of sizes bodies in (
      e,
      λ z. ap (take (length file)) a.room_left
          ∙ written_front r file room z
          ∙ sym (ap (take (length file)) b.room_left ∙ written_front s file other (sym (ap write_number e) ∙ z)),
    )

pub sizes_old_contents : {bytes sizes other : List ℕ} {r s : ℕ} {sizes₁ sizes₂ : List ℕ} → length sizes ≡ length other → (a : SizesOf bytes sizes r sizes₁) → SizesOf bytes other s sizes₂
    → (r ≡ s) × (a.answer ≡ 0 → take (2 * count_in bytes) sizes₁ ≡ take (2 * count_in bytes) sizes₂)
sizes_old_contents {bytes} {sizes} {other} long a b = (
  sizes_answer_only long a b,
  λ z. ap (take (2 * count_in bytes)) (a.given z).1
      ∙ given_front sizes
      ∙ sym (ap (take (2 * count_in bytes)) (b.given (sym (same_answer long a b).0 ∙ z)).1 ∙ given_front other),
)
  where
    given_front : (row : List ℕ) → take (2 * count_in bytes) (sizes_in bytes ++ drop (2 * count_in bytes) row) ≡ sizes_in bytes
    given_front row = take_at (sizes_in bytes) (drop (2 * count_in bytes) row) (2 * count_in bytes) (length-sizes_from (count_in bytes) 0 bytes)
