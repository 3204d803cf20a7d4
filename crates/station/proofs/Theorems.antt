-- Two results that an entry's contract allows are equal: `host_only`, `lent_only`, `check_entry_only`, `written_only`,
-- `sizes_only`. Before the first and the last of them stands the same of calls with other old contents
-- (`host_answer_only`, `host_report_only`, `sizes_answer_only`). Assumes nothing.
use mathlib.Core.Path.{◌≡◌, refl, sym, ap, ap₂, ◌∙◌}
use mathlib.Core.List.{List, [], ◌∷◌, ◌++◌}
use Prim.Native.Nat.{ℕ}
use native.Mathlib.Decide.{ℕ_discrete}
use native.Mathlib.Omega.{arith}
use lib.ListN.{length}
use Rattle.answering.proofs.Orders.{answered_alike, answered_only}
use Rattle.graphs.specs.Partition.{joins}
use Rattle.graphs.proofs.Theorems.{class_table_only}
use Rattle.table.specs.Table.{graph_of}
use Rattle.checker.specs.Check.{Checked, number_of as check_number, place_of as check_place, joins_of as check_joins}
use Rattle.checker.proofs.OneCheck.{check_only}
use Rattle.matcher.specs.Match.{Matched, number_of, place_of, joins_of}
use Rattle.matcher.proofs.OneMatch.{match_only}
use Rattle.jobfile.specs.Faults.{FileRow, ROOM, FILE, CONTENTS, BODY, file_number, read_order}
use Rattle.jobfile.specs.Writer.{number_of as write_number}
use Rattle.jobfile.proofs.WriteAnswers.{write_only}
use Rattle.host.specs.AsOne.{as_one}
use Rattle.jobfile.specs.Jobs.{table_of}
use Rattle.host.specs.Host.{HostRow, host_number, HostFault, file_fault, job_fault, size_fault, room_fault, match_fault, host_order, report_of, room_after, HostOf}
use Rattle.host.specs.Sizes.{SizesFault, SizesOf}
use Rattle.host.proofs.ChoiceLaws.{host_once}
use Rattle.host.proofs.SizesLaws.{sizes_once}
use Rattle.station.specs.Entries.{LentOf, CheckedOf, WrittenOf}

-- ---- one job of a job file

room_alike : {bytes : List ℕ} {job : ℕ} {room other : List ℕ} → length room ≡ length other → (row : HostRow) (p : ℕ) → HostFault bytes job room row p → HostFault bytes job other row p
room_alike e row p (file_fault x) = file_fault x
room_alike e row p (job_fault x) = job_fault x
room_alike e row p (size_fault x) = size_fault x
room_alike e row p (room_fault x) = room_fault (omega (arith, e, x))
room_alike e row p (match_fault x) = match_fault x

-- Two calls with one file and number, and rooms of one length. What the rooms held before does not count.
module _ {bytes : List ℕ} {job : ℕ} {room other : List ℕ} {r s : ℕ} {room₁ room₂ : List ℕ} (long : length room ≡ length other) (a : HostOf bytes job room r room₁) (b : HostOf bytes job other s room₂) where
  same_numbers : (r ≡ s) × (a.place ≡ b.place)
  same_numbers =
      answered_only host_number (HostFault bytes job room) (host_once bytes job room) host_order r a.place s b.place a.answered
      (answered_alike host_number (room_alike (sym long)) (room_alike long) host_order s b.place b.answered)

  joins_and_classes : Dec (r ≡ 0) → (a.joined ≡ b.joined) × (a.classes ≡ b.classes)
  joins_and_classes (yes z) =
      let x = a.bound z in
      let y = b.bound (sym same_numbers.0 ∙ z) in
      let e : a.classes ≡ b.classes = class_table_only x.class_table y.class_table in
      (x.joins_counted ∙ ap (joins (graph_of (table_of bytes job))) e ∙ sym y.joins_counted, e)
  joins_and_classes (no z) =
      let x = a.refused z in
      let y = b.refused (λ e. z (same_numbers.0 ∙ e)) in
      (x.0 ∙ sym y.0, x.1 ∙ sym y.1)

  pub host_answer_only : r ≡ s
  host_answer_only = same_numbers.0

  pub host_report_only : report_of r a.place a.joined a.classes ≡ report_of s b.place b.joined b.classes
  host_report_only =
      let rest : (a.joined ≡ b.joined) × (a.classes ≡ b.classes) = joins_and_classes (ℕ_discrete r 0) in
      ap₂ (λ (q p : ℕ). report_of q p a.joined a.classes) same_numbers.0 same_numbers.1
      ∙ ap₂ (λ (j : ℕ) (l : List ℕ). report_of s b.place j l) rest.0 rest.1

pub host_only : {bytes : List ℕ} {job : ℕ} {room : List ℕ} {r s : ℕ} {room₁ room₂ : List ℕ} → HostOf bytes job room r room₁ → HostOf bytes job room s room₂ → (r ≡ s) × (room₁ ≡ room₂)
host_only {room = room} a b = (
  host_answer_only refl a b,
  a.room_left ∙ ap₂ (λ (q : ℕ) (report : List ℕ). room_after q report room) (host_answer_only refl a b) (host_report_only refl a b) ∙ sym b.room_left,
)

-- ---- lent buffers

pub lent_only : {t list class work : List ℕ} {r s : ℕ} {class₁ work₁ class₂ work₂ : List ℕ} → LentOf t list class work r class₁ work₁ → LentOf t list class work s class₂ work₂
    → (r ≡ s) × (class₁ ≡ class₂) × (work₁ ≡ work₂)
lent_only a b =
    let same = match_only a.matched b.matched in
    (a.is ∙ ap (λ (q : Matched). as_one (number_of q) (place_of q) (joins_of q)) same.0 ∙ sym b.is, same.1, same.2)

pub check_entry_only : {t class work : List ℕ} {r s : ℕ} {class₁ work₁ class₂ work₂ : List ℕ} → CheckedOf t class work r class₁ work₁ → CheckedOf t class work s class₂ work₂
    → (r ≡ s) × (class₁ ≡ class₂) × (work₁ ≡ work₂)
check_entry_only a b =
    let same = check_only a.checked b.checked in
    (a.is ∙ ap (λ (q : Checked). as_one (check_number q) (check_place q) (check_joins q)) same.0 ∙ sym b.is, same.1, same.2)

pub written_only : {sizes bodies room room₁ room₂ : List ℕ} {r s : ℕ} → WrittenOf sizes bodies room r room₁ → WrittenOf sizes bodies room s room₂ → (r ≡ s) × (room₁ ≡ room₂)
written_only a b = let same = write_only a.written b.written in (a.is ∙ ap write_number same.0 ∙ sym b.is, same.1)

-- ---- the sizes of a job file

sizes_alike : (bytes sizes other : List ℕ) → length sizes ≡ length other → (row : FileRow) (p : ℕ) → SizesFault bytes sizes row p → SizesFault bytes other row p
sizes_alike bytes sizes other e FILE p x = x
sizes_alike bytes sizes other e CONTENTS p x = x
sizes_alike bytes sizes other e BODY p x = x
sizes_alike bytes sizes other e ROOM p (short, at_0) = (omega (arith, e, short), at_0)

-- Two calls with one file, and rows of one length. What the rows held before does not count.
module _ {bytes sizes other sizes₁ sizes₂ : List ℕ} {r s : ℕ} (long : length sizes ≡ length other) (a : SizesOf bytes sizes r sizes₁) (b : SizesOf bytes other s sizes₂) where
  pub same_answer : (a.answer ≡ b.answer) × (a.place ≡ b.place)
  same_answer =
      answered_only file_number (SizesFault bytes sizes) (sizes_once bytes sizes) (read_order ++ (ROOM ∷ [])) a.answer a.place b.answer b.place a.answered
      (answered_alike file_number (sizes_alike bytes other sizes (sym long)) (sizes_alike bytes sizes other long) (read_order ++ (ROOM ∷ [])) b.answer b.place b.answered)

  same_jobs : Dec (a.answer ≡ 0) → a.jobs ≡ b.jobs
  same_jobs (yes z) = (a.given z).0 ∙ sym (b.given (sym same_answer.0 ∙ z)).0
  same_jobs (no z) = (a.refused z).0 ∙ sym (b.refused (λ e. z (same_answer.0 ∙ e))).0

  pub sizes_answer_only : r ≡ s
  sizes_answer_only =
      a.is
      ∙ ap₂ (λ (q p : ℕ). as_one q p a.jobs) same_answer.0 same_answer.1
      ∙ ap (as_one b.answer b.place) (same_jobs (ℕ_discrete a.answer 0))
      ∙ sym b.is

module _ {bytes sizes sizes₁ sizes₂ : List ℕ} {r s : ℕ} (a : SizesOf bytes sizes r sizes₁) (b : SizesOf bytes sizes s sizes₂) where
  same_sizes : Dec (a.answer ≡ 0) → sizes₁ ≡ sizes₂
  same_sizes (yes z) = (a.given z).1 ∙ sym (b.given (sym (same_answer refl a b).0 ∙ z)).1
  same_sizes (no z) = (a.refused z).1 ∙ sym (b.refused (λ e. z ((same_answer refl a b).0 ∙ e))).1

  pub sizes_only : (r ≡ s) × (sizes₁ ≡ sizes₂)
  sizes_only = (sizes_answer_only refl a b, same_sizes (ℕ_discrete a.answer 0))
