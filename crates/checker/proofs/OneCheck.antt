-- Two results that the check's contract allows are equal: `check_only`, and its answer for rows of other old contents too:
-- `check_answer_only`. Assumes nothing.
use mathlib.Core.Path.{◌≡◌, refl, sym, ap, ap₂, ◌∙◌, subst}
use mathlib.Core.Bool.{Bool, cond}
use mathlib.Core.List.{List, []}
use Prim.Native.Nat.{ℕ, ◌*◌}
use native.Mathlib.Omega.{arith}
use borrow.Author.Tests.{ne_eqb}
use lib.Dec.{eqb}
use lib.ListN.{length}
use Rattle.answering.specs.Answers.{Answered}
use Rattle.answering.specs.TableFaults.{number_of as fault_number, place_of as fault_place}
use Rattle.answering.specs.Buffers.{left}
use Rattle.answering.proofs.Orders.{answered_only}
use Rattle.answering.proofs.FaultLaws.{fault_with, known}
use Rattle.table.specs.Faults.{Job, sent, Fault, number, check_order}
use Rattle.table.proofs.OneAnswer.{fault_once}
use Rattle.std.specs.Prelude.{Ok, Err}
use Rattle.checker.specs.Check.{Checked, number_of, place_of, checked_job, CheckOf}

-- the answer that has a number and a place
answer_with : ℕ → ℕ → Checked
answer_with n p = cond (eqb n 0) (Ok tt) (Err (fault_with n p))

answer_by_numbers : (r : Checked) → answer_with (number_of r) (place_of r) ≡ r
unfolding answer_with
answer_by_numbers (Ok done) = refl
answer_by_numbers (Err fault) =
    ap (λ (b : Bool). cond b (Ok tt) (Err (fault_with (fault_number fault) (fault_place fault)))) (ne_eqb (fault_number fault) 0 (λ z. omega (arith, z, (known fault).1)))
    ∙ ap Err (known fault).0

-- Answers of one number and one place are equal.
pub numbers_fix_answer : (r s : Checked) → number_of r ≡ number_of s → place_of r ≡ place_of s → r ≡ s
numbers_fix_answer r s n p = sym (answer_by_numbers r) ∙ ap₂ answer_with n p ∙ answer_by_numbers s

-- What the lent rows held before does not count: rows of the same lengths have the same answer.
pub check_answer_only : {t class₁ work₁ class₂ work₂ : List ℕ} {r s : Checked} {after₁ rest₁ after₂ rest₂ : List ℕ} → length class₁ ≡ length class₂ → length work₁ ≡ length work₂
    → CheckOf t class₁ work₁ r after₁ rest₁ → CheckOf t class₂ work₂ s after₂ rest₂ → r ≡ s
check_answer_only {t} {class₁} {work₁} {class₂} {work₂} {r} {s} class_long work_long a b =
    let there : Answered number (Fault (checked_job t class₁ work₁)) check_order (number_of s) (place_of s) =
    subst (λ (job : Job). Answered number (Fault job) check_order (number_of s) (place_of s)) (sym (ap₂ (sent t []) class_long work_long)) b.answered in
    let same : (number_of r ≡ number_of s) × (place_of r ≡ place_of s) =
    answered_only number (Fault (checked_job t class₁ work₁)) (fault_once (checked_job t class₁ work₁)) check_order (number_of r) (place_of r) (number_of s) (place_of s) a.answered there in
    numbers_fix_answer r s same.0 same.1

pub check_only : {t class work : List ℕ} {r s : Checked} {class₁ work₁ class₂ work₂ : List ℕ} → CheckOf t class work r class₁ work₁ → CheckOf t class work s class₂ work₂
    → (r ≡ s) × (class₁ ≡ class₂) × (work₁ ≡ work₂)
check_only {t} {class} {work} {r} {s} a b =
    let e : r ≡ s = check_answer_only refl refl a b in (
      e,
      a.class_left ∙ ap (λ (q : Checked). left (number_of q) (length t) class) e ∙ sym b.class_left,
      a.work_left ∙ ap (λ (q : Checked). left (number_of q) (4 * length t) work) e ∙ sym b.work_left,
    )
