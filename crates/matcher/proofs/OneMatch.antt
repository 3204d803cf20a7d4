-- Two results that the contract of a match allows are equal: `match_only`; and its answer (`match_answer_only`) and class table
-- (`same_tables`) for rows of other old contents too. Assumes nothing.
use mathlib.Core.Path.{◌≡◌, refl, sym, ap, ap₂, ◌∙◌, subst}
use mathlib.Core.Bool.{cond}
use mathlib.Core.List.{List, ◌++◌}
use Prim.Native.Nat.{ℕ, ◌*◌}
use native.Mathlib.Decide.{ℕ_discrete}
use native.Mathlib.Omega.{arith}
use borrow.Author.Tests.{ne_eqb, le-leb}
use lib.Dec.{eqb, leb}
use lib.ListN.{length, drop}
use Rattle.std.specs.Prelude.{Ok, Err}
use Rattle.answering.specs.declared.fault.TableFault.{TableFault}
use Rattle.answering.specs.Answers.{Answered}
use Rattle.answering.specs.TableFaults.{number_of as fault_number}
use Rattle.answering.specs.Buffers.{left}
use Rattle.answering.proofs.Orders.{answered_only}
use Rattle.answering.proofs.FaultLaws.{fault_with, known}
use Rattle.graphs.specs.Partition.{joins}
use Rattle.graphs.proofs.Theorems.{class_table_only}
use Rattle.table.specs.Table.{graph_of}
use Rattle.table.specs.Faults.{Job, sent, Fault, number, match_order}
use Rattle.table.proofs.OneAnswer.{fault_once}
use Rattle.matcher.specs.declared.answer.Refusal.{Refusal}
use Rattle.matcher.specs.Match.{Matched, refusal_number, number_of, place_of, joins_of, job_of, MatchOf}

-- the answer that has a number, a place and joins
answer_with : ℕ → ℕ → ℕ → Matched
answer_with n p j =
    cond (eqb n 0) (Ok (record { joins = j }))
    (cond (leb n 7) (Err (Refusal.Table (fault_with n p)))
    (cond (eqb n 8) (Err Refusal.List)
    (cond (eqb n 9) (Err (Refusal.Side (record { 0 = p })))
    (cond (eqb n 10) (Err (Refusal.Clash (record { 0 = p })))
    (Err (Refusal.Cycle (record { 0 = p })))))))

answer_by_numbers : (r : Matched) → answer_with (number_of r) (place_of r) (joins_of r) ≡ r
unfolding answer_with
answer_by_numbers (Ok counts) = refl
answer_by_numbers (Err (Refusal.Table fault)) =
    rw (ne_eqb (fault_number fault) 0 (λ z. omega (arith, z, (known fault).1)), le-leb (fault_number fault) 7 (known fault).2)
    (ap (λ (f : TableFault). Err (Refusal.Table f)) (known fault).0)
answer_by_numbers (Err Refusal.List) = refl
answer_by_numbers (Err (Refusal.Side k)) = refl
answer_by_numbers (Err (Refusal.Clash k)) = refl
answer_by_numbers (Err (Refusal.Cycle k)) = refl

-- Answers of one number, one place and one count of joins are equal.
pub numbers_fix_answer : (r s : Matched) → number_of r ≡ number_of s → place_of r ≡ place_of s → joins_of r ≡ joins_of s → r ≡ s
numbers_fix_answer r s n p j =
    sym (answer_by_numbers r)
    ∙ ap (λ (k : ℕ). answer_with k (place_of r) (joins_of r)) n
    ∙ ap₂ (answer_with (number_of s)) p j
    ∙ answer_by_numbers s

-- What refuses a list has a number.
pub refusal_refuses : (refusal : Refusal) → refusal_number refusal ≡ 0 → ⊥
refusal_refuses (Refusal.Table fault) z = omega (arith, z, (known fault).1)
refusal_refuses Refusal.List z = omega (arith, z)
refusal_refuses (Refusal.Side k) z = omega (arith, z)
refusal_refuses (Refusal.Clash k) z = omega (arith, z)
refusal_refuses (Refusal.Cycle k) z = omega (arith, z)

-- "Joins is 0 on refusal."
pub refused_joins : (r : Matched) → (number_of r ≡ 0 → ⊥) → joins_of r ≡ 0
refused_joins (Ok counts) z = absurd (z refl)
refused_joins (Err refusal) z = refl

-- Two matches of one table and list on rows of the same lengths. What the rows held before does not count.
module _ {t list class work class' work' : List ℕ} {r s : Matched} {class₁ work₁ class₂ work₂ : List ℕ} (class_long : length class ≡ length class') (work_long : length work ≡ length work') (a : MatchOf t list class work r class₁ work₁) (b : MatchOf t list class' work' s class₂ work₂) where
  same_numbers : (number_of r ≡ number_of s) × (place_of r ≡ place_of s)
  same_numbers =
      answered_only number (Fault (job_of t list class work)) (fault_once (job_of t list class work)) match_order (number_of r) (place_of r) (number_of s) (place_of s) a.answered
      (subst (λ (job : Job). Answered number (Fault job) match_order (number_of s) (place_of s)) (sym (ap₂ (sent t list) class_long work_long)) b.answered)

  -- an accepted list has one class table
  pub same_tables : (z : number_of r ≡ 0) (y : number_of s ≡ 0) → (a.bound z).table ≡ (b.bound y).table
  same_tables z y = class_table_only (a.bound z).class_table (b.bound y).class_table

  same_joins : Dec (number_of r ≡ 0) → joins_of r ≡ joins_of s
  same_joins (yes z) =
      let y : number_of s ≡ 0 = sym same_numbers.0 ∙ z in
      (a.bound z).joins_counted ∙ ap (joins (graph_of t)) (same_tables z y) ∙ sym (b.bound y).joins_counted
  same_joins (no z) = refused_joins r z ∙ sym (refused_joins s (λ e. z (same_numbers.0 ∙ e)))

  pub match_answer_only : r ≡ s
  match_answer_only = numbers_fix_answer r s same_numbers.0 same_numbers.1 (same_joins (ℕ_discrete (number_of r) 0))

module _ {t list class work : List ℕ} {r s : Matched} {class₁ work₁ class₂ work₂ : List ℕ} (a : MatchOf t list class work r class₁ work₁) (b : MatchOf t list class work s class₂ work₂) where
  same_answer : r ≡ s
  same_answer = match_answer_only refl refl a b

  same_classes : Dec (number_of r ≡ 0) → class₁ ≡ class₂
  same_classes (yes z) =
      let y : number_of s ≡ 0 = sym (ap number_of same_answer) ∙ z in
      (a.bound z).row ∙ ap (λ (front : List ℕ). front ++ drop (length t) class) (same_tables refl refl a b z y) ∙ sym (b.bound y).row
  same_classes (no z) = a.refused z ∙ ap (λ (q : Matched). left (number_of q) (length t) class) same_answer ∙ sym (b.refused (λ e. z (ap number_of same_answer ∙ e)))

  pub match_only : (r ≡ s) × (class₁ ≡ class₂) × (work₁ ≡ work₂)
  match_only = (
    same_answer,
    same_classes (ℕ_discrete (number_of r) 0),
    a.work_left ∙ ap (λ (q : Matched). left (number_of q) (4 * length t) work) same_answer ∙ sym b.work_left,
  )
