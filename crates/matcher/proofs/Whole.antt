-- The stages of a match put together.
--
-- In order: a table that passed its check (`table_passed`, `verdict_match`); the list's own faults. Assumes nothing.
use mathlib.Core.Path.{◌≡◌, refl, sym, ap, ◌∙◌, subst}
use mathlib.Core.Bool.{true, false}
use mathlib.Core.List.{List, [], ◌∷◌, ◌++◌}
use Prim.Native.Nat.{ℕ, ◌+◌, ◌*◌}
use native.Mathlib.Omega.{arith}
use lib.ListN.{length, drop, replicate}
use Rattle.std.specs.Prelude.{Some, None, Ok, Err}
use Rattle.rows.specs.Placed.{zeroed}
use Rattle.rows.proofs.Laws.{behind_cleared, cleared_again}
use Rattle.answering.specs.Answers.{Answered, Found, NoneOf}
use Rattle.answering.specs.Buffers.{changes_nothing, left}
use Rattle.answering.proofs.BufferLaws.{left-zeroed}
use Rattle.graphs.specs.Partition.{pairs_of}
use Rattle.table.specs.Faults.{Job, pair_at, bad_sides, LIST, Fault, number, check_order, match_order}
use Rattle.checker.specs.Check.{CheckOf}
use Rattle.matcher.specs.declared.answer.Refusal.{Refusal}
use Rattle.matcher.specs.Match.{Matched, number_of, place_of, joins_of, AcceptedWith, job_of, MatchOf, Passes}
use Rattle.matcher.specs.Steps.PassedAll.{BadList}
use Rattle.matcher.specs.Steps.FirstFailure.{Standing, TablePassed, Verdict}
use Rattle.matcher.proofs.Verdicts.{check_passed, list_answered, list_clear, side_answered, passes_all, ready}

-- ---- a table that passed its check

job_same : (t list class work class₁ work₁ : List ℕ) → length class₁ ≡ length class → length work₁ ≡ length work → job_of t list class₁ work₁ ≡ job_of t list class work
job_same t list class work class₁ work₁ ec ew = λ i. record { table = t; list = list; class_room = ec i; work_room = ew i }

module _ {t class work class₁ work₁ : List ℕ} {done : Unit {0}} (list : List ℕ) (check : CheckOf t class work (Ok done) class₁ work₁) (class_long : length class₁ ≡ length class) (work_long : length work₁ ≡ length work) where
  class_zero : class₁ ≡ zeroed (length t) class
  unfolding left changes_nothing
  class_zero = check.class_left

  work_zero : work₁ ≡ zeroed (4 * length t) work
  unfolding left changes_nothing
  work_zero = check.work_left

  pub table_passed : TablePassed t list class₁ work₁
  table_passed =
      record {
        clear = subst (λ (job : Job). NoneOf (Fault job) check_order) (sym (job_same t list class work class₁ work₁ class_long work_long)) (check_passed list check);
        class_clean = subst (λ (row : List ℕ). zeroed (length t) row ≡ row) (sym class_zero) (cleared_again (drop (length t) class) (length t) (length t) (omega arith));
        work_clean = subst (λ (row : List ℕ). zeroed (2 * length t) row ≡ row) (sym work_zero) (cleared_again (drop (4 * length t) work) (2 * length t) (4 * length t) (omega arith));
      }

  -- What a verdict says of the cleared rows, a match says of the rows as they were lent.
  pub verdict_match : {answer : Matched} {class_after work_after : List ℕ} → Verdict t list class₁ work₁ answer class_after work_after → MatchOf t list class work answer class_after work_after
  verdict_match {answer} {class_after} v =
      record {
        answered = subst (λ (job : Job). Answered number (Fault job) match_order (number_of answer) (place_of answer)) (job_same t list class work class₁ work₁ class_long work_long) v.answered;
        bound = λ z.
            let b : AcceptedWith t list class₁ class_after (joins_of answer) = v.bound z in
            record { table = b.table; class_table = b.class_table; row = b.row ∙ ap (λ (rest : List ℕ). b.table ++ rest) behind; joins_counted = b.joins_counted };
        refused = λ z. v.refused z ∙ ap (λ (rest : List ℕ). replicate (length t) 0 ++ rest) behind ∙ sym (left-zeroed (number_of answer) (length t) class v.late);
        work_left = v.work_same ∙ work_zero ∙ sym (left-zeroed (number_of answer) (4 * length t) work v.late);
      }
    where
      behind : drop (length t) class₁ ≡ drop (length t) class
      behind = ap (drop (length t)) class_zero ∙ behind_cleared class (length t) (length t) (omega arith)

-- ---- the list's own faults

module _ {t list class work : List ℕ} (passed : TablePassed t list class work) where
  pub list_verdict : BadList true list → Verdict t list class work (Err Refusal.List) class work
  unfolding changes_nothing
  list_verdict bad =
      record {
        answered = list_answered passed.clear bad;
        late = refl;
        bound = λ z. absurd (omega arith);
        refused = λ z. sym passed.class_clean;
        work_same = refl;
      }

  module _ (good : BadList false list) where
    clear_of_8 : NoneOf (Fault (job_of t list class work)) (check_order ++ (LIST ∷ []))
    clear_of_8 = list_clear passed.clear good.0 good.1

    pub side_verdict : (k : ℕ) → Found (λ k. bad_sides t (pair_at (pairs_of list) k)) (length (pairs_of list)) (Some k) → Verdict t list class work (Err (Refusal.Side (record { 0 = k + 1 }))) class work
    unfolding changes_nothing
    side_verdict k found =
        record {
          answered = side_answered clear_of_8 k found;
          late = refl;
          bound = λ z. absurd (omega arith);
          refused = λ z. sym passed.class_clean;
          work_same = refl;
        }

    pub checks_passed : Found (λ k. bad_sides t (pair_at (pairs_of list) k)) (length (pairs_of list)) None → Standing t list class work × Passes (job_of t list class work)
    checks_passed none_found =
        let p : Passes (job_of t list class work) = passes_all clear_of_8 none_found in
        (record { ready = ready p; clean = passed.work_clean }, p)
