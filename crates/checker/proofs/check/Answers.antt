-- `checker::check` meets its contract.
-- Assumes nothing.
use mathlib.Core.Logic.{inl, inr}
use native.Mathlib.Omega.{arith}
use Rattle.rows.proofs.Laws.{filled_front}
use Rattle.checker.proofs.CheckLaws.{check_size, check_room, check_faults}
use Rattle.checker.proofs.check.Goals as goal

pub returns-then-n-eq0 : goal.returns-then-n-eq0
returns-then-n-eq0 c = check_size _ _ _ (inl c.if-n-eq0.true)

pub returns-then-n-gt-MOST_WORDS : goal.returns-then-n-gt-MOST_WORDS
returns-then-n-gt-MOST_WORDS c = check_size _ _ _ (inr c.if-n-gt-MOST_WORDS.true)

pub returns-then-class-n : goal.returns-then-class-n
returns-then-class-n c = check_room _ _ _ (omega arith) (omega arith) (inl c.if-class-n.true)

pub returns-then-work-n : goal.returns-then-work-n
returns-then-work-n c = check_room _ _ _ (omega arith) (omega arith) (inr c.if-work-n.true)

pub returns : goal.returns
returns c = check_faults _ _ _ (record { some_word = omega arith; small = omega arith; class_enough = omega arith; work_enough = omega arith }) c.faults-answer.ensures
    (filled_front _ _ _ (omega arith) (c.fill.ensures.after (λ y e. e)))
    (filled_front _ _ _ (omega arith) (c.fill-2.ensures.after (λ y e. e)))
