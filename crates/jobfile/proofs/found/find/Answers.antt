-- `jobfile::found::find` meets its contract: the contents of a good file have an entry for each of its jobs. Assumes nothing.
use mathlib.Core.Logic.{inl, inr}
use native.Mathlib.Omega.{arith}
use Rattle.jobfile.proofs.ReaderLaws.{judged_good}
use Rattle.jobfile.proofs.found.find.Goals.{then-number-eq0-via-then-number-eq0, then-number-eq0-via-else-number-eq0+then-jobs-number}
use Rattle.jobfile.proofs.found.find.Goals as goal

pub number-jobs-requires : goal.number-jobs-requires
number-jobs-requires c = (judged_good c.in_ok-judge.ensures).at_least

pub returns-then-number-eq0 : goal.returns-then-number-eq0
returns-then-number-eq0 c = (
  judged_good c.in_ok-judge.ensures,
  elim c.then-number-eq0.branch [ then-number-eq0-via-then-number-eq0 w ↦ inl w.if-number-eq0.true | then-number-eq0-via-else-number-eq0+then-jobs-number w ↦ inr (omega (arith, w.if-jobs-number.true, c.number-jobs.ensures.0)) ],
)

pub number-words-requires : goal.number-words-requires
number-words-requires c = omega (arith, (judged_good c.in_ok-judge.ensures).contents_inside, c.number-jobs.ensures.0)

pub number-pairs-requires : goal.number-pairs-requires
number-pairs-requires c = omega (arith, (judged_good c.in_ok-judge.ensures).contents_inside, c.number-jobs.ensures.0)

pub invariant_of-result : goal.invariant_of-result
invariant_of-result c = record {
  is_there = record {
    there = record { good = judged_good c.in_ok-judge.ensures; some_job = omega arith; inside = omega (arith, c.number-jobs.ensures.0) };
    words = c.number-words.ensures.0;
    pairs = c.number-pairs.ensures.0;
    few_pairs = c.number-pairs.ensures.1;
  };
}
