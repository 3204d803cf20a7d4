-- `host::sizes::copy_sizes` meets its contract.
-- Assumes nothing.
use native.Mathlib.Omega.{arith}
use Rattle.jobfile.proofs.ReaderLaws.{judged_good}
use Rattle.host.proofs.SizesLaws.{copy_short, copied_all}
use Rattle.host.proofs.sizes.copy_sizes.Goals as goal

pub read-jobs-requires : goal.read-jobs-requires
read-jobs-requires c = (judged_good c.in_ok-judge.ensures).at_least

pub returns-then-sizes-count : goal.returns-then-sizes-count
returns-then-sizes-count c = copy_short c.args.sizes.now (judged_good c.in_ok-judge.ensures) c.read-jobs.ensures c.if-sizes-count.true

pub put_sizes-requires : goal.put_sizes-requires
put_sizes-requires c = ((judged_good c.in_ok-judge.ensures).contents_inside, omega arith, omega arith)

pub returns : goal.returns
returns c = copied_all c.args.sizes.now (judged_good c.in_ok-judge.ensures) c.read-jobs.ensures c.if-sizes-count.false c.put_sizes.ensures
