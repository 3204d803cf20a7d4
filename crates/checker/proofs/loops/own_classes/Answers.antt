-- `checker::loops::own_classes` meets its contract.
-- Assumes nothing.
use mathlib.Core.Path.{◌≡◌}
use native.Mathlib.Omega.{arith}
use lib.ListN.{get_or}
use Rattle.rows.proofs.Laws.{built_none, built_more}
use Rattle.checker.specs.Steps.Stage.{counting}
use Rattle.checker.proofs.LoopLaws.{counting-length, counting_at}
use Rattle.checker.proofs.loops.own_classes.Goals as goal

pub loop-x-init : goal.loop-x-init
loop-x-init c = built_none (counting-length 0 c.args.n) c.requires.0

pub loop-x-preserved : goal.loop-x-preserved
loop-x-preserved c = built_more _ c.loop-x.invariant c.loop-x-test.true (let e : c.loop-x.x ≡ get_or (counting 0 c.args.n) c.loop-x.x 0 = omega (arith, counting_at 0 c.args.n c.loop-x.x c.loop-x-test.true) in e)
