-- `checker::loops::loops_alone` meets its contract, by what the search finds where each node is its own class. Assumes nothing.
use native.Mathlib.Omega.{arith}
use lib.ListN.{drop, length}
use Rattle.checker.proofs.LoopLaws.{own_searchable, loop_search}
use Rattle.checker.proofs.CheckLaws.{loop_stage, pass_stage}
use Rattle.checker.proofs.loops.loops_alone.Goals as goal

pub reaches_itself-requires : goal.reaches_itself-requires
reaches_itself-requires c = (own_searchable c.args.table.now c.own_classes.new.class (drop (length c.args.table.now) c.args.class.now) c.own_classes.ensures c.requires.1, omega (arith, c.requires.0.work_enough))

pub returns-then-reaches_itself : goal.returns-then-reaches_itself
returns-then-reaches_itself c = loop_stage (loop_search c.requires.1 c.own_classes.ensures c.reaches_itself.ensures) c.if-reaches_itself.true

pub returns : goal.returns
returns c = pass_stage (loop_search c.requires.1 c.own_classes.ensures c.reaches_itself.ensures) c.if-reaches_itself.false
