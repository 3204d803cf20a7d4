-- `classes::own::count_joins` meets its contract. The loop's invariant is `CountedBelow`: what is counted so far and the classes so
-- far are the nodes so far. Assumes nothing.
use mathlib.Core.Path.{ap}
use mathlib.Core.Bool.{not}
use borrow.Author.Tests.{eq-eqb, ne_eqb}
use native.Mathlib.Omega.{arith}
use lib.Dec.{eqb}
use Rattle.graphs.specs.Partition.{entry}
use Rattle.classes.proofs.CountedJoins.{entry_node, entry_none, other_name, own_name, no_name, counted_none, counted_more, counted_all}
use Rattle.classes.proofs.own.count_joins.Goals as goal
use Rattle.classes.proofs.own.count_joins.Goals.{then-class-x-ne0+then-class-x, else-class-x-ne0, else-class-x-ne0-via-then-class-x-ne0+else-class-x, else-class-x-ne0-via-else-class-x-ne0}

pub loop-x-init : goal.loop-x-init
loop-x-init c = counted_none c.args.table.now c.args.class.now

pub loop-x-preserved : goal.loop-x-preserved
loop-x-preserved c =
    elim c.if-class-x-ne0.branch [
      | then-class-x-ne0+then-class-x w ↦ counted_more c.loop-x.invariant c.loop-x-test.true (omega (arith, w.joined-is, other_name (entry_node c.requires.2 c.loop-x.x c.loop-x-test.true w.if-class-x-ne0.true) (ap not (ne_eqb _ _ w.if-class-x.true))))
      | else-class-x-ne0 w ↦ counted_more c.loop-x.invariant c.loop-x-test.true
          (elim w.else-class-x-ne0.branch [
            | else-class-x-ne0-via-then-class-x-ne0+else-class-x v ↦ omega (arith, w.joined-is, own_name (entry_node c.requires.2 c.loop-x.x c.loop-x-test.true v.if-class-x-ne0.true) (ap not (eq-eqb _ _ v.if-class-x.false)))
            | else-class-x-ne0-via-else-class-x-ne0 v ↦ omega (arith, w.joined-is, no_name (not (eqb (entry c.args.class.now c.loop-x.x) c.loop-x.x)) (entry_none c.requires.2 c.loop-x.x v.if-class-x-ne0.false))
          ])
    ]

pub returns : goal.returns
returns c = counted_all c.loop-x.invariant c.loop-x-test.false
