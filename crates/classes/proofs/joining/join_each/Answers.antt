-- `classes::joining::join_each` meets its contract. The loop's invariant: the pairs before place i are joined.
-- Assumes nothing.
use mathlib.Core.Path.{refl}
use native.Mathlib.Omega.{arith}
use Rattle.table.proofs.Pairs.{length-pairs_of, length-pairs_of_over}
use Rattle.classes.specs.Steps.Lists.{one_clashes}
use Rattle.classes.proofs.OneByOne.{joins_on, clashes_here, all_met, side_nodes}
use Rattle.classes.proofs.joining.join_each.Goals as goal

pub join_pair-requires : goal.join_pair-requires
join_pair-requires c = let n : _ = side_nodes c.args.table.now c.args.list.now c.requires.2 c.loop-i.i (omega (arith, length-pairs_of_over c.args.list.now)) in
    (c.requires.0, c.loop-i.invariant.state, n.0, n.1)

pub returns-then-is_err : goal.returns-then-is_err
returns-then-is_err c = one_clashes refl (clashes_here c.loop-i.invariant (omega (arith, length-pairs_of_over c.args.list.now)) refl refl c.join_pair.ensures c.requires.0 c.requires.2 (cc))

pub loop-i-preserved : goal.loop-i-preserved
loop-i-preserved c = joins_on c.loop-i.invariant (omega (arith, length-pairs_of_over c.args.list.now)) refl refl c.join_pair.ensures (cc)

pub returns : goal.returns
returns c = all_met c.loop-i.invariant (omega (arith, c.loop-i.invariant.inside, length-pairs_of c.args.list.now))
