-- `matcher::first_failure::first_cycle` meets its contract. The loop's invariant: the first `none` pairs have no cycle, and the first
-- `some` have one. The distance between the two falls. Assumes nothing.
use native.Mathlib.Omega.{arith}
use Rattle.table.proofs.Pairs.{length-pairs_of}
use Rattle.matcher.proofs.FirstPairs.{standing_after}
use Rattle.matcher.proofs.Halving.{fewer_clashless, halved_start}
use Rattle.matcher.proofs.first_failure.first_cycle.Goals as goal

pub loop-none-init : goal.loop-none-init
loop-none-init c = halved_start _ c.requires.0 c.requires.2

pub overflow_add-middle : goal.overflow_add-middle
overflow_add-middle c = omega (arith, c.loop-none.invariant.within, c.loop-none.invariant.apart, c.requires.1.inside, length-pairs_of c.args.list.now, c.requires.0.ready.few)

pub has_cycle-requires : goal.has_cycle-requires
has_cycle-requires c = (standing_after c.requires.0 c.loop-none.invariant.lent, fewer_clashless _ c.requires.1 (omega (arith, c.loop-none.invariant.within, c.loop-none.invariant.apart)))

pub overflow_cast-result : goal.overflow_cast-result
overflow_cast-result c = omega (arith, c.loop-none.invariant.within, c.requires.1.inside, length-pairs_of c.args.list.now, c.requires.0.ready.few)
