-- `classes::forest::root` meets its contract. The loop's invariant is `Climb`: where the walk is, and the row with shorter links. The
-- measure is the place of that node in the naming order. Assumes nothing.
use native.Mathlib.Omega.{arith}
use borrow.Author.Rules.{rules}
use lib.ListN.{length-set}
use Rattle.classes.proofs.Climbs.{climb_none, climb_higher, climb_more, climb_less}
use Rattle.classes.proofs.forest.root.Goals as goal

pub loop-above-init : goal.loop-above-init
loop-above-init c = climb_none c.requires.0 c.requires.1 c.up-above.ensures

pub up-above-requires-in-loop-above : goal.up-above-requires-in-loop-above
up-above-requires-in-loop-above c = simp length-set (omega (arith, climb_higher c.loop-above.invariant c.up-higher.ensures, c.loop-above.invariant.room))

pub loop-above-smaller : goal.loop-above-smaller
loop-above-smaller c = climb_less c.loop-above.invariant (search rules) c.up-higher.ensures

pub loop-above-preserved : goal.loop-above-preserved
loop-above-preserved c = climb_more c.loop-above.invariant c.up-higher.ensures c.up-above-in-loop-above.ensures
