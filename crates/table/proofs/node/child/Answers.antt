-- `table::node::child` meets its contract.
-- Assumes nothing.
use native.Mathlib.Omega.{arith}
use Rattle.table.proofs.Readable.{argument_inside}
use Rattle.table.proofs.node.child.Goals as goal

pub overflow_add-first : goal.overflow_add-first
overflow_add-first c = omega (arith, argument_inside c.requires.0 c.args.x.0 c.args.i c.requires.1)

pub overflow_add-first-2 : goal.overflow_add-first-2
overflow_add-first-2 c = omega (arith, argument_inside c.requires.0 c.args.x.0 c.args.i c.requires.1)

pub named_at-requires : goal.named_at-requires
named_at-requires c = omega (arith, argument_inside c.requires.0 c.args.x.0 c.args.i c.requires.1)
