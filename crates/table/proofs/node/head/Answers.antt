-- `table::node::head` meets its contract: one case a branch. Assumes nothing.
use mathlib.Core.Path.{sym, ◌∙◌}
use native.Mathlib.Omega.{arith}
use Rattle.std.proofs.Common.{rules}
use Rattle.table.specs.Heads.{top}
use Rattle.table.specs.Table.{choose}
use Rattle.table.proofs.Readable.{block_inside}
use Rattle.table.proofs.node.head.Goals as goal

pub bounds-table-at-in-Function : goal.bounds-table-at-in-Function
bounds-table-at-in-Function c = omega (arith, block_inside c.requires.0 c.args.x.0 (sym c.kind.ensures ∙ c.in-Function.is))

pub returns-in-Function : goal.returns-in-Function
unfolding top choose
returns-in-Function c = search rules

pub returns-in-Constant : goal.returns-in-Constant
unfolding top choose
returns-in-Constant c = search rules

pub returns-in_default : goal.returns-in_default
unfolding top choose
returns-in_default c = search rules
