-- `table::node::degree` meets its contract. Assumes nothing.
use Rattle.std.proofs.Common.{rules}
use native.Mathlib.Omega.{arith}
use Rattle.table.specs.Table.{degree, choose}
use Rattle.table.proofs.Readable.{block_inside}
use Rattle.table.proofs.node.degree.Goals as goal

pub bounds-table-at-then-eq : goal.bounds-table-at-then-eq
bounds-table-at-then-eq c = omega (arith, block_inside c.requires.0 c.args.x.0 (search rules))

pub returns-then-eq : goal.returns-then-eq
unfolding degree choose
returns-then-eq c = search rules

pub returns-else-eq : goal.returns-else-eq
unfolding degree choose
returns-else-eq c = search rules
