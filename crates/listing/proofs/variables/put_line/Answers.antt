-- `listing::variables::put_line` meets its contract. Assumes nothing.
use native.Mathlib.Omega.{arith}
use Rattle.listing.proofs.PutLaws.{line_there, line_nowhere}
use Rattle.listing.proofs.variables.put_line.Goals as goal

pub returns-in-Variable : goal.returns-in-Variable
returns-in-Variable c = (line_there c.args.table.now c.args.class.now c.args.x c.kind.ensures c.in-Variable.is c.label.ensures c.put_variable.ensures.0, c.put_variable.ensures.1)

pub returns : goal.returns
returns c = (line_nowhere c.args.table.now c.args.class.now c.args.x c.kind.ensures c.args.at c.args.row.now c.in_default.not-Variable, omega arith)
