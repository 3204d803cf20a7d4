-- `listing::variables::put_variable` meets its contract. Assumes nothing.
use native.Mathlib.Omega.{arith}
use Rattle.listing.proofs.PutLaws.{copied_line}
use Rattle.listing.proofs.variables.put_variable.Goals as goal

pub returns : goal.returns
returns c = (copied_line c.variable_line-size.ensures.line_in c.args.at c.args.row.now (omega arith) c.copy_from_slice.ensures.after, omega (arith, c.variable_line-size.ensures.upper_bound))
