-- `listing::variables::put_variables` meets its contract. Assumes nothing.
use native.Mathlib.Omega.{arith}
use borrow.Author.Rules.{rules}
use Rattle.listing.proofs.PutLaws.{telling_none, telling_more}
use Rattle.listing.proofs.variables.put_variables.Goals as goal

pub loop-x-init : goal.loop-x-init
loop-x-init c = telling_none c.requires.1

pub loop-x-preserved : goal.loop-x-preserved
loop-x-preserved c = telling_more c.requires.0.0 (search rules) c.loop-x.invariant (omega arith) c.put_line-at.ensures.0 c.put_line-at.ensures.1
