-- `cycles::search::from_each` meets its contract. The loop's invariant is `Swept`: all names below x are begun, and no cycle was found. The
-- measure is what is left of the table. Assumes nothing.
use native.Mathlib.Omega.{arith}
use Rattle.cycles.proofs.Roots.{swept_none, visit_found, visit_passed, swept_all}
use Rattle.cycles.proofs.search.from_each.Goals as goal

pub loop-x-init : goal.loop-x-init
loop-x-init c = swept_none c.requires.1

pub visit-requires : goal.visit-requires
visit-requires c = (c.requires.0, c.loop-x.invariant.search, omega arith)

pub returns-then-visit : goal.returns-then-visit
returns-then-visit c = visit_found c.loop-x.invariant (omega arith) c.visit.ensures c.if-visit.true

pub loop-x-preserved : goal.loop-x-preserved
loop-x-preserved c = visit_passed c.loop-x.invariant (omega arith) c.visit.ensures c.if-visit.false

pub returns : goal.returns
returns c = swept_all c.requires.0 c.loop-x.invariant c.loop-x-test.false
