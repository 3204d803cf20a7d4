-- `cycles::search::visit` meets its contract: x is passed over, or what the search from a root says is a case of what a visit says. Assumes
-- nothing.
use mathlib.Core.Bool.{not}
use mathlib.Core.Path.{ap}
use native.Mathlib.Omega.{arith}
use Rattle.cycles.proofs.Answers.{no_edges_safe, begun_safe}
use Rattle.cycles.proofs.Passing.{no_function_no_edges}
use Rattle.cycles.proofs.Roots.{visited, passed_over}
use Rattle.cycles.proofs.search.visit.Goals as goal

pub returns-then-not-has_edges : goal.returns-then-not-has_edges
returns-then-not-has_edges c = passed_over c.args.class.now c.requires.1 (λ own. no_edges_safe _ c.args.x (no_function_no_edges c.args.table.now c.args.x c.has_edges.ensures (ap not c.if-not-has_edges.true)))

pub returns-then-work-x-ne0 : goal.returns-then-work-x-ne0
returns-then-work-x-ne0 c = passed_over c.args.class.now c.requires.1 (λ own. begun_safe c.requires.1 c.args.x c.requires.2 (omega (arith, c.if-work-x-ne0.true)))

pub returns-then-class-x : goal.returns-then-class-x
returns-then-class-x c = passed_over c.args.class.now c.requires.1 (λ own. absurd (c.if-class-x.true own))

pub returns : goal.returns
returns c = visited _ _ _ _ _ c.from_root.result c.from_root.ensures
