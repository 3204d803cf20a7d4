-- `matcher::first_failure::unify` meets its contract.
-- Assumes nothing.
use native.Mathlib.Omega.{arith}
use borrow.Author.Rules.{rules}
use Rattle.rows.proofs.Laws.{filled_front}
use Rattle.matcher.proofs.FirstPairs.{standing_after}
use Rattle.matcher.proofs.Halving.{row_names_nodes, whole_joined, refused_verdict, accepted_verdict}
use Rattle.matcher.proofs.first_failure.unify.Goals as goal

pub count_joins-requires : goal.count_joins-requires
count_joins-requires c = (
  search rules,
  search rules,
  row_names_nodes (standing_after c.requires.0 c.first_failure.ensures.lent) (omega arith) (whole_joined c.first_failure.ensures.failed c.in-Ok.is),
)

pub returns-in-Ok : goal.returns-in-Ok
returns-in-Ok c = accepted_verdict c.requires.1 c.first_failure.ensures c.in-Ok.is c.count_joins.ensures

pub returns-in-Err : goal.returns-in-Err
returns-in-Err c = refused_verdict c.requires.1 c.first_failure.ensures c.in-Err.is (filled_front _ _ _ (omega (arith, c.requires.0.ready.class_enough, c.first_failure.auto.class)) (c.fill.ensures.after (λ y e. e)))
