-- `matcher::first_failure::first_failure` meets its contract.
-- Assumes nothing.
use borrow.Author.Rules.{rules}
use Rattle.std.proofs.Common.{tests}
use Rattle.matcher.proofs.FirstPairs.{standing_after}
use Rattle.matcher.proofs.Halving.{row_searchable, unclashed_all, unclashed_before, cycle_found, cycle_fails, joined_fails}
use Rattle.matcher.proofs.first_failure.first_failure.Goals as goal
use Rattle.matcher.proofs.first_failure.first_failure.Goals.{in-Ok, in-Err}

pub reaches_itself-requires : goal.reaches_itself-requires
reaches_itself-requires c = row_searchable (standing_after c.requires c.join_until_clash-joined.ensures.lent) c.join_until_clash-joined.ensures.inside c.join_until_clash-joined.ensures.partitioned

pub overflow_sub-many : goal.overflow_sub-many
overflow_sub-many c = (c.join_until_clash-joined.ensures.next _ c.in-Err.is).from_1

pub first_cycle-requires : goal.first_cycle-requires
first_cycle-requires c =
    cycle_found c.requires c.join_until_clash-joined.ensures c.if-reaches_itself.ensures
    (elim c.match-joined.branch [
      | in-Ok w ↦ unclashed_all _ w.in-Ok.is w.many-is
      | in-Err w ↦ unclashed_before _ w.in-Err.is w.many-is
    ])

pub returns-then-reaches_itself : goal.returns-then-reaches_itself
returns-then-reaches_itself c =
    cycle_fails c.requires c.join_until_clash-joined.ensures c.if-reaches_itself.ensures
    (elim c.match-joined.branch [
      | in-Ok w ↦ unclashed_all _ w.in-Ok.is w.many-is
      | in-Err w ↦ unclashed_before _ w.in-Err.is w.many-is
    ])
    c.first_cycle.ensures

pub returns : goal.returns
returns c = joined_fails c.requires c.join_until_clash-joined.ensures c.if-reaches_itself.ensures _ c.map_err.ensures.cases (λ at refusal made. search (rules, tests))
