-- `matcher::first_failure::has_cycle` meets its contract.
-- Assumes nothing.
use Rattle.matcher.proofs.FirstPairs.{standing_after, all_partitioned, all_there}
use Rattle.matcher.proofs.Halving.{row_searchable, tells_cycle}
use Rattle.matcher.proofs.first_failure.has_cycle.Goals as goal

pub unwrap-requires : goal.unwrap-requires
unwrap-requires c = all_there c.join_first.ensures.joined c.requires.1.no_clash

pub reaches_itself-requires : goal.reaches_itself-requires
reaches_itself-requires c = row_searchable (standing_after c.requires.0 c.join_first.ensures.lent) c.requires.1.inside (all_partitioned c.join_first.ensures.joined c.requires.1.no_clash)

pub returns : goal.returns
returns c = tells_cycle (standing_after c.requires.0 c.join_first.ensures.lent) c.requires.1 c.join_first.ensures c.reaches_itself.ensures
