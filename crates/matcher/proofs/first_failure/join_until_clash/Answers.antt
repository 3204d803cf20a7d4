-- `matcher::first_failure::join_until_clash` meets its contract.
-- Assumes nothing.
use native.Mathlib.Omega.{arith}
use Rattle.matcher.proofs.ListLaws.{half_entries}
use Rattle.matcher.proofs.FirstPairs.{standing_after, all_there, before_clash, until_end, until_clash}
use Rattle.matcher.proofs.first_failure.join_until_clash.Goals as goal

pub join_first-joined-requires : goal.join_first-joined-requires
join_first-joined-requires c = (c.requires, omega (arith, half_entries c.args.list.now))

pub join_first-requires : goal.join_first-requires
join_first-requires c = (standing_after c.requires c.join_first-joined.ensures.lent, omega (arith, half_entries c.args.list.now, (before_clash (omega (arith, half_entries c.args.list.now)) c.in-Err.ensures).1))

pub unwrap-requires : goal.unwrap-requires
unwrap-requires c = all_there c.join_first.ensures.joined (before_clash (omega (arith, half_entries c.args.list.now)) c.in-Err.ensures).2

pub returns-in-Err : goal.returns-in-Err
returns-in-Err c = until_clash (omega (arith, half_entries c.args.list.now)) c.in-Err.ensures c.join_first.ensures

pub returns-in_default : goal.returns-in_default
returns-in_default c = until_end (half_entries c.args.list.now) c.join_first-joined.ensures c.in_default.is
