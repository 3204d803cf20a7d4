-- `matcher::first_failure::join_first` meets its contract.
-- Assumes nothing.
use mathlib.Core.List.{[]}
use mathlib.Core.Path.{sym}
use native.Mathlib.Omega.{arith}
use lib.Seq.{length-take-le}
use Rattle.table.proofs.Pairs.{length-pairs_of}
use Rattle.matcher.proofs.FirstPairs.{first_joinable, joins_first}
use Rattle.matcher.proofs.first_failure.join_first.Goals as goal

pub overflow_mul-count : goal.overflow_mul-count
overflow_mul-count c = omega (arith, c.requires.0.ready.few, length-pairs_of c.args.list.now)

pub slice_bounds-join-end : goal.slice_bounds-join-end
slice_bounds-join-end c = sym (length-take-le _ _ (omega (arith, length-pairs_of c.args.list.now)))

pub join-requires : goal.join-requires
join-requires c = ([], first_joinable c.requires.0 c.requires.1 c.apart.ensures c.apart.auto.class)

pub returns : goal.returns
returns c = joins_first c.requires.0 c.requires.1 c.apart.ensures c.apart.auto.class c.join.ensures c.join.auto.class
