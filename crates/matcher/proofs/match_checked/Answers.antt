-- `matcher::match_checked` meets its contract.
-- Assumes nothing.
use native.Mathlib.Omega.{arith}
use Rattle.table.proofs.Pairs.{length-pairs_of}
use Rattle.matcher.proofs.Whole.{list_verdict, side_verdict, checks_passed}
use Rattle.matcher.proofs.match_checked.Goals as goal

pub returns-then-is_bad_list : goal.returns-then-is_bad_list
returns-then-is_bad_list c = list_verdict c.requires c.if-is_bad_list.ensures

pub overflow_add-result : goal.overflow_add-result
overflow_add-result c = omega (arith, length-pairs_of c.args.list.now, c.in-Some.ensures.0, c.if-is_bad_list.ensures.1)

pub overflow_cast-result : goal.overflow_cast-result
overflow_cast-result c = omega (arith, length-pairs_of c.args.list.now, c.in-Some.ensures.0, c.if-is_bad_list.ensures.1)

pub returns-in-Some : goal.returns-in-Some
returns-in-Some c = side_verdict c.requires c.if-is_bad_list.ensures c.in-Some.bad c.in-Some.ensures

pub unify-requires : goal.unify-requires
unify-requires c = checks_passed c.requires c.if-is_bad_list.ensures c.in_default.ensures
