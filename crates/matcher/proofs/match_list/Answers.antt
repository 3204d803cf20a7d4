-- `matcher::match_list` meets its contract.
-- Assumes nothing.
use Rattle.std.proofs.lemmas.Result.{err_from_is_err_and}
use Rattle.matcher.proofs.Verdicts.{check_refused}
use Rattle.matcher.proofs.Whole.{table_passed, verdict_match}
use Rattle.matcher.proofs.match_list.Goals as goal

pub match_checked-requires : goal.match_checked-requires
match_checked-requires c = table_passed _ c.in_ok-check.ensures c.check.auto.class c.check.auto.work

pub returns : goal.returns
returns c = verdict_match _ c.in_ok-check.ensures c.check.auto.class c.check.auto.work c.match_checked.ensures

pub returns-in_err-check : goal.returns-in_err-check
returns-in_err-check c = let p = err_from_is_err_and c.from_residual.result c.from_residual.ensures.1 in rw (p.1, p.2) (check_refused _ c.in_err-check.ensures)
