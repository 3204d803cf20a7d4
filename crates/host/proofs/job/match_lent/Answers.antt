-- `host::job::match_lent` meets its contract.
-- Assumes nothing.
use Rattle.host.proofs.JobLaws.{host_lent}
use Rattle.host.proofs.job.match_lent.Goals as goal

pub returns : goal.returns
returns c = host_lent c.requires c.take_job.ensures c.match_list-answer.ensures c.report.ensures
