-- `listing::job::match_job` meets its contract. Assumes nothing.
use Rattle.listing.proofs.JobLaws.{job_told}
use Rattle.listing.proofs.job.match_job.Goals as goal

pub returns : goal.returns
returns c = (job_told _ c.requires c.take_job.ensures c.match_list-answer.ensures c.put_answer.ensures.0, c.put_answer.ensures.1)
