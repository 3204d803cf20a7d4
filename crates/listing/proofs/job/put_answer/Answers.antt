-- `listing::job::put_answer` meets its contract. Assumes nothing.
use Rattle.lines.proofs.LineLaws.{line_more}
use Rattle.listing.specs.Listing.{variable_lines}
use Rattle.listing.proofs.job.put_answer.Goals as goal

pub returns-in-Ok : goal.returns-in-Ok
returns-in-Ok c = (
  rw c.in-Ok.is (line_more (variable_lines c.args.table.now c.args.class.now) (rw c.in-Ok.is at c.put_job-size.ensures.0) c.put_variables.ensures.0.next c.put_variables.ensures.0.there),
  c.put_variables.ensures.1,
)
