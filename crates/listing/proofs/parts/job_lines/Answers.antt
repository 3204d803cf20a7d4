-- `listing::parts::job_lines` meets its contract. Assumes nothing.
use Rattle.listing.proofs.PartLaws.{part_there, part_nowhere}
use Rattle.listing.proofs.parts.job_lines.Goals as goal

pub returns-in-Ok-clause-text_in : goal.returns-in-Ok-clause-text_in
returns-in-Ok-clause-text_in c = part_there c.in-Ok.ensures.0 c.in-Ok.ensures.1 c.in-Ok.job.is_there.there c.put_job_lines.ensures.0

pub returns-in-Err-clause-text_in : goal.returns-in-Err-clause-text_in
returns-in-Err-clause-text_in c = part_nowhere c.args.lines.now c.in-Err.field-0 c.in-Err.ensures
