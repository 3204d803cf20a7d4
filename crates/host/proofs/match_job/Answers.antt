-- `host::match_job` meets its contract.
-- Assumes nothing.
use Rattle.host.proofs.ChoiceLaws.{refused_early}
use Rattle.host.proofs.match_job.Goals as goal

pub returns-in-Err : goal.returns-in-Err
returns-in-Err c = rw c.number.ensures (refused_early c.args.file.now c.args.job c.args.room.now c.in-Err.ensures)
