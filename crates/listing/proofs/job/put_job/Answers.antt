-- `listing::job::put_job` meets its contract. Assumes nothing.
use mathlib.Core.Path.{◌≡◌}
use native.Mathlib.Omega.{arith}
use borrow.Author.Rules.{rules}
use lib.ListN.{take}
use Rattle.lines.specs.Lines.{line_room}
use Rattle.lines.proofs.LineLaws.{line_lent}
use Rattle.listing.proofs.job.put_job.Goals as goal

pub returns : goal.returns
returns c =
    let lent : c.unwrap.result.now ≡ take line_room c.args.row.now = search rules in
    (rw (c.number.ensures, c.place.ensures, c.joins.ensures) at (line_lent {n = line_room} c.args.row.now c.job_line.ensures.line_in lent (omega arith) c.job_line.ensures.upper_bound), c.job_line.ensures.upper_bound)
