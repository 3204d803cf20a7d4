-- `lines::job_line` meets its contract: four fields, one after another. Assumes nothing.
use native.Mathlib.Omega.{arith}
use Rattle.lines.specs.Lines.{SPACE, NEWLINE, field, job_line}
use Rattle.lines.proofs.LineLaws.{line_first, line_more, line_counts}
use Rattle.lines.proofs.job_line.Goals as goal

pub returns : goal.returns
unfolding job_line
returns c = let one = line_first c.put_field-second.ensures.0 c.put_field-second.ensures.2 in
    let two = line_more (field c.args.answer SPACE) one c.put_field-third.ensures.0 c.put_field-third.ensures.2 in
    let three = line_more (field c.args.place SPACE) two c.put_field-last.ensures.0 c.put_field-last.ensures.2 in
    let all = line_more (field c.args.joins NEWLINE) three c.put_field.ensures.0 c.put_field.ensures.2 in
    record { counts = line_counts c.put_field.result c.put_field.new.row (omega arith); line_in = all; upper_bound = omega arith }
