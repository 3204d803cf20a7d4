-- `lines::variable_line` meets its contract: three fields after the `v` and its space. Assumes nothing.
use native.Mathlib.Omega.{arith}
use Rattle.lines.specs.Lines.{SPACE, NEWLINE, field, variable_word, variable_line}
use Rattle.lines.proofs.LineLaws.{line_word, line_more, line_counts}
use Rattle.lines.proofs.variable_line.Goals as goal

pub returns : goal.returns
unfolding variable_line
returns c = let word = line_word variable_word c.args.line.now c.copy_from_slice.new.self c.copy_from_slice.ensures.after in
    let one = line_more (field c.args.at.0 SPACE) word c.put_field-second.ensures.0 c.put_field-second.ensures.2 in
    let two = line_more (field c.args.label.0 SPACE) one c.put_field-last.ensures.0 c.put_field-last.ensures.2 in
    let all = line_more (field c.args.name.0 NEWLINE) two c.put_field.ensures.0 c.put_field.ensures.2 in
    record { counts = line_counts c.put_field.result c.put_field.new.row (omega arith); line_in = all; upper_bound = omega arith }
