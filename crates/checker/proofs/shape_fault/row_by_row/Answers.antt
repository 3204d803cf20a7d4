-- `checker::shape_fault::row_by_row` meets its contract: each row answers where those before it do not apply. Assumes nothing.
use mathlib.Core.Path.{sym}
use native.Mathlib.Omega.{arith}
use Rattle.checker.proofs.Stages.{bad_word_lem, bad_layout, bad_pointer_lem, break_within}
use Rattle.checker.proofs.shape_fault.row_by_row.Goals as goal

pub returns-in-Some : goal.returns-in-Some
returns-in-Some c = bad_word_lem c.in-Some.at c.in-Some.ensures

pub overflow_cast-result-in-Some-layout_break : goal.overflow_cast-result-in-Some-layout_break
overflow_cast-result-in-Some-layout_break c = omega (arith, c.requires, break_within c.args.table.now _ (sym c.in-Some-layout_break.ensures))

pub returns-in-Some-layout_break : goal.returns-in-Some-layout_break
returns-in-Some-layout_break c = bad_layout c.in_default.ensures (sym c.in-Some-layout_break.ensures)

pub returns-in-Some-first_bad_pointer : goal.returns-in-Some-first_bad_pointer
returns-in-Some-first_bad_pointer c = bad_pointer_lem c.in_default.ensures (sym c.in_default-layout_break.ensures) c.in-Some-first_bad_pointer.at c.in-Some-first_bad_pointer.ensures
