-- `checker::faults::through_all_rows` meets its contract: the shape rows, then row 6 if those pass, then row 7 if no name is repeated.
-- Assumes nothing.
use mathlib.Core.Path.{subst}
use borrow.Author.Rules.{rules}
use Rattle.table.specs.Faults.{shape_rows}
use Rattle.checker.specs.Steps.Stage.{ByRows}
use Rattle.checker.proofs.CheckLaws.{accepted_readable, shape_passed, name_stage, names_passed, lent_later}
use Rattle.checker.proofs.faults.through_all_rows.Goals as goal

pub first_repeated_name-requires : goal.first_repeated_name-requires
first_repeated_name-requires c = (accepted_readable (subst (ByRows shape_rows c.args.table.now) c.in_ok-row_by_row.was c.row_by_row.ensures) c.requires, c.requires.work_enough)

pub returns-in-Some : goal.returns-in-Some
returns-in-Some c = shape_passed (subst (ByRows shape_rows c.args.table.now) c.in_ok-row_by_row.was c.row_by_row.ensures) (name_stage c.in-Some.ensures)

pub loops_alone-requires : goal.loops_alone-requires
loops_alone-requires c = (search rules, accepted_readable (subst (ByRows shape_rows c.args.table.now) c.in_ok-row_by_row.was c.row_by_row.ensures) c.requires)

pub returns : goal.returns
returns c = shape_passed (subst (ByRows shape_rows c.args.table.now) c.in_ok-row_by_row.was c.row_by_row.ensures)
    (lent_later c.first_repeated_name.ensures.stays (names_passed c.in_default.ensures.lowest c.loops_alone.ensures))
