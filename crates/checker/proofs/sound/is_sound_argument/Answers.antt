-- `checker::sound::is_sound_argument` meets its contract: one case a branch. Assumes nothing.
use mathlib.Core.Path.{sym, ap, ◌∙◌}
use Rattle.table.specs.Faults.{bad_target}
use Rattle.checker.proofs.WalkLaws.{variable_argument, constant_argument, pointer_argument}
use Rattle.checker.proofs.sound.is_sound_argument.Goals as goal

pub returns-in-Variable : goal.returns-in-Variable
returns-in-Variable c = variable_argument c.args.table.now c.args.at c.requires.1 c.repeats_variable.result (sym c.kind.ensures ∙ c.in-Variable.is) c.repeats_variable.ensures

pub returns-in-Constant : goal.returns-in-Constant
returns-in-Constant c = constant_argument c.args.table.now c.args.at c.requires.1 c.requires.0 (sym c.kind.ensures ∙ c.in-Constant.is)

pub returns-in-Pointer : goal.returns-in-Pointer
returns-in-Pointer c = pointer_argument c.args.table.now c.args.at c.requires.1 c.requires.0 (sym c.kind.ensures ∙ c.in-Pointer.is) (c.is_bad_target.ensures ∙ ap (bad_target c.args.table.now) c.address.ensures)
