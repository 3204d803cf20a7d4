-- `checker::sound::after_item` meets its contract: one case a branch. Assumes nothing.
use mathlib.Core.Path.{sym, ◌∙◌}
use Rattle.checker.proofs.SoundLaws.{function_word}
use Rattle.checker.proofs.WalkLaws.{next_variable, next_constant, next_block}
use Rattle.checker.proofs.sound.after_item.Goals as goal

pub returns-else-repeats_variable : goal.returns-else-repeats_variable
returns-else-repeats_variable c = next_variable c.args.table.now c.args.at c.requires.1 c.requires.2 c.repeats_variable.result (sym c.kind.ensures ∙ c.in-Variable.is) c.repeats_variable.ensures c.if-repeats_variable.false

pub returns-in-Constant : goal.returns-in-Constant
returns-in-Constant c = next_constant c.args.table.now c.args.at c.requires.1 c.requires.2 c.requires.0 (sym c.kind.ensures ∙ c.in-Constant.is)

pub returns-in-Function : goal.returns-in-Function
returns-in-Function c = next_block _ (function_word c.args.table.now c.args.at c.requires.1 c.requires.2 (sym c.kind.ensures ∙ c.in-Function.is)) c.after_block.ensures
