-- `checker::sound::after_block` meets its contract: a count, and then its arguments. Assumes nothing.
use native.Mathlib.Omega.{arith}
use Rattle.std.proofs.Common.{rules}
use Rattle.checker.proofs.WalkLaws.{count_chained, next_arguments}
use Rattle.checker.proofs.sound.after_block.Goals as goal

pub are_sound_arguments-requires : goal.are_sound_arguments-requires
are_sound_arguments-requires c = (
  count_chained c.requires.0 (search rules),
  omega arith,
  omega arith,
  omega arith,
)

pub returns : goal.returns
returns c = next_arguments c.args.table.now c.args.at c.requires.1 (omega arith)
    (search rules) (search rules)
    c.are_sound_arguments.ensures c.if-not-are_sound_arguments.false
