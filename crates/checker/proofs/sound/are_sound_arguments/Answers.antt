-- `checker::sound::are_sound_arguments` meets its contract: the walk has come to `at`, and as many
-- arguments are to come as words are left. Assumes nothing.
use Rattle.checker.proofs.WalkLaws.{arguments_more}
use Rattle.checker.proofs.sound.are_sound_arguments.Goals as goal

pub loop-at-preserved : goal.loop-at-preserved
loop-at-preserved c = arguments_more c.loop-at.invariant c.is_sound_argument.ensures c.requires.1 c.loop-at-test.true c.requires.3 c.if-not-is_sound_argument.false
