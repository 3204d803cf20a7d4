-- `checker::sound::is_sound` meets its contract: the walk has come from address 1 to `at`, where an item may stand. Assumes nothing.
use Rattle.checker.proofs.WalkLaws.{sound_table}
use Rattle.checker.proofs.sound.is_sound.Goals as goal

pub returns : goal.returns
returns c = sound_table c.loop-at.invariant c.begin_chains.ensures.stays c.if-table-ne0.false c.loop-at-test.false
