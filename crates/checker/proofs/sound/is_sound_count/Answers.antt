-- `checker::sound::is_sound_count` meets its contract: by what the two tests read. Assumes nothing.
use Rattle.std.proofs.Common.{rules}
use Rattle.checker.specs.Steps.Sound.{sound_count}
use Rattle.checker.proofs.sound.is_sound_count.Goals as goal

pub returns-then-eq : goal.returns-then-eq
unfolding sound_count
returns-then-eq c = search rules

pub returns-else-eq : goal.returns-else-eq
unfolding sound_count
returns-else-eq c = search rules
