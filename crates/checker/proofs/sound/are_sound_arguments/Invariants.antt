-- `checker::sound::are_sound_arguments` meets its contract: the walk has come to `at`, and as many
-- arguments are to come as words are left. Assumes nothing.
use Rattle.checker.proofs.WalkLaws.{ArgumentsYet}
use Rattle.checker.proofs.sound.are_sound_arguments.Given as goal

abbrev pub invariant-loop-at : goal.invariant-loop-at
invariant-loop-at l = ArgumentsYet l.table l.initial.work l.work l.from l.to l.at
