-- `checker::faults::faults` meets its contract: what the walk wrote in the work row lies below 4n. Assumes nothing.
use Rattle.checker.proofs.CheckLaws.{sound_stage, lent_later}
use Rattle.checker.proofs.faults.faults.Goals as goal

pub returns-then-is_sound : goal.returns-then-is_sound
returns-then-is_sound c = sound_stage c.is_sound.ensures c.if-is_sound.true c.loops_alone.ensures

pub returns : goal.returns
returns c = lent_later c.is_sound.ensures.stays c.through_all_rows.ensures
