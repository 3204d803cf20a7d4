-- `lines::input::read_to_fill` meets its contract: a read puts what it gives behind what was given before. Assumes nothing.
use Rattle.lines.proofs.InputLaws.{filled_more}
use Rattle.lines.proofs.input.read_to_fill.Goals as goal

pub loop-size-preserved : goal.loop-size-preserved
loop-size-preserved g c = filled_more _ _ c.read.new.buf c.loop-size.invariant c.read.auto.buf c.in-Ok.ensures.bound.0 c.in-Ok.ensures.bytes.0
