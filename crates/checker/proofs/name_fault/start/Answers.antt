-- `checker::name_fault::start` meets its contract: a 16-bit number times the starts is below 65,536 times them. Assumes nothing.
use mathlib.Core.Path.{refl}
use Rattle.checker.proofs.ChainLaws.{start_below}
use Rattle.checker.specs.Steps.Names.{start_of}
use Rattle.checker.proofs.name_fault.start.Goals as goal

pub returns : goal.returns
unfolding start_of
returns c = (refl, start_below _ c.requires.0)
