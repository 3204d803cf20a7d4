-- `checker::name_fault::begin_chains` meets its contract: where each chain's beginning is 0, there are none. Assumes nothing.
use native.Mathlib.Omega.{arith}
use Rattle.rows.proofs.Laws.{filled_front}
use Rattle.checker.proofs.NameLaws.{chained_none}
use Rattle.checker.proofs.name_fault.begin_chains.Goals as goal

pub returns : goal.returns
returns c = chained_none c.requires.0 c.requires.1 c.requires.2 (filled_front _ _ _ (omega (arith, c.requires.1)) (c.fill.ensures.after (λ y e. e)))
