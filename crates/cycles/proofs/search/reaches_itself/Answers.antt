-- `cycles::search::reaches_itself` meets its contract: the first clearing lets the search start, and the last one leaves zeros, with what is
-- behind them as it came. Assumes nothing.
use native.Mathlib.Omega.{arith}
use Rattle.rows.proofs.Laws.{filled_front}
use Rattle.cycles.proofs.Roots.{started, searched}
use Rattle.cycles.proofs.search.reaches_itself.Goals as goal

pub from_each-found-requires : goal.from_each-found-requires
from_each-found-requires c = (c.requires.0, started c.args.work.now c.requires.0 c.requires.1 (filled_front _ _ _ (omega (arith, c.requires.1)) (c.fill.ensures.after (λ y e. e))))

pub returns : goal.returns
returns c = searched (filled_front _ _ _ (omega (arith, c.requires.1)) (c.fill.ensures.after (λ y e. e))) c.from_each-found.ensures (filled_front _ _ _ (omega (arith, c.requires.1)) (c.fill-2.ensures.after (λ y e. e)))
