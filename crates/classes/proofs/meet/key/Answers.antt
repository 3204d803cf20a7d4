-- `classes::meet::key` meets its contract.
-- Assumes nothing.
use mathlib.Core.Logic.{⊎_elim}
use Rattle.classes.proofs.Heads.{key_at}
use Rattle.classes.proofs.meet.key.Goals as goal

pub returns-in-Variable : goal.returns-in-Variable
returns-in-Variable c = key_at _ _ c.head.ensures c.in-Variable.is

pub returns-in-Constant : goal.returns-in-Constant
returns-in-Constant c = ⊎_elim (λ w. key_at _ _ c.head.ensures w.1) (λ w. key_at _ _ c.head.ensures w.2) c.in-Constant.is
