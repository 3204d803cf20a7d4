-- `checker::name_fault::put_in_front` meets its contract, by the law of the two stores. Assumes nothing.
use mathlib.Core.Path.{ap, ◌∙◌}
use Prim.Native.Nat.{◌*◌}
use lib.ListN.{length}
use Rattle.checker.specs.Steps.Names.{start_of}
use Rattle.checker.proofs.NameLaws.{put_front}
use Rattle.checker.proofs.name_fault.put_in_front.Goals as goal

pub returns : goal.returns
returns c = let start = c.start-first in
    put_front c.args.table.now c.args.work.now c.args.at start.result
    c.requires.0.room c.requires.1 start.ensures.1 c.requires.0
    (start.ensures.0 ∙ ap (λ l. start_of l (3 * length c.args.table.now)) c.label_at.ensures) c.requires.2
