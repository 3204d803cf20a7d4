-- `jobfile::writer::bodies_size` meets its contract.
-- Assumes nothing.
use mathlib.Core.Path.{◌≡◌, ◌∙◌}
use Prim.Native.Nat.{ℕ, ◌*◌}
use borrow.Author.Rules.{rules}
use Rattle.std.specs.Prelude.{sum_by}
use Rattle.jobfile.proofs.WriterLaws.{bodies_summed}
use Rattle.jobfile.proofs.writer.bodies_size.Goals as goal

pub returns : goal.returns
returns c = let summed : c.sum.result ≡ sum_by (λ (size : ℕ). 4 * size) c.args.sizes.now = search rules in
    summed ∙ bodies_summed c.args.sizes.now
