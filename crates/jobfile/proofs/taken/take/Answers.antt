-- `jobfile::taken::take` meets its contract.
-- Assumes nothing.
use mathlib.Core.Path.{ap, ◌∙◌}
use Prim.Native.Nat.{ℕ, ◌*◌, ◌/◌, min}
use native.Mathlib.Omega.{arith}
use lib.ListN.{length, length-map}
use Rattle.rows.specs.LittleEndian.{number_at}
use Rattle.rows.proofs.Laws.{built_none}
use Rattle.jobfile.proofs.NumberLaws.{length-row_in}
use Rattle.jobfile.proofs.TakenLaws.{taken_more, all_taken}
use Rattle.jobfile.proofs.taken.take.Goals as goal

pub loop-i-init : goal.loop-i-init
loop-i-init g c = built_none (length-map _ _ ∙ length-row_in g.T.LittleEndian.WIDTH c.min-count.result _) (omega arith)

pub loop-i-preserved : goal.loop-i-preserved
loop-i-preserved g c =
    taken_more g.T.LittleEndian.of_number g.T.LittleEndian.WIDTH c.min-count.result c.loop-i.i c.args.bytes.now c.loop-i.invariant c.loop-i-test.true
    (c.read.ensures ∙ ap (λ (width : ℕ). g.T.LittleEndian.of_number (number_at g.T.LittleEndian.WIDTH (width * c.loop-i.i) c.args.bytes.now)) c.WIDTH-in-loop-i.ensures)

pub returns : goal.returns
returns g c =
    all_taken g.T.LittleEndian.of_number g.T.LittleEndian.WIDTH c.min-count.result c.args.bytes.now c.loop-i.invariant c.loop-i-test.false
    (c.min-count.ensures ∙ ap (λ (width : ℕ). min (length c.args.into.now) (length c.args.bytes.now / width)) c.WIDTH.ensures)
