-- `jobfile::reader::put_sizes` meets its contract.
-- Assumes nothing.
use mathlib.Core.Path.{sym, ◌∙◌}
use native.Mathlib.Omega.{arith}
use Rattle.rows.proofs.Laws.{built_none, built_more}
use Rattle.jobfile.specs.File.{count_in}
use Rattle.jobfile.proofs.FileLaws.{length-sizes_from}
use Rattle.jobfile.proofs.reader.put_sizes.Goals as goal

pub loop-i-init : goal.loop-i-init
loop-i-init c = let p = c.requires in
    built_none (length-sizes_from (count_in c.args.file.now) 0 c.args.file.now ∙ sym p.1) p.2

pub loop-i-preserved : goal.loop-i-preserved
loop-i-preserved c = built_more 0 c.loop-i.invariant (omega arith) c.size_at.ensures
