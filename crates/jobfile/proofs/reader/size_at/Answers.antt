-- `jobfile::reader::size_at` meets its contract.
-- Assumes nothing.
use mathlib.Core.Path.{◌∙◌}
use Rattle.jobfile.proofs.FileLaws.{size_in}
use Rattle.jobfile.proofs.reader.size_at.Goals as goal

pub returns : goal.returns
returns c = c.read.ensures ∙ size_in c.args.file.now c.args.i c.requires.1
