-- `jobfile::reader::sizes_of` meets its contract.
-- Assumes nothing.
use native.Mathlib.Omega.{arith}
use Rattle.jobfile.proofs.Yields.{yield_sizes}
use Rattle.jobfile.proofs.reader.sizes_of.Goals as goal

pub returns : goal.returns
returns c = yield_sizes c.args.file.now c.requires.few_jobs c.put_sizes.ensures (omega arith)
