-- `rows::little_endian::write16` meets its contract: its stores place 2 bytes. Assumes nothing.
use native.Mathlib.Numerals.{towards_suc}
use Rattle.rows.specs.LittleEndian.{bytes_of}
use Rattle.rows.proofs.Laws.{placed-sets}
use Rattle.rows.proofs.little_endian.write16.Goals as goal

pub returns : goal.returns
unfolding bytes_of
returns c = rw c.to_le_bytes.ensures (simp towards_suc (placed-sets 2 c.args.x c.args.at c.args.bytes.now c.requires))
