-- `from_bytes` of `rows::little_endian::LittleEndian` meets its contract: the library's `from_le_bytes` counts the 2 bytes as
-- `from_bytes` does. Assumes nothing.
use native.Mathlib.Omega.{arith}
use Rattle.rows.proofs.Laws.{from_bytes-fetched}
use Rattle.rows.proofs.little_endian.U16LittleEndian.from_bytes.Goals as goal

pub returns : goal.returns
returns c = omega (arith, from_bytes-fetched 2 c.args.bytes.now c.requires, c.from_le_bytes.ensures)
