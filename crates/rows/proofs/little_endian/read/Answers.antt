-- `rows::little_endian::read` meets its contract: the number of the bytes from a place on. Assumes nothing.
use mathlib.Core.Path.{ap, ◌∙◌}
use Prim.Native.Nat.{ℕ}
use native.Mathlib.Omega.{arith}
use lib.ListN.{take, drop}
use Rattle.rows.specs.LittleEndian.{from_bytes, number_at}
use Rattle.rows.proofs.little_endian.read.Goals as goal

pub returns : goal.returns
unfolding number_at
returns g c =
    c.from_bytes.ensures
    ∙ ap (λ (k : ℕ). g.T.LittleEndian.of_number (from_bytes (take k (drop c.args.at c.args.bytes.now)))) (omega arith)
