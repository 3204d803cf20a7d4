-- `again::written::rewrite` meets its contract.
-- Assumes nothing.
use mathlib.Core.Path.{◌≡◌}
use native.Mathlib.Omega.{arith}
use borrow.Author.Rules.{rules}
use Rattle.std.specs.Prelude.{Err}
use Rattle.again.proofs.AgainLaws.{read_written, read_refused}
use Rattle.again.proofs.written.rewrite.Goals as goal

pub returns-in_err-read : goal.returns-in_err-read
returns-in_err-read c = let refused : c.from_residual.result ≡ Err c.in_err-read.field-0.0 = search rules in
    rw refused (read_refused c.read-read.ensures c.in_err-read.was)

pub returns : goal.returns
returns c = rw c.in_ok-read.was at (read_written (λ i. omega (arith, c.type_inv.file i)) c.requires c.read-read.ensures c.bodies.ensures (rw c.as_slice.ensures at c.write.ensures))
