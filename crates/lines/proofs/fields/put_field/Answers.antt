-- `lines::fields::put_field` meets its contract: the library's digits are those of `decimal`, and one byte is stored after them.
-- Assumes nothing.
use mathlib.Core.Path.{◌≡◌, ap, ◌∙◌}
use Prim.Native.Nat.{ℕ, ◌+◌, ◌≤◌}
use native.Mathlib.Omega.{arith}
use lib.ListN.{length}
use Rattle.rows.proofs.Laws.{copied_within}
use Rattle.lines.specs.Decimal.{decimal}
use Rattle.lines.proofs.Decimals.{same_digits, decimal_short}
use Rattle.lines.proofs.LineLaws.{field-placed}
use Rattle.lines.proofs.fields.put_field.Goals as goal

pub returns : goal.returns
returns c = let text : c.as_bytes-digits.result.now ≡ decimal c.args.x = c.as_bytes-digits.ensures.value ∙ c.format.ensures.text ∙ same_digits c.args.x (omega arith) in
    let few : length (decimal c.args.x) ≤ 5 = decimal_short c.args.x (omega arith) in
    let long : length c.as_bytes-digits.result.now ≡ length (decimal c.args.x) = ap length text in
    let within : c.args.at + length c.as_bytes-digits.result.now + 1 ≤ c.args.at + 6 = omega arith in
    let done = field-placed c.args.x c.args.after c.args.at _ c.args.row.now _ (omega arith) (ap (λ (n : ℕ). c.args.at + n) long)
    (copied_within c.args.at _ (decimal c.args.x) c.args.row.now _ (omega arith) (c.copy_from_slice.ensures.after ∙ text)) in
    (done.0, within, done.1)
