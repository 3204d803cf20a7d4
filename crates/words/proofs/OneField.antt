-- A contract that fixes the one field of a struct fixes the struct: two labels, addresses or pair numbers that it allows are equal.
-- Assumes nothing.
use mathlib.Core.Path.{◌≡◌, sym, ◌∙◌}
use Prim.Native.Nat.{ℕ}
use Rattle.words.specs.declared.numbers.Address.{Address}
use Rattle.words.specs.declared.numbers.Label.{Label}
use Rattle.words.specs.declared.numbers.PairNumber.{PairNumber}

pub label_only : {r s : Label} {e : ℕ} → r.0 ≡ e → s.0 ≡ e → r ≡ s
label_only p q = λ i. record { 0 = (p ∙ sym q) i }

pub address_only : {r s : Address} {e : ℕ} → r.0 ≡ e → s.0 ≡ e → r ≡ s
address_only p q = λ i. record { 0 = (p ∙ sym q) i }

pub pair_number_only : {r s : PairNumber} {e : ℕ} → r.0 ≡ e → s.0 ≡ e → r ≡ s
pair_number_only p q = λ i. record { 0 = (p ∙ sym q) i }
