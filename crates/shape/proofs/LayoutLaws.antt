-- Where the row of items breaks, one word further. In order:
--   break_stops    at a word that cannot stand
--   break_stands   where the rest breaks, after a word that can
--   break_ends     at the end of the table
--   scan-..        the same three for a scan, from what it read
--   break_only     two scans of one table give one place
--   one_less       how many arguments are still to come after one more
-- Assumes nothing.
use mathlib.Core.Path.{◌≡◌, refl, sym, ap, ◌∙◌}
use mathlib.Core.Bool.{Bool, true, false}
use mathlib.Core.List.{List}
use Rattle.std.specs.Prelude.{Option, Some}
use Prim.Native.Nat.{ℕ, zero, suc, ◌+◌, ◌-◌, ◌≤◌, ◌<◌}
use native.Mathlib.Numerals.{add-one}
use native.Mathlib.Omega.{arith}
use lib.ListN.{length, drop, drop_of_length-le}
use lib.Seq.{drop-cons}
use Rattle.words.specs.declared.kind.Kind.{Kind}
use Rattle.table.specs.Table.{word_at, kind_at}
use Rattle.table.proofs.Blocks as blocks
use Rattle.table.specs.Layout.{Wanted, item, can_stand, after, at_end, break_from, less}

module _ (t : List ℕ) (a : ℕ) (wanted : Wanted) where
  pub break_stops : a < length t → can_stand wanted (kind_at t a) ≡ false → break_from wanted a (drop a t) ≡ Some a
  break_stops h e = ap (break_from wanted a) (drop-cons t a 0 h) ∙ blocks.break_stops wanted a (word_at t a) (drop (suc a) t) e

  pub break_stands : a < length t → can_stand wanted (kind_at t a) ≡ true
      → break_from wanted a (drop a t) ≡ break_from (after wanted (word_at t a)) (a + 1) (drop (a + 1) t)
  break_stands h e =
      ap (break_from wanted a) (drop-cons t a 0 h)
      ∙ blocks.break_stands wanted a (word_at t a) (drop (suc a) t) e
      ∙ ap (λ (n : ℕ). break_from (after wanted (word_at t a)) (a + 1) (drop n t)) (sym (add-one a))

  pub break_ends : length t ≤ a → break_from wanted a (drop a t) ≡ at_end wanted a
  unfolding break_from
  break_ends h = rw (drop_of_length-le t h)

-- A scan from address 1 on that has come to a, where `wanted` may stand.
pub record Scanned (t : List ℕ) (wanted : Wanted) (a : ℕ) : Type 0 where
  pub same : break_from item 1 (drop 1 t) ≡ break_from wanted a (drop a t)
  pub nothing_read : length t ≡ 0 → wanted ≡ item

module _ {t : List ℕ} {a : ℕ} {wanted : Wanted} (scanned : Scanned t wanted a) where
  pub scan_stops :
      {kind : Kind} {b : Bool} →
      a < length t →
      kind ≡ kind_at t a →
      b ≡ can_stand wanted kind →
      b ≡ false →
      Some a ≡ break_from item 1 (drop 1 t)
  scan_stops h k e stops = sym (scanned.same ∙ break_stops t a wanted h (ap (can_stand wanted) (sym k) ∙ sym e ∙ stops))

  pub scan_stands :
      {kind : Kind} {b : Bool} {next : Wanted} →
      a < length t →
      kind ≡ kind_at t a →
      b ≡ can_stand wanted kind →
      b ≡ true →
      next ≡ after wanted (word_at t a) →
      Scanned t next (a + 1)
  scan_stands h k e stands n = record {
    same =
        scanned.same
        ∙ break_stands t a wanted h (ap (can_stand wanted) (sym k) ∙ sym e ∙ stands)
        ∙ ap (λ (w : Wanted). break_from w (a + 1) (drop (a + 1) t)) (sym n);
    nothing_read = λ z. absurd (omega arith);
  }

  pub scan_ends :
      {r : Option ℕ} →
      length t ≤ a →
      (1 ≤ length t → a ≤ length t) →
      r ≡ at_end wanted (length t) →
      r ≡ break_from item 1 (drop 1 t)
  unfolding at_end
  scan_ends h near e = e ∙ at_the_end (length t) refl ∙ sym (scanned.same ∙ break_ends t a wanted h)
    where
      at_the_end : (n : ℕ) → length t ≡ n → at_end wanted (length t) ≡ at_end wanted a
      at_the_end zero z = rw (scanned.nothing_read z)
      at_the_end (suc n) z = ap (at_end wanted) (omega arith)

pub one_less : (k : ℕ) → k - 1 ≡ less k
one_less zero = refl
one_less (suc k) = omega arith

pub break_only : {r s e : Option ℕ} → r ≡ e → s ≡ e → r ≡ s
break_only p q = p ∙ sym q
