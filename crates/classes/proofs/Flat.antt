-- The forest made flat from the front: what holds between two turns, what a turn does, and how it ends. Assumes nothing.
use mathlib.Core.Path.{◌≡◌, refl, sym, ◌∙◌, subst}
use mathlib.Core.Logic.{◌⊎◌, inl, inr}
use mathlib.Core.List.{List}
use Prim.Native.Nat.{ℕ, ◌+◌, ◌≤◌, ◌<◌}
use native.Mathlib.Decide.{ℕ_discrete}
use native.Mathlib.Omega.{arith}
use lib.ListN.{length, set}
use lib.Seq.{get_or-set_same}
use Rattle.graphs.specs.Partition.{entry}
use Rattle.classes.specs.Steps.Forest.{Up, here, up, Forest, Shorter, Rooted, Led, Flattened}
use Rattle.classes.proofs.Links.{root_stops, shorter_none, shorter_join, shorter_forest, shorter_own, shorter_root, set_root}

-- no link, or one and then the rest
first_link : {row : List ℕ} {x y : ℕ} → Up row x y → (y ≡ x) ⊎ Up row (entry row x) y
first_link here = inl refl
first_link (up u) = inr u

-- an entry that is a root stays
pub root_kept : {t row after : List ℕ} {x : ℕ} → Forest t row → Shorter t row after → x < length t → entry row (entry row x) ≡ entry row x → entry after x ≡ entry row x
root_kept {t} {row} {after} {x} forest shorter h own = go (first_link (shorter.reached x h))
  where
    go : (entry after x ≡ x) ⊎ Up row (entry row x) (entry after x) → entry after x ≡ entry row x
    go (inl e) = e ∙ sym (shorter.own x h e)
    go (inr u) = root_stops own u

-- ---- one entry

pub led_already : {t row : List ℕ} {x above higher : ℕ} → above ≡ entry row x → higher ≡ entry row above → higher ≡ above → Led t row x row
led_already {row = row} above higher same =
    record { shorter = shorter_none; own = subst (λ (z : ℕ). entry row z ≡ z) above (sym higher ∙ same) }

module _ {t row : List ℕ} {x r : ℕ} {mid : List ℕ} (forest : Forest t row) (h : x < length t) (found : Rooted t row x r mid) where
  pub led_room : x < length mid
  led_room = omega (arith, found.shorter.long, forest.long)

  pub led_now : Led t row x (set mid x r)
  led_now =
      let w : Up mid x r × (entry mid r ≡ r) = shorter_root forest found.shorter h found.own found.reached in
      record {
        shorter = shorter_join forest found.shorter (set_root (shorter_forest forest found.shorter) h w.0 w.1);
        own = subst (λ (z : ℕ). entry row z ≡ z) (sym (get_or-set_same mid x r 0 led_room)) found.own;
      }

-- ---- one entry after the other

-- `row` is the row `before` with shorter links, and the first k entries are roots.
pub record Flat (t before row : List ℕ) (k : ℕ) : Type 0 where
  pub forest : Forest t before
  pub shorter : Shorter t before row
  pub roots : (x : ℕ) → x < k → entry before (entry row x) ≡ entry row x
  pub within : k ≤ length t

pub flat_none : {t row : List ℕ} → Forest t row → Flat t row row 0
flat_none forest = record { forest = forest; shorter = shorter_none; roots = λ x h. absurd (omega arith); within = omega arith }

module _ {t before row : List ℕ} {k : ℕ} (f : Flat t before row k) where
  pub flat_forest : Forest t row
  flat_forest = shorter_forest f.forest f.shorter

  pub flat_more : {after : List ℕ} → k < length t → Led t row k after → Flat t before after (k + 1)
  flat_more {after} h led =
      record {
        forest = f.forest;
        shorter = shorter_join f.forest f.shorter led.shorter;
        roots = λ x below. roots x below (ℕ_discrete x k);
        within = omega arith;
      }
    where
      own_row : (x : ℕ) → x < k → entry row (entry row x) ≡ entry row x
      own_row x below =
          shorter_own f.forest f.shorter (flat_forest.inside x (omega (arith, f.within))) (f.roots x below)

      own_k : entry before (entry after k) ≡ entry after k
      own_k = f.shorter.own _ ((shorter_forest flat_forest led.shorter).inside k h) led.own

      roots : (x : ℕ) → x < k + 1 → Dec (x ≡ k) → entry before (entry after x) ≡ entry after x
      roots x below (yes e) = subst (λ (z : ℕ). entry before (entry after z) ≡ entry after z) (sym e) own_k
      roots x below (no d) =
          subst (λ (z : ℕ). entry before z ≡ z) (sym (root_kept flat_forest led.shorter (omega (arith, f.within)) (own_row x (omega arith))))
          (f.roots x (omega arith))

  pub flat_all : length t ≤ k → Flattened t before row
  flat_all all =
      record {
        shorter = f.shorter;
        flat = λ x h. shorter_own f.forest f.shorter (flat_forest.inside x h) (f.roots x (omega arith));
      }
