-- The walk to a root that halves its path: what holds between two turns, what a turn does, and how it ends. Assumes nothing.
use mathlib.Core.Path.{◌≡◌, sym, ap, ◌∙◌, subst}
use mathlib.Core.Logic.{◌⊎◌, inl, inr}
use mathlib.Core.List.{List}
use Prim.Native.Nat.{ℕ, ◌≤◌, ◌<◌}
use native.Mathlib.Omega.{arith}
use lib.ListN.{length, set}
use Rattle.graphs.specs.Partition.{entry, key}
use Rattle.table.specs.Table.{graph_of}
use Rattle.classes.specs.Steps.Forest.{Up, here, up, Forest, Shorter, Rooted}
use Rattle.classes.proofs.Links.{up_join, up_key, up_back, shorter_none, halved, shorter_up, shorter_forest, shorter_join}

-- The walk from x came to `at`, whose entry is `above`; `row` is the row `before` with shorter links.
pub record Climb (t before row : List ℕ) (x at above : ℕ) : Type 0 where
  pub forest : Forest t before
  pub start : x < length t
  pub shorter : Shorter t before row
  pub reached : Up before x at
  pub next : above ≡ entry row at
  pub at_inside : at < length t
  pub above_inside : above < length t
  pub room : length t ≤ length row

pub climb_none : {t row : List ℕ} {x above : ℕ} → Forest t row → x < length t → above ≡ entry row x → Climb t row row x x above
climb_none {t} {row} {x} {above} forest h e =
    record {
      forest = forest;
      start = h;
      shorter = shorter_none;
      reached = here;
      next = e;
      at_inside = h;
      above_inside = omega (arith, forest.inside x h);
      room = forest.long;
    }

module _ {t before row : List ℕ} {x at above : ℕ} (c : Climb t before row x at above) where
  now_forest : Forest t row
  now_forest = shorter_forest c.forest c.shorter

  two_up : {higher : ℕ} → higher ≡ entry row above → higher ≡ entry row (entry row at)
  two_up e = e ∙ ap (entry row) c.next

  pub climb_higher : {higher : ℕ} → higher ≡ entry row above → higher < length t
  climb_higher e = omega (arith, now_forest.inside above c.above_inside)

  pub climb_more : {higher over : ℕ} → higher ≡ entry row above → over ≡ entry (set row at higher) higher → Climb t before (set row at higher) x higher over
  climb_more {higher} {over} e f =
      let cut : Shorter t row (set row at higher) = subst (λ (z : ℕ). Shorter t row (set row at z)) (sym (two_up e)) (halved now_forest c.at_inside) in
      let all : Shorter t before (set row at higher) = shorter_join c.forest c.shorter cut in
      let after : Forest t (set row at higher) = shorter_forest c.forest all in
      record {
        forest = c.forest;
        start = c.start;
        shorter = all;
        reached = up_join c.reached (shorter_up c.forest c.shorter c.at_inside (subst (Up row at) (sym (two_up e)) (up (up here))));
        next = f;
        at_inside = climb_higher e;
        above_inside = omega (arith, after.inside higher (climb_higher e));
        room = after.long;
      }

  pub climb_less : {higher : ℕ} → (above ≡ at → ⊥) → higher ≡ entry row above → key (graph_of t) higher < key (graph_of t) at
  climb_less {higher} other e = go (up_key now_forest c.at_inside (up (up here)))
    where
      go : (entry row (entry row at) ≡ at) ⊎ (key (graph_of t) (entry row (entry row at)) < key (graph_of t) at) → key (graph_of t) higher < key (graph_of t) at
      go (inl f) = absurd (other (c.next ∙ up_back now_forest c.at_inside (subst (Up row (entry row at)) f (up here))))
      go (inr l) = omega (arith, ap (key (graph_of t)) (two_up e))

  pub climb_end : above ≡ at → Rooted t before x at row
  climb_end e =
      record {
        inside = c.at_inside;
        reached = c.reached;
        own = c.shorter.own at c.at_inside (sym c.next ∙ e);
        shorter = c.shorter;
      }
