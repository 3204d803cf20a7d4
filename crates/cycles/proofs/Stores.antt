-- One mark raised: what every move of the search does to the work row. `Raised` says it, `raised_mark` and `raised_push` show it
-- of the two ways to store, and `raised_grown` and `raised_less` have what it does to all marks. Assumes nothing.
use mathlib.Core.Path.{◌≡◌, refl, ap, ◌∙◌}
use mathlib.Core.List.{List}
use Prim.Native.Nat.{ℕ, ◌+◌, ◌-◌, ◌*◌, ◌≤◌, ◌<◌}
use native.Mathlib.Decide.{ℕ_discrete}
use native.Mathlib.Omega.{arith}
use lib.ListN.{length, set, drop, length-set}
use lib.Seq.{get_or-set_same, get_or-set_other, drop-set-lt}
use Rattle.cycles.specs.Digraph.{Digraph}
use Rattle.cycles.specs.Steps.Marks.{mark, finished_mark, on_path, news, Grown}
use Rattle.cycles.proofs.Totals.{left, total_one}

-- The mark of x is m and was at most that. The other marks, the path below `depth` and what is behind it are as they were.
pub record Raised (D : Digraph) (depth x m : ℕ) (before after : List ℕ) : Type 0 where
  pub inside : x < D.size
  pub new : mark after x ≡ m
  pub old : mark before x ≤ m
  pub others : (z : ℕ) → z < D.size → (z ≡ x → ⊥) → mark after z ≡ mark before z
  pub path : (k : ℕ) → k < depth → on_path D after k ≡ on_path D before k
  pub behind : drop (2 * D.size) after ≡ drop (2 * D.size) before
  pub long : length after ≡ length before

pub grown_none : {D : Digraph} {w : List ℕ} → Grown D w w
grown_none = record { long = refl; marks = λ x h. omega arith; behind = refl }

pub grown_join : {D : Digraph} {u v w : List ℕ} → Grown D u v → Grown D v w → Grown D u w
grown_join g h =
    record {
      long = h.long ∙ g.long;
      marks = λ x i. omega (arith, g.marks x i, h.marks x i);
      behind = h.behind ∙ g.behind;
    }

module _ (D : Digraph) (depth x : ℕ) (w : List ℕ) (inside : x < D.size) (room : 2 * D.size ≤ length w) where
  -- the mark alone is stored
  pub raised_mark : (m : ℕ) → mark w x ≤ m → Raised D depth x m w (set w x m)
  raised_mark m old =
      record {
        inside = inside;
        new = get_or-set_same w x m 0 (omega arith);
        old = old;
        others = λ z h other. get_or-set_other w x z m 0 other;
        path = λ k h. get_or-set_other w x (D.size + k) m 0 (λ e. omega arith);
        behind = drop-set-lt (2 * D.size) w x m (omega arith);
        long = length-set w x m;
      }

  -- the mark of a new vertex is stored, and the vertex on the path
  pub raised_push : depth < D.size → mark w x ≡ 0 → Raised D depth x 1 w (set (set w x 1) (D.size + depth) x)
  raised_push deep fresh =
      let w' : List ℕ = set w x 1 in
      let w'' : List ℕ = set w' (D.size + depth) x in
      let first : mark w' x ≡ 1 = get_or-set_same w x 1 0 (omega arith) in
      let kept : mark w'' x ≡ mark w' x = get_or-set_other w' (D.size + depth) x x 0 (λ e. omega arith) in
      record {
        inside = inside;
        new = kept ∙ first;
        old = omega arith;
        others = λ z h other. get_or-set_other w' (D.size + depth) z x 0 (λ e. omega arith) ∙ get_or-set_other w x z 1 0 other;
        path = λ k h. get_or-set_other w' (D.size + depth) (D.size + k) x 0 (λ e. omega arith) ∙ get_or-set_other w x (D.size + k) 1 0 (λ e. omega arith);
        behind = drop-set-lt (2 * D.size) w' (D.size + depth) x (omega arith) ∙ drop-set-lt (2 * D.size) w x 1 (omega arith);
        long = length-set w' (D.size + depth) x ∙ length-set w x 1;
      }

  pub pushed : depth < D.size → on_path D (set (set w x 1) (D.size + depth) x) depth ≡ x
  pushed deep = get_or-set_same (set w x 1) (D.size + depth) x 0 (omega (arith, length-set w x 1))

module _ {D : Digraph} {depth x m : ℕ} {w w' : List ℕ} (R : Raised D depth x m w w') where
  pub raised_grown : Grown D w w'
  raised_grown = record { long = R.long; marks = λ z h. go z h (ℕ_discrete z x); behind = R.behind }
    where
      go : (z : ℕ) → z < D.size → Dec (z ≡ x) → mark w z ≤ mark w' z
      go z h (yes e) = omega (arith, R.new, R.old, ap (mark w) e, ap (mark w') e)
      go z h (no e) = omega (arith, R.others z h e)

  fallen : left D w' + (finished_mark - mark w x) ≡ left D w + (finished_mark - mark w' x)
  fallen = total_one (λ y k. finished_mark - k) w w' x D.size R.inside R.others

  pub raised_at_most : left D w' ≤ left D w
  raised_at_most = omega (arith, fallen, R.new, R.old)

  pub raised_less : mark w x < m → mark w x < finished_mark → left D w' < left D w
  raised_less h i = omega (arith, fallen, R.new)

  pub raised_begun : 0 < mark w x → news D w' ≡ news D w
  raised_begun h = omega (arith, total_one (λ y k. 1 - k) w w' x D.size R.inside R.others, R.new, R.old)

  pub raised_new : mark w x ≡ 0 → 0 < m → news D w' + 1 ≡ news D w
  raised_new h i = omega (arith, total_one (λ y k. 1 - k) w w' x D.size R.inside R.others, R.new)
