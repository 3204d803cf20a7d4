-- A turn of the search: it goes on from the vertex at the end of its path (`Going`) and passes over edges (`Turning`). The first turn
-- is that of a new vertex (`started_at`). How a turn ends is in proofs/GoingDown.antt and proofs/ComingBack.antt. Assumes nothing.
use mathlib.Core.Path.{◌≡◌, sym, ap, ◌∙◌, subst}
use mathlib.Core.List.{List}
use Prim.Native.Nat.{ℕ, ◌+◌, ◌-◌, ◌<◌}
use native.Mathlib.Omega.{arith}
use lib.ListN.{set}
use Rattle.cycles.specs.Digraph.{Digraph}
use Rattle.cycles.specs.Steps.Marks.{mark, on_path, Follows, Search, Grown, Over}
use Rattle.cycles.proofs.Totals.{left}
use Rattle.cycles.proofs.Stores.{raised_push, pushed}
use Rattle.cycles.proofs.Moves.{SearchMoved, begin, path_room}
use Rattle.cycles.proofs.Passing.{over_none, over_join}

-- The search with x at the end of its path, if there is one; and the edges of x from the first that its mark does not count up to
-- place i lead to vertices from which every walk ends.
pub record SearchGoing (D : Digraph) (w : List ℕ) (depth x i : ℕ) : Type 0 where
  pub search : Search D w depth
  pub end : 0 < depth → on_path D w (depth - 1) ≡ x
  pub over : 0 < depth → Over D x (mark w x - 1) i

-- A turn took the search from `before` to `after`.
pub record SearchTurned (D : Digraph) (before after : List ℕ) (depth x i : ℕ) : Type 0 where
  pub going : SearchGoing D after depth x i
  pub grown : Grown D before after
  pub less : left D after < left D before

-- A new vertex, to which the end of the path leads if there is one, is begun, and the search goes on from its first edge.
pub started_at : {D : Digraph} {w : List ℕ} {depth : ℕ} (S : Search D w depth) (y : ℕ) → y < D.size → mark w y ≡ 0
    → (0 < depth → Follows D w (on_path D w (depth - 1)) y) → SearchTurned D w (set (set w y 1) (D.size + depth) y) (depth + 1) y 0
started_at {D} {w} {depth} S y inside fresh follows =
    record {
      going = record { search = M.search; end = λ some. ap (on_path D w') (omega arith) ∙ last; over = λ some. none };
      grown = M.grown;
      less = M.less;
    }
  where
    w' : List ℕ
    w' = set (set w y 1) (D.size + depth) y

    M : SearchMoved D w w' (depth + 1)
    M = begin S y inside fresh follows

    last : on_path D w' depth ≡ y
    last = pushed D depth y w inside S.room (path_room S y inside fresh)

    first : mark w' y ≡ 1
    first = (raised_push D depth y w inside S.room (path_room S y inside fresh) fresh).new

    none : Over D y (mark w' y - 1) 0
    none = subst (λ (m : ℕ). Over D y (m - 1) 0) (sym first) (over_none (omega arith))

module _ {D : Digraph} {w : List ℕ} {depth x : ℕ} (S : Search D w depth) (some : 0 < depth) (end : on_path D w (depth - 1) ≡ x) where
  pub end_inside : x < D.size
  end_inside = omega (arith, S.inside (depth - 1) (omega arith))

  pub end_begun : 0 < mark w x
  end_begun = omega (arith, S.begun (depth - 1) (omega arith), ap (mark w) end)

-- The search passed over the edges of x, the end of its path, up to place j.
pub record Turning (D : Digraph) (w : List ℕ) (depth x j : ℕ) : Type 0 where
  pub search : Search D w depth
  pub some : 0 < depth
  pub end : on_path D w (depth - 1) ≡ x
  pub over : Over D x (mark w x - 1) j

pub turning : {D : Digraph} {w : List ℕ} {depth x i j : ℕ} → SearchGoing D w depth x i → 0 < depth → Over D x i j → Turning D w depth x j
turning G some over =
    record {
      search = G.search;
      some = some;
      end = G.end some;
      over = over_join (G.over some) over;
    }
