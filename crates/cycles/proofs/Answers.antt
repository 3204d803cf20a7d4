-- The answers of the search: a vertex met again on the path reaches itself (`closed`); with all marks at 0 the search can start
-- (`start`); where every walk from a name ends, no vertex reaches itself (`none`). Assumes nothing.
use mathlib.Core.Path.{◌≡◌, sym, ap, ◌∙◌, subst}
use mathlib.Core.Bool.{true, false}
use mathlib.Core.List.{List}
use Prim.Native.Nat.{ℕ, zero, suc, ◌+◌, ◌-◌, ◌*◌, ◌≤◌, ◌<◌}
use native.Mathlib.Decide.{ℕ_discrete}
use native.Mathlib.Omega.{arith}
use lib.ListN.{length}
use Rattle.words.specs.Limits.{most_arguments}
use Rattle.graphs.specs.Graph.{Steps, one, more}
use Rattle.graphs.proofs.Finite.{steps_snoc}
use Rattle.cycles.specs.Digraph.{Digraph, Edge, Returns}
use Rattle.cycles.specs.Steps.Marks.{mark, finished_mark, on_path, Safe, safe, Search, Follows}
use Rattle.cycles.proofs.Totals.{news_all}
use Rattle.cycles.proofs.Moves.{finished_safe}

-- ---- a cycle

module _ {D : Digraph} {w : List ℕ} {depth : ℕ} (S : Search D w depth) where
  link : (k : ℕ) → k + 1 < depth → Edge D (on_path D w k) (on_path D w (k + 1))
  link k h =
      let follows : Follows D w (on_path D w k) (on_path D w (k + 1)) = S.linked k h in
      (mark w (on_path D w k) - 1, follows.more, follows.leads)

  -- a vertex on the path reaches those after it
  down : (k far : ℕ) → k + far + 1 < depth → Steps (Edge D) (on_path D w k) (on_path D w (k + far + 1))
  down k zero h = subst (λ (j : ℕ). Steps (Edge D) (on_path D w k) (on_path D w j)) (omega arith) (one (link k (omega arith)))
  down k (suc far) h =
      subst (λ (j : ℕ). Steps (Edge D) (on_path D w k) (on_path D w j)) (omega arith)
      (steps_snoc (down k far (omega arith)) (link (k + far + 1) (omega arith)))

  -- An edge from the end of the path to a vertex that is begun and not finished closes a cycle.
  pub closed : (x y : ℕ) → 0 < depth → on_path D w (depth - 1) ≡ x → Edge D x y → y < D.size
      → (mark w y ≡ 0 → ⊥) → (mark w y ≡ finished_mark → ⊥) → Returns true D
  closed x y some end edge inside begun unfinished =
      (y, go (S.whole y inside (omega arith) unfinished))
    where
      go : (k : ℕ) × (k < depth) × (on_path D w k ≡ y) → Steps (Edge D) y y
      go p = at_end_lem (ℕ_discrete p.0 (depth - 1))
        where
          at_end_lem : Dec (p.0 ≡ depth - 1) → Steps (Edge D) y y
          at_end_lem (yes e) =
              subst (λ (z : ℕ). Steps (Edge D) z y) (sym end ∙ ap (on_path D w) (sym e) ∙ p.2) (one edge)
          at_end_lem (no e) =
              let far : ℕ = depth - 1 - p.0 - 1 in
              let last : on_path D w (p.0 + far + 1) ≡ x = ap (on_path D w) (omega (arith, p.1)) ∙ end in
              let steps : Steps (Edge D) (on_path D w p.0) (on_path D w (p.0 + far + 1)) = down p.0 far (omega (arith, p.1)) in
              let from : Steps (Edge D) y (on_path D w (p.0 + far + 1)) = subst (λ (z : ℕ). Steps (Edge D) z (on_path D w (p.0 + far + 1))) p.2 steps in
              let to : Steps (Edge D) y x = subst (λ (z : ℕ). Steps (Edge D) y z) last from in
              steps_snoc to edge

-- ---- no cycle

-- where every walk ends, none comes back
pub safe_no_return : {D : Digraph} {x : ℕ} → Safe D x → Steps (Edge D) x x → ⊥
safe_no_return {D} {x} (safe ends) (one edge) = safe_no_return (ends x edge) (one edge)
safe_no_return {D} {x} (safe ends) (more {y = y} edge rest) = safe_no_return (ends y edge) (steps_snoc rest edge)

-- with all marks at 0 the search can start
pub start : (D : Digraph) (w : List ℕ) → 2 * D.size ≤ length w → ((x : ℕ) → D.count x ≤ most_arguments) → ((x : ℕ) → x < D.size → mark w x ≡ 0) → Search D w 0
start D w room few_edges zeros =
    record {
      room = room;
      few_edges = few_edges;
      few = omega (arith, news_all w D.size);
      seen = λ x i h j k. absurd (omega (arith, zeros x h));
      inside = λ k h. absurd (omega arith);
      begun = λ k h. absurd (omega arith);
      unfinished = λ k h. absurd (omega arith);
      linked = λ k h. absurd (omega arith);
      distinct = λ j k h i e. omega arith;
      whole = λ x h b u. absurd (omega (arith, zeros x h));
    }

-- From a vertex with no edges every walk ends.
pub no_edges_safe : (D : Digraph) (x : ℕ) → D.count x ≡ 0 → Safe D x
no_edges_safe D x none = safe {x = x} (λ y edge. absurd (omega (arith, edge.1)))

-- Where the path is empty, what is begun is finished.
pub begun_safe : {D : Digraph} {w : List ℕ} → Search D w 0 → (x : ℕ) → x < D.size → 0 < mark w x → Safe D x
begun_safe {D} {w} S x h b = go (ℕ_discrete (mark w x) finished_mark)
  where
    go : Dec (mark w x ≡ finished_mark) → Safe D x
    go (yes e) = finished_safe S x h e
    go (no u) = absurd (let p : (k : ℕ) × (k < 0) × (on_path D w k ≡ x) = S.whole x h b u in omega (arith, p.1))

-- Where every walk ends from each vertex to which an edge leads, no vertex reaches itself.
pub none : {D : Digraph} → ((x y : ℕ) → Edge D x y → Safe D y) → Returns false D
none {D} ends x (one edge) = safe_no_return (ends x x edge) (one edge)
none {D} ends x (more {y = y} edge rest) = safe_no_return (ends x y edge) (steps_snoc rest edge)
