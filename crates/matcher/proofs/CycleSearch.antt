-- The search for cycles, over a class row that holds a class table, finds the cycles of the partition.
--
-- In order: entries of the row; it can be searched (`class_searchable`); an edge of its digraph is a step of classes (`edge_step`)
-- and, without a clash, a step of classes is an edge between names (`step_edge`); so what the search says is true of the
-- partition (`search_tells`). Assumes nothing.
use mathlib.Core.Path.{◌≡◌, sym, ap, ◌∙◌, subst}
use mathlib.Core.Bool.{Bool, true, false}
use mathlib.Core.List.{List}
use Prim.Native.Nat.{ℕ, ◌≤◌, ◌<◌}
use native.Mathlib.Omega.{arith}
use lib.ListN.{length, get_or, take}
use lib.Seq.{get_or-take}
use Rattle.graphs.specs.Graph.{symbol, Node, symbol_node, Child, Steps, one, more, WellFormed}
use Rattle.graphs.specs.Partition.{Pair, Sides, Same, itself, placed, Clash, ClassStep, entry, ClassTable}
use Rattle.graphs.proofs.Finite.{steps_map}
use Rattle.graphs.proofs.Classes.{child_at, same_nodes, together_one_entry, entry_together}
use Rattle.graphs.proofs.Unifiers.{name_symbol}
use Rattle.table.specs.Table.{graph_of, child_of}
use Rattle.table.specs.Readable.{PassedCheck}
use Rattle.table.proofs.Children.{NamedChild, named_child, degree_child}
use Rattle.cycles.specs.Digraph.{Edge, digraph_of, Returns, Searchable}
use Rattle.classes.proofs.Symbols.{child_node}
use Rattle.matcher.specs.Steps.PassedAll.{Cycles}

module _ {t : List ℕ} (class : List ℕ) {pairs : List Pair} (passed : PassedCheck t) (sides : Sides (graph_of t) pairs) (table : ClassTable (graph_of t) pairs (take (length t) class)) (room : length t ≤ length class) where
  wf : WellFormed (graph_of t)
  wf = passed.well_formed

  -- ---- entries of the row

  row_entry : (x : ℕ) → x < length t → entry class x ≡ entry (take (length t) class) x
  row_entry x h = sym (get_or-take (length t) class x 0 h)

  node_entry : {x : ℕ} → Node (graph_of t) x → entry class x ≡ entry (take (length t) class) x
  node_entry {x} n = row_entry x (wf.inside x n)

  with_name : {x : ℕ} → Node (graph_of t) x → Same (graph_of t) pairs x (entry class x)
  with_name {x} n = subst (Same (graph_of t) pairs x) (sym (node_entry n)) (entry_together wf sides table x n)

  one_name_lem : {x y : ℕ} → Same (graph_of t) pairs x y → entry class x ≡ entry class y
  one_name_lem {x} {y} s =
      let n : Node (graph_of t) x × Node (graph_of t) y = same_nodes wf sides s in
      node_entry n.0 ∙ together_one_entry wf sides table s ∙ sym (node_entry n.1)

  -- ---- the search's demands

  pub class_searchable : Searchable t class
  class_searchable =
      record {
        readable = passed.readable;
        row_room = room;
        name_inside = λ x i h. wf.inside (entry class (child_of t x i)) (same_nodes wf sides (with_name (child_node t wf x i h))).1;
        name_own = λ x i h. sym (one_name_lem (with_name (child_node t wf x i h)));
      }

  -- ---- edges and steps

  edge_step : (x y : ℕ) → Edge (digraph_of t class) x y → ClassStep (graph_of t) pairs x y
  edge_step x y (i, h, e) =
      let down : Child (graph_of t) x (child_of t x i) = degree_child t x i h in
      record {
        member = x;
        child = child_of t x i;
        from = itself (symbol_node down.1.stands);
        down = down;
        into = subst (Same (graph_of t) pairs (child_of t x i)) e (with_name (child_node t wf x i h));
      }

  child_edge : {x y : ℕ} → Child (graph_of t) x y → Edge (digraph_of t class) x (entry class y)
  child_edge {x} {y} d =
      let c : NamedChild t x y = named_child t x y d in
      (c.place, c.within, ap (entry class) c.is)

  module _ (no_clash : Clash (graph_of t) pairs → ⊥) where
    -- A step may go down from any member; the class's name has a child at the same place, in the same class.
    step_edge : {x y : ℕ} → ClassStep (graph_of t) pairs x y → Edge (digraph_of t class) (entry class x) (entry class y)
    step_edge {x} {y} step =
        let i : ℕ = step.down.0 in
        let d = step.down.1 in
        let m : Node (graph_of t) step.member = symbol_node d.stands in
        let named : (ys : List ℕ) × ((graph_of t).head (entry (take (length t) class) step.member) ≡ symbol d.named ys) = name_symbol wf sides table no_clash d.stands in
        let there : (graph_of t).head (entry class step.member) ≡ symbol d.named named.0 = ap (graph_of t).head (node_entry m) ∙ named.1 in
        let within : i < length named.0 = omega (arith, d.within, wf.counted step.member d.named d.children d.stands, wf.counted (entry class step.member) d.named named.0 there) in
        let beside : Same (graph_of t) pairs (get_or d.children i 0) (get_or named.0 i 0) = placed (with_name m) d.stands there i d.within within in
        let into : entry class (get_or named.0 i 0) ≡ entry class y = sym (one_name_lem beside) ∙ ap (entry class) d.is ∙ one_name_lem step.into in
        subst (λ (r : ℕ). Edge (digraph_of t class) r (entry class y)) (sym (one_name_lem step.from))
        (subst (λ (r : ℕ). Edge (digraph_of t class) (entry class step.member) r) into (child_edge (child_at there i within)))

    steps_edges : {x y : ℕ} → Steps (ClassStep (graph_of t) pairs) x y → Steps (Edge (digraph_of t class)) (entry class x) (entry class y)
    steps_edges (one s) = one (step_edge s)
    steps_edges (more s rest) = more (step_edge s) (steps_edges rest)

    -- What the search answers on the digraph is the truth on the partition.
    pub search_tells : (found : Bool) → Returns found (digraph_of t class) → Cycles found (graph_of t) pairs
    search_tells true (x, s) = (x, steps_map edge_step s)
    search_tells false none_returns = λ c. none_returns (entry class c.0) (steps_edges c.1)
