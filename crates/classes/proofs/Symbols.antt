-- Nodes with a symbol, by the words of the table: what has a child has one, and two nodes with one symbol have as many children.
-- Assumes nothing.
use mathlib.Core.Path.{◌≡◌, sym, ◌∙◌, subst}
use mathlib.Core.List.{List}
use Prim.Native.Nat.{ℕ, ◌<◌}
use native.Mathlib.Omega.{arith}
use lib.ListN.{length, get_or}
use Rattle.graphs.specs.Graph.{nothing, symbol, Node, Child, WellFormed}
use Rattle.graphs.specs.Partition.{Pair, Same, placed}
use Rattle.table.specs.Table.{TableSymbols, head_of, graph_of, degree, child_of}
use Rattle.table.specs.Readable.{Readable}
use Rattle.table.proofs.Children.{kind_head, symbol_count, symbol_length, symbol_child, degree_child}
use Rattle.table.proofs.Readable.{kind_0}
use Rattle.classes.specs.Steps.Meeting.{OneSymbol}

-- what has a child has a symbol
pub head_of_degree : (t : List ℕ) (x i : ℕ) → i < degree t x → (s : TableSymbols.Symbol) × (xs : List ℕ) × ((graph_of t).head x ≡ symbol s xs)
head_of_degree t x i h = let c : Child (graph_of t) x (child_of t x i) = degree_child t x i h in (c.1.named, c.1.children, c.1.stands)

pub head_0 : (t : List ℕ) → Readable t → (graph_of t).head 0 ≡ nothing
unfolding head_of
head_0 t readable = kind_head t 0 (kind_0 readable)

module _ (t : List ℕ) (wf : WellFormed (graph_of t)) where
  pub child_node : (x i : ℕ) → i < degree t x → Node (graph_of t) (child_of t x i)
  child_node x i h = wf.child_node x (child_of t x i) (degree_child t x i h)

  module _ {f g : ℕ} (one : OneSymbol t f g) where
    pub one_symbol_degree : degree t f ≡ degree t g
    one_symbol_degree = sym (symbol_count t f one.left_head) ∙ symbol_count t g one.right_head

    pub one_symbol_children : {pairs : List Pair} (i : ℕ) → i < degree t f → Same (graph_of t) pairs f g → Same (graph_of t) pairs (child_of t f i) (child_of t g i)
    one_symbol_children {pairs} i h same =
        let left : i < length one.left_children = omega (arith, symbol_length t f one.left_head) in
        let beside : i < degree t g = omega (arith, one_symbol_degree) in
        let right : i < length one.right_children = omega (arith, symbol_length t g one.right_head) in
        subst (λ (y : ℕ). Same (graph_of t) pairs y (child_of t g i)) (symbol_child t f one.left_head i h)
        (subst (Same (graph_of t) pairs (get_or one.left_children i 0)) (symbol_child t g one.right_head i beside)
        (placed same one.left_head one.right_head i left right))
