-- What the search for cycles asks and answers: whether some vertex of a digraph reaches itself. A table under a class row makes a
-- digraph; where each node is its own class, a cycle of it is a loop of the table. Assumes nothing.
use Rattle.std.specs.Prelude.{◌≡◌, Bool, true, false, List, ℕ, ◌*◌, ◌≤◌, ◌<◌, length}
use Rattle.rows.specs.Placed.{zeroed}
use Rattle.graphs.specs.Graph.{Steps}
use Rattle.graphs.specs.Partition.{entry}
use Rattle.table.specs.Table.{degree, child_of}
use Rattle.table.specs.Readable.{Readable}

-- A digraph: vertices below `size`; from x lead `count x` edges, the i-th of them, from 0, to `next x i`.
pub record Digraph : Type 0 where
  pub size : ℕ
  pub count : ℕ → ℕ
  pub next : ℕ → ℕ → ℕ

-- an edge leads from x to y
abbrev pub Edge : Digraph → ℕ → ℕ → Type 0
Edge D x y = (i : ℕ) × (i < D.count x) × (D.next x i ≡ y)

-- The digraph of a table under a flat class row: from a function an edge leads to the name of each of its children's classes.
abbrev pub digraph_of : List ℕ → List ℕ → Digraph
digraph_of t row = record { size = length t; count = degree t; next = λ x i. entry row (child_of t x i) }

-- "No node may reach itself through children", "a class that reaches itself through children": true says that some vertex
-- reaches itself, false that none does.
abbrev pub Returns : Bool → Digraph → Type 0
Returns true D = (x : ℕ) × Steps (Edge D) x x
Returns false D = (x : ℕ) → Steps (Edge D) x x → ⊥

-- What the search asks of table and class row: the table can be read, and in the row the name of each child's class is the
-- address of a word and its own entry.
pub record Searchable (t row : List ℕ) : Type 0 where
  pub readable : Readable t
  pub row_room : length t ≤ length row
  pub name_inside : (x i : ℕ) → i < degree t x → entry row (child_of t x i) < length t
  pub name_own : (x i : ℕ) → i < degree t x → entry row (entry row (child_of t x i)) ≡ entry row (child_of t x i)

-- What the search answers: the truth on the digraph, with the work entries that it used at zero and the others as they were.
pub record Searched (t row before : List ℕ) (answer : Bool) (after : List ℕ) : Type 0 where
  pub truth : Returns answer (digraph_of t row)
  pub cleared : after ≡ zeroed (2 * length t) before
