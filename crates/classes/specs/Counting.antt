-- What counting the joins asks of a class row. Assumes nothing.
use Rattle.std.specs.Prelude.{◌≡◌, List, ℕ, ◌<◌}
use Rattle.graphs.specs.Graph.{Symbols, nothing, Graph, Node}
use Rattle.graphs.specs.Partition.{entry}

-- The row names nodes and nothing else: an entry is 0 just where no node is. A row that begins with a class table does
-- (`front_names_nodes`, proofs/CountedJoins.antt).
pub record NamesNodes {S : Symbols} (G : Graph S) (row : List ℕ) : Type 0 where
  pub empty : (x : ℕ) → x < G.size → G.head x ≡ nothing → entry row x ≡ 0
  pub named : (x : ℕ) → Node G x → entry row x ≡ 0 → ⊥
