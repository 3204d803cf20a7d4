-- The class row as a forest: while pairs are joined, an entry is a link to a node of the same class that comes earlier in the
-- naming order, and a node that is its own entry is a root. A root is the first of its class in the naming order, so it is the
-- name of its class. Assumes nothing.
use Rattle.std.specs.Prelude.{◌≡◌, ◌⊎◌, List, ℕ, ◌≤◌, ◌<◌, length, drop}
use Rattle.graphs.specs.Partition.{entry, key}
use Rattle.table.specs.Table.{graph_of}

-- y is reached from x along links: none, one or more
pub data Up (row : List ℕ) : ℕ → ℕ → Type 0 where
  here : {x : ℕ} → Up row x x
  up : {x y : ℕ} → Up row (entry row x) y → Up row x y

-- Links stay inside the table and fall in the naming order, so a walk along them ends.
pub record Forest (t row : List ℕ) : Type 0 where
  pub long : length t ≤ length row
  pub inside : (x : ℕ) → x < length t → entry row x < length t
  pub falls : (x : ℕ) → x < length t → (entry row x ≡ x) ⊎ (key (graph_of t) (entry row x) < key (graph_of t) x)

-- Links are shortened: each entry is now one that was reached along links before, and the roots are the same.
pub record Shorter (t row after : List ℕ) : Type 0 where
  pub long : length after ≡ length row
  pub reached : (x : ℕ) → x < length t → Up row x (entry after x)
  pub own : (x : ℕ) → x < length t → entry after x ≡ x → entry row x ≡ x
  pub behind : drop (length t) after ≡ drop (length t) row

-- r is the root of x, and links were shortened on the way.
pub record Rooted (t row : List ℕ) (x r : ℕ) (after : List ℕ) : Type 0 where
  pub inside : r < length t
  pub reached : Up row x r
  pub own : entry row r ≡ r
  pub shorter : Shorter t row after

-- The entry of x is a root, and links were shortened on the way.
pub record Led (t row : List ℕ) (x : ℕ) (after : List ℕ) : Type 0 where
  pub shorter : Shorter t row after
  pub own : entry row (entry after x) ≡ entry after x

-- Each entry is a root: what the links lead to stands in the row at once.
pub record Flattened (t row after : List ℕ) : Type 0 where
  pub shorter : Shorter t row after
  pub flat : (x : ℕ) → x < length t → entry after (entry after x) ≡ entry after x
