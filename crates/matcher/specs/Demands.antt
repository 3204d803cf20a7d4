-- The words in which the demands on a match are stated (proofs/Demands.antt). Assumes nothing.
use Rattle.std.specs.Prelude.{List, ℕ, ◌-◌, ◌≤◌, ◌<◌, length, take}
use Rattle.graphs.specs.Graph.{Symbols, Graph}
use Rattle.graphs.specs.Partition.{Pair}
use Rattle.graphs.specs.Term.{WellCounted, Replacement, Unifies}

-- Some replacement makes both sides of every pair equal.
abbrev pub Met : {S : Symbols} → Graph S → List Pair → Type 0
Met {S} G pairs = (θ : Replacement S) × Unifies G pairs θ

-- The same, with terms in which each symbol has as many arguments as it counts.
abbrev pub MetCounted : {S : Symbols} → Graph S → List Pair → Type 0
MetCounted {S} G pairs = (θ : Replacement S) × ((x : ℕ) → WellCounted (θ x)) × Unifies G pairs θ

-- The first k pairs cannot be met, and the first k - 1 can.
pub record FirstUnmet {S : Symbols} (G : Graph S) (pairs : List Pair) (k : ℕ) : Type 0 where
  pub from_1 : 0 < k
  pub within : k ≤ length pairs
  pub unmet : Met G (take k pairs) → ⊥
  pub met_before : Met G (take (k - 1) pairs)
