-- What the joins of a list's pairs, one after the other, promise. Assumes nothing.
use Rattle.std.specs.Prelude.{◌≡◌, Result, Ok, Err, List, [], ◌∷◌, ◌++◌, ℕ, ◌+◌, ◌≤◌, ◌<◌, length, take}
use Rattle.words.specs.declared.numbers.PairNumber.{PairNumber}
use Rattle.graphs.specs.Partition.{Pair, pairs_of, Sides, Clash}
use Rattle.table.specs.Table.{graph_of}
use Rattle.classes.specs.declared.meet.Clash.{Clash as ClashMet}
use Rattle.classes.specs.Steps.Meeting.{State, Config, Within, Complete, RestKept, Settled}

-- What the join of one pair does, with no pair waiting before and after.
abbrev pub JoinsPair : List ℕ → List ℕ → List ℕ → ℕ → ℕ → List ℕ → List ℕ → Result (Unit {0}) ClashMet → Type 0
JoinsPair t row work left right row_after work_after answer =
    (owed : List Pair) → Settled t (record { row = row; work = work; waiting = 0; owed = record { left = left; right = right } ∷ owed }) row_after work_after owed answer

-- rows between two pairs
abbrev pub resting : List ℕ → List ℕ → Config
resting row work = record { row = row; work = work; waiting = 0; owed = [] }

-- The rows hold the partition of these pairs, and nothing else.
pub record Holding (t : List ℕ) (pairs : List Pair) (row work : List ℕ) : Type 0 where
  pub within : Within t pairs (resting row work)
  pub complete : Complete t pairs (resting row work)

-- The pairs before place i are joined.
pub record JoinedBefore (t list row₀ work₀ row work : List ℕ) (i : ℕ) : Type 0 where
  pub inside : i ≤ length (pairs_of list)
  pub state : State t row work 0
  pub kept : RestKept t (resting row₀ work₀) (resting row work)
  pub holding : (earlier : List Pair) → Holding t earlier row₀ work₀ → Holding t (earlier ++ take i (pairs_of list)) row work

-- The pair at place i is the first that clashes with those before it.
pub record ClashesAt (t list row₀ work₀ row work : List ℕ) (i : ℕ) : Type 0 where
  pub inside : i < length (pairs_of list)
  pub kept : RestKept t (resting row₀ work₀) (resting row work)
  pub clash : (earlier : List Pair) → Holding t earlier row₀ work₀ → Clash (graph_of t) (earlier ++ take (i + 1) (pairs_of list))
  pub none_before : (earlier : List Pair) → Sides (graph_of t) earlier → Holding t earlier row₀ work₀ → Clash (graph_of t) (earlier ++ take i (pairs_of list)) → ⊥

-- What comes of the pairs of a list: all are joined, or the pair of a number, from 1, is the first that clashes.
pub data EachJoined (t list row₀ work₀ row work : List ℕ) : Result (Unit {0}) PairNumber → Type 0 where
  each_joined : {done : Unit {0}} → JoinedBefore t list row₀ work₀ row work (length (pairs_of list)) → EachJoined t list row₀ work₀ row work (Ok done)
  one_clashes : {i : ℕ} {k : PairNumber} → k.0 ≡ i + 1 → ClashesAt t list row₀ work₀ row work i → EachJoined t list row₀ work₀ row work (Err k)
