-- What joining a row of pairs asks and answers. The sentences quoted are document 01's. Assumes nothing.
use Rattle.std.specs.Prelude.{◌≡◌, Result, Ok, Err, List, ◌++◌, ℕ, ◌+◌, ◌*◌, ◌≤◌, ◌<◌, length, take, drop}
use Rattle.words.specs.declared.numbers.PairNumber.{PairNumber}
use Rattle.rows.specs.Placed.{zeroed}
use Rattle.graphs.specs.Partition.{Pair, pairs_of, Sides, Clash, ClassTable}
use Rattle.table.specs.Table.{graph_of}
use Rattle.table.specs.Readable.{PassedCheck}

-- What a join asks: a table that passed its check; a class row that begins with the class table of the pairs joined earlier,
-- which have no clash; a list of nodes, with no more pairs than a pair number can count; and two entries of work for each word.
pub record Joinable (t : List ℕ) (earlier : List Pair) (list class : List ℕ) (work_room : ℕ) : Type 0 where
  pub passed : PassedCheck t
  pub class_room : length t ≤ length class
  pub work_enough : 2 * length t ≤ work_room
  pub earlier_sides : Sides (graph_of t) earlier
  pub class_table : ClassTable (graph_of t) earlier (take (length t) class)
  pub no_clash : Clash (graph_of t) earlier → ⊥
  pub sides : Sides (graph_of t) (pairs_of list)
  pub numbered : length list ≤ 131070

-- The class row begins with the class table of some earlier pairs.
abbrev pub CanJoin : List ℕ → List ℕ → List ℕ → ℕ → Type 0
CanJoin t list class work_room = (earlier : List Pair) × Joinable t earlier list class work_room

-- All pairs are joined: the row begins with the class table of the earlier pairs and these, and there is no clash.
pub record AllJoined (t : List ℕ) (earlier : List Pair) (list class class_after : List ℕ) : Type 0 where
  pub class_table : ClassTable (graph_of t) (earlier ++ pairs_of list) (take (length t) class_after)
  pub no_clash : Clash (graph_of t) (earlier ++ pairs_of list) → ⊥
  pub behind : drop (length t) class_after ≡ drop (length t) class

-- "Pairs are numbered from 1": the first clash comes with the pair at place i, and the class entries are 0.
pub record ClashAtPair (t : List ℕ) (earlier : List Pair) (list class : List ℕ) (number : ℕ) (class_after : List ℕ) : Type 0 where
  pub place : ℕ
  pub numbers : number ≡ place + 1
  pub inside : place < length (pairs_of list)
  pub clash : Clash (graph_of t) (earlier ++ take (place + 1) (pairs_of list))
  pub none_before : Clash (graph_of t) (earlier ++ take place (pairs_of list)) → ⊥
  pub cleared : class_after ≡ zeroed (length t) class

abbrev pub ByOutcome : List ℕ → List Pair → List ℕ → List ℕ → Result (Unit {0}) PairNumber → List ℕ → Type 0
ByOutcome t earlier list class (Ok done) class_after = AllJoined t earlier list class class_after
ByOutcome t earlier list class (Err k) class_after = ClashAtPair t earlier list class k.0 class_after

-- What a join answers and leaves, whatever pairs the row was the class table of. The work entries in use become 0.
pub record JoinOf (t list class work : List ℕ) (answer : Result (Unit {0}) PairNumber) (class_after work_after : List ℕ) : Type 0 where
  pub outcome : (earlier : List Pair) → Joinable t earlier list class (length work) → ByOutcome t earlier list class answer class_after
  pub cleared : work_after ≡ zeroed (2 * length t) work
