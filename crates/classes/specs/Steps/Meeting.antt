-- What the steps of a join promise each other. A state is the class row as a forest, and the pairs of functions that wait in
-- the work row for their children to meet. Assumes nothing.
use Rattle.std.specs.Prelude.{◌≡◌, Result, Ok, Err, List, [], ◌∷◌, ◌++◌, ℕ, zero, suc, ◌+◌, ◌*◌, ◌≤◌, ◌<◌, length, get_or, drop}
use Rattle.graphs.specs.Graph.{nothing, symbol, Node}
use Rattle.graphs.specs.Partition.{Pair, ◌∈◌, Same, Clash, entry, classes, key}
use Rattle.table.specs.Table.{TableSymbols, graph_of, degree, child_of}
use Rattle.classes.specs.Steps.Forest.{Forest}
use Rattle.classes.specs.declared.meet.Clash.{Clash as ClashMet}

-- the two functions of a waiting pair
abbrev pub waiting_left : List ℕ → ℕ → ℕ
waiting_left work k = get_or work (2 * k) 0

abbrev pub waiting_right : List ℕ → ℕ → ℕ
waiting_right work k = get_or work (2 * k + 1) 0

-- f and g are nodes with one symbol
pub record OneSymbol (t : List ℕ) (f g : ℕ) : Type 0 where
  pub named : TableSymbols.Symbol
  pub left_children : List ℕ
  pub right_children : List ℕ
  pub left_head : (graph_of t).head f ≡ symbol named left_children
  pub right_head : (graph_of t).head g ≡ symbol named right_children

-- ---- what holds between two steps

-- Nodes hang under nodes, a node with a symbol under one with that symbol, and what is no node has entry 0. Waiting pairs have
-- one symbol, and there is room for one more as long as two classes are left to be joined.
pub record State (t row work : List ℕ) (waiting : ℕ) : Type 0 where
  pub forest : Forest t row
  pub node_up : (x : ℕ) → Node (graph_of t) x → Node (graph_of t) (entry row x)
  pub empty : (x : ℕ) → x < length t → (graph_of t).head x ≡ nothing → entry row x ≡ 0
  pub symbol_up : (x : ℕ) {s : TableSymbols.Symbol} {xs : List ℕ} → (graph_of t).head x ≡ symbol s xs → OneSymbol t x (entry row x)
  pub work_room : 2 * length t ≤ length work
  pub few : classes (graph_of t) row + waiting ≤ length t
  pub waits : (k : ℕ) → k < waiting → OneSymbol t (waiting_left work k) (waiting_right work k)

-- The rows, how many pairs wait in the work row, and which pairs are still to meet.
pub record Config : Type 0 where
  pub row : List ℕ
  pub work : List ℕ
  pub waiting : ℕ
  pub owed : List Pair

-- All that is joined or is to be joined is together by `pairs`.
pub record Within (t : List ℕ) (pairs : List Pair) (c : Config) : Type 0 where
  pub links : (x : ℕ) → Node (graph_of t) x → Same (graph_of t) pairs x (entry c.row x)
  pub waiting : (k : ℕ) → k < c.waiting → Same (graph_of t) pairs (waiting_left c.work k) (waiting_right c.work k)
  pub owed : (p : Pair) → p ∈ c.owed → Same (graph_of t) pairs p.left p.right

-- A labelling agrees on all that is joined or is to be joined.
pub record Agrees (t : List ℕ) (c : Config) (q : ℕ → ℕ) : Type 0 where
  pub links : (x : ℕ) → Node (graph_of t) x → q x ≡ q (entry c.row x)
  pub waiting : (k i : ℕ) → k < c.waiting → i < degree t (waiting_left c.work k) → q (child_of t (waiting_left c.work k) i) ≡ q (child_of t (waiting_right c.work k) i)
  pub owed : (p : Pair) → p ∈ c.owed → q p.left ≡ q p.right

-- Nothing is forgotten: a labelling that agrees on all that is joined or is to be joined agrees on the pairs that are done, and
-- on the children of each node and of the node that it hangs under, place by place.
pub record Complete (t : List ℕ) (done : List Pair) (c : Config) : Type 0 where
  pub pairs : (q : ℕ → ℕ) → Agrees t c q → (p : Pair) → p ∈ done → q p.left ≡ q p.right
  pub children : (q : ℕ → ℕ) → Agrees t c q → (x i : ℕ) → i < degree t x → q (child_of t x i) ≡ q (child_of t (entry c.row x) i)

-- ---- what a step does

-- what of the lent rows is not used stays
pub record RestKept (t : List ℕ) (before after : Config) : Type 0 where
  pub row_long : length after.row ≡ length before.row
  pub work_long : length after.work ≡ length before.work
  pub row_behind : drop (length t) after.row ≡ drop (length t) before.row
  pub work_behind : drop (2 * length t) after.work ≡ drop (2 * length t) before.work

-- how much is left to do: each join takes one class away and lets at most one pair wait
abbrev pub to_do : List ℕ → Config → ℕ
to_do t c = 2 * classes (graph_of t) c.row + c.waiting

-- A step went on: nothing was joined without a ground, and nothing was forgotten.
pub record Moved (t : List ℕ) (before after : Config) : Type 0 where
  pub state : State t after.row after.work after.waiting
  pub within : (pairs : List Pair) → Within t pairs before → Within t pairs after
  pub complete : (done : List Pair) → Complete t done before → Complete t done after
  pub less : to_do t after ≤ to_do t before
  pub kept : RestKept t before after

-- A step met a clash.
pub record Stopped (t : List ℕ) (before : Config) (row work : List ℕ) : Type 0 where
  pub clash : (pairs : List Pair) → Within t pairs before → Clash (graph_of t) pairs
  pub kept : RestKept t before (record { row = row; work = work; waiting = 0; owed = [] })

-- What a step does: it went on, with `waiting` pairs that wait and `owed` still to meet, or it met a clash.
pub data Turned (t : List ℕ) (before : Config) (row work : List ℕ) (owed : List Pair) : Result ℕ ClashMet → Type 0 where
  went_on : {waiting : ℕ} → Moved t before (record { row = row; work = work; waiting = waiting; owed = owed }) → Turned t before row work owed (Ok waiting)
  clashed : {met : ClashMet} → Stopped t before row work → Turned t before row work owed (Err met)

-- the children of f and g at k places from i on, as pairs
unfoldable pub child_pairs : List ℕ → ℕ → ℕ → ℕ → ℕ → List Pair
child_pairs t f g i zero = []
child_pairs t f g i (suc k) = record { left = child_of t f i; right = child_of t g i } ∷ child_pairs t f g (suc i) k

-- What a meeting of two nodes does, whatever other pairs are still to meet.
abbrev pub Meets : List ℕ → List ℕ → List ℕ → ℕ → ℕ → ℕ → List ℕ → List ℕ → Result ℕ ClashMet → Type 0
Meets t row work waiting a b row_after work_after turn =
    (owed : List Pair) → Turned t (record { row = row; work = work; waiting = waiting; owed = record { left = a; right = b } ∷ owed }) row_after work_after owed turn

-- What the meeting of the children of two functions does.
abbrev pub GoesDown : List ℕ → List ℕ → List ℕ → ℕ → ℕ → ℕ → List ℕ → List ℕ → Result ℕ ClashMet → Type 0
GoesDown t row work waiting f g row_after work_after turn =
    (owed : List Pair) → Turned t (record { row = row; work = work; waiting = waiting; owed = child_pairs t f g 0 (degree t f) ++ owed }) row_after work_after owed turn

-- What is done until no pair waits: all is joined, or there was a clash.
pub data Settled (t : List ℕ) (before : Config) (row work : List ℕ) (owed : List Pair) : Result (Unit {0}) ClashMet → Type 0 where
  all_joined : {done : Unit {0}} → Moved t before (record { row = row; work = work; waiting = 0; owed = owed }) → Settled t before row work owed (Ok done)
  clash_met : {met : ClashMet} → Stopped t before row work → Settled t before row work owed (Err met)

abbrev pub Settles : List ℕ → List ℕ → List ℕ → ℕ → List ℕ → List ℕ → Result (Unit {0}) ClashMet → Type 0
Settles t row work waiting row_after work_after answer =
    (owed : List Pair) → Settled t (record { row = row; work = work; waiting = waiting; owed = owed }) row_after work_after owed answer

-- two different roots
pub record Roots (t row : List ℕ) (a b : ℕ) : Type 0 where
  pub left_node : Node (graph_of t) a
  pub right_node : Node (graph_of t) b
  pub left_own : entry row a ≡ a
  pub right_own : entry row b ≡ b
  pub different : a ≡ b → ⊥

-- two roots, the first of which comes earlier in the naming order
pub record Ordered (t row : List ℕ) (name later : ℕ) : Type 0 where
  pub name_node : Node (graph_of t) name
  pub later_node : Node (graph_of t) later
  pub name_own : entry row name ≡ name
  pub later_own : entry row later ≡ later
  pub lower : key (graph_of t) name < key (graph_of t) later
