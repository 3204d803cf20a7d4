-- The term graph: what the partition and the unifiers are about. It knows no words; a table of words gives one (crate `table`).
-- The sentences quoted are document 01's. Assumes nothing.
use Rattle.std.specs.Prelude.{◌≡◌, List, ℕ, ◌<◌, length, get_or}

-- "A symbol is a label with its argument count." Of a symbol the theory asks that equality can be decided, and the count.
pub record Symbols : Type 1 where
  pub Symbol : Type 0
  pub decide : Discrete Symbol
  pub count : Symbol → ℕ

-- What stands at an address: no node, a variable, or a symbol with its children in order. A variable is told apart by its
-- address, so nothing else is kept of it.
pub data Head (S : Symbols) : Type 0 where
  nothing : Head S
  variable : Head S
  symbol : S.Symbol → List ℕ → Head S

-- A term graph: the addresses are those below `size`.
pub record Graph (S : Symbols) : Type 0 where
  pub size : ℕ
  pub head : ℕ → Head S

-- "Those three kinds of word are the nodes": variables, and constants and functions, which have a symbol.
pub data Node {S : Symbols} (G : Graph S) (x : ℕ) : Type 0 where
  variable_node : G.head x ≡ variable → Node G x
  symbol_node : {s : S.Symbol} {children : List ℕ} → G.head x ≡ symbol s children → Node G x

-- y is the child of x at place i, places counted from 0: "The i-th child of a function".
pub record ChildAt {S : Symbols} (G : Graph S) (x i y : ℕ) : Type 0 where
  pub named : S.Symbol
  pub children : List ℕ
  pub stands : G.head x ≡ symbol named children
  pub within : i < length children
  pub is : get_or children i 0 ≡ y

-- y is a child of x, at some place.
abbrev pub Child : {S : Symbols} → Graph S → ℕ → ℕ → Type 0
Child G x y = (i : ℕ) × ChildAt G x i y

-- One step of R or more. "Reaches through children" is this, of the children.
pub data Steps (R : ℕ → ℕ → Type 0) : ℕ → ℕ → Type 0 where
  one : {x y : ℕ} → R x y → Steps R x y
  more : {x y z : ℕ} → R x y → Steps R y z → Steps R x z

-- What a table that passes its check gives: nodes stand below the size and not at 0; children are nodes, as many as the
-- symbol's count; "No node may reach itself through children."
pub record WellFormed {S : Symbols} (G : Graph S) : Type 0 where
  pub inside : (x : ℕ) → Node G x → x < G.size
  pub none_at_0 : Node G 0 → ⊥
  pub counted : (x : ℕ) (s : S.Symbol) (children : List ℕ) → G.head x ≡ symbol s children → length children ≡ S.count s
  pub child_node : (x y : ℕ) → Child G x y → Node G y
  pub no_loop : (x : ℕ) → Steps (Child G) x x → ⊥
