-- The partition that a list of pairs makes: classes, clash, cycle, names, the class table and the joins.
-- The sentences quoted are document 01's. Assumes nothing.
use Rattle.std.specs.Prelude.{◌≡◌, Bool, true, false, cond, ◌&&◌, ℕ, zero, suc, ◌+◌, ◌-◌, ◌≤◌, ◌<◌, eqb, length, get_or}
use mathlib.Core.List.{List, [], ◌∷◌, Memᴰ}
use Rattle.graphs.specs.Graph.{Symbols, Head, nothing, variable, symbol, Graph, Node, Child, Steps}

-- "A list holds 0 to 256 pairs, as 16-bit addresses: left, right, left, right." The theory takes a list of any length.
pub record Pair : Type 0 where
  pub left : ℕ
  pub right : ℕ

-- the pairs of a row of addresses; an entry that has no partner is dropped, which only a refused list has
unfoldable pub pairs_of : List ℕ → List Pair
pairs_of [] = []
pairs_of (l ∷ []) = []
pairs_of (l ∷ r ∷ rest) = record { left = l; right = r } ∷ pairs_of rest

infix 40 ◌∈◌
abbrev pub ◌∈◌ : Pair → List Pair → Type 0
p ∈ pairs = Memᴰ p pairs

-- Both sides of every pair are nodes: what answer 9 refuses otherwise.
abbrev pub Sides : {S : Symbols} → Graph S → List Pair → Type 0
Sides G pairs = (p : Pair) → p ∈ pairs → Node G p.left × Node G p.right

-- "The partition is the smallest equivalence on nodes in which both sides of each pair are together and, where two functions
-- with one symbol are together, their children are together place by place." A constructor for each clause.
pub data Same {S : Symbols} (G : Graph S) (pairs : List Pair) : ℕ → ℕ → Type 0 where
  itself : {x : ℕ} → Node G x → Same G pairs x x
  swapped : {x y : ℕ} → Same G pairs x y → Same G pairs y x
  through : {x y z : ℕ} → Same G pairs x y → Same G pairs y z → Same G pairs x z
  paired : (p : Pair) → p ∈ pairs → Same G pairs p.left p.right
  placed : {x y : ℕ} {s : S.Symbol} {xs ys : List ℕ} → Same G pairs x y → G.head x ≡ symbol s xs → G.head y ≡ symbol s ys
      → (i : ℕ) → i < length xs → i < length ys → Same G pairs (get_or xs i 0) (get_or ys i 0)

-- An equivalence on nodes that has the pairs and is closed place by place. `Same` is the smallest of these
-- (`same_closed` and `same_smallest`, proofs/Theorems.antt).
pub record Closed {S : Symbols} (G : Graph S) (pairs : List Pair) (E : ℕ → ℕ → Type 0) : Type 0 where
  pub reflexive : (x : ℕ) → Node G x → E x x
  pub symmetric : (x y : ℕ) → E x y → E y x
  pub transitive : (x y z : ℕ) → E x y → E y z → E x z
  pub has_pairs : (p : Pair) → p ∈ pairs → E p.left p.right
  pub has_children : (x y : ℕ) (s : S.Symbol) (xs ys : List ℕ) → E x y → G.head x ≡ symbol s xs → G.head y ≡ symbol s ys
      → (i : ℕ) → i < length xs → i < length ys → E (get_or xs i 0) (get_or ys i 0)

-- "The partition is the smallest equivalence on nodes" of this kind.
pub record Smallest {S : Symbols} (G : Graph S) (pairs : List Pair) (E : ℕ → ℕ → Type 0) : Type 1 where
  pub closed : Closed G pairs E
  pub least : (F : ℕ → ℕ → Type 0) → Closed G pairs F → (x y : ℕ) → E x y → F x y

-- "A clash is two non-variable nodes together with different symbols."
pub record Clash {S : Symbols} (G : Graph S) (pairs : List Pair) : Type 0 where
  pub left : ℕ
  pub right : ℕ
  pub together : Same G pairs left right
  pub left_symbol : S.Symbol
  pub left_children : List ℕ
  pub right_symbol : S.Symbol
  pub right_children : List ℕ
  pub left_head : G.head left ≡ symbol left_symbol left_children
  pub right_head : G.head right ≡ symbol right_symbol right_children
  pub different : left_symbol ≡ right_symbol → ⊥

-- A member of x's class has a child in y's class.
pub record ClassStep {S : Symbols} (G : Graph S) (pairs : List Pair) (x y : ℕ) : Type 0 where
  pub member : ℕ
  pub child : ℕ
  pub from : Same G pairs x member
  pub down : Child G member child
  pub into : Same G pairs child y

-- "A cycle is a class that reaches itself through children."
abbrev pub Cycle : {S : Symbols} → Graph S → List Pair → Type 0
Cycle G pairs = (x : ℕ) × Steps (ClassStep G pairs) x x

-- x's class holds variables only.
abbrev pub VariablesOnly : {S : Symbols} → Graph S → List Pair → ℕ → Type 0
VariablesOnly G pairs x = (y : ℕ) → Same G pairs x y → G.head y ≡ variable

-- "A class is named by its lowest non-variable address; a class of variables only, by its lowest address."
pub data Named {S : Symbols} (G : Graph S) (pairs : List Pair) (x name : ℕ) : Type 0 where
  by_non_variable : {s : S.Symbol} {children : List ℕ} → Same G pairs x name → G.head name ≡ symbol s children
      → ((y : ℕ) (t : S.Symbol) (ys : List ℕ) → Same G pairs x y → G.head y ≡ symbol t ys → name ≤ y) → Named G pairs x name
  by_variable : Same G pairs x name → VariablesOnly G pairs x → ((y : ℕ) → Same G pairs x y → name ≤ y) → Named G pairs x name

unfoldable pub key_of : {S : Symbols} → ℕ → ℕ → Head S → ℕ
key_of n x nothing = n + x
key_of n x variable = n + x
key_of n x (symbol s xs) = x

-- The order in which nodes name a class, as a number: non-variables before variables, and then by address.
unfoldable pub key : {S : Symbols} → Graph S → ℕ → ℕ
key G x = key_of G.size x (G.head x)

-- the entry of a class table at an address
abbrev pub entry : List ℕ → ℕ → ℕ
entry table x = get_or table x 0

-- "In the class table a node's entry is its class's name. Entry 0 and the entries of count and pointer words are 0."
pub record ClassTable {S : Symbols} (G : Graph S) (pairs : List Pair) (table : List ℕ) : Type 0 where
  pub long : length table ≡ G.size
  pub named : (x : ℕ) → Node G x → Named G pairs x (entry table x)
  pub empty : (x : ℕ) → G.head x ≡ nothing → entry table x ≡ 0

-- Two nodes have one entry: in the class table they are in one class.
abbrev pub OneEntry : {S : Symbols} → Graph S → List ℕ → ℕ → ℕ → Type 0
OneEntry G table x y = Node G x × Node G y × (entry table x ≡ entry table y)

unfoldable pub is_node : {S : Symbols} → Head S → Bool
is_node nothing = false
is_node variable = true
is_node (symbol s children) = true

unfoldable pub apart_from : {S : Symbols} → Graph S → ℕ → ℕ → List ℕ
apart_from G x zero = []
apart_from G x (suc k) = cond (is_node (G.head x)) x 0 ∷ apart_from G (suc x) k

-- each node its own class
unfoldable pub apart : {S : Symbols} → Graph S → List ℕ
apart G = apart_from G 0 G.size

unfoldable pub bit : Bool → ℕ
bit true = 1
bit false = 0

-- how many addresses below n pass a test
unfoldable pub count : (ℕ → Bool) → ℕ → ℕ
count test zero = 0
count test (suc n) = bit (test n) + count test n

unfoldable pub nodes : {S : Symbols} → Graph S → ℕ
nodes G = count (λ x. is_node (G.head x)) G.size

-- Each class has one name, which is one of its nodes (`name_of_name`, proofs/Theorems.antt): so there are as many classes as
-- nodes that are their own entry.
unfoldable pub classes : {S : Symbols} → Graph S → List ℕ → ℕ
classes G table = count (λ x. is_node (G.head x) && eqb (entry table x) x) G.size

-- "The joins are the number of nodes less the number of classes."
unfoldable pub joins : {S : Symbols} → Graph S → List ℕ → ℕ
joins G table = nodes G - classes G table
