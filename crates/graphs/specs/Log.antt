-- Certificates: a log of joins that is replayed, and tests of what it leads to. All of it computes.
--
-- An entry of a log names two nodes and a ground: a given pair's number, or two functions of one symbol, already together by
-- earlier entries, and an argument place. Replaying goes from 'each node its own class' through the entries, one join each.
-- What a replay that ends well proves is said in proofs/Theorems.antt. Assumes nothing.
use Rattle.std.specs.Prelude.{Bool, true, false, not, cond, List, [], ◌∷◌, map, ℕ, zero, suc, pred, eqb, leb, ltb, length, get_or}
use Rattle.std.proofs.Math.Bool.{decide}
use Rattle.graphs.specs.Graph.{Symbols, Head, nothing, variable, symbol, Graph}
use Rattle.graphs.specs.Partition.{Pair, is_node, entry, key, apart}

infixr 30 ◌and◌
infixr 25 ◌or◌
unfoldable pub ◌and◌ : Bool → Bool → Bool
true and b = b
false and b = false

unfoldable pub ◌or◌ : Bool → Bool → Bool
true or b = true
false or b = b

-- ---- an entry

-- Pairs and places are counted from 1.
pub data Ground : Type 0 where
  given : ℕ → Ground
  children : ℕ → ℕ → ℕ → Ground

pub record Join : Type 0 where
  pub left : ℕ
  pub right : ℕ
  pub ground : Ground

-- a and b are x and y, either way round
abbrev pub either_way : ℕ → ℕ → ℕ → ℕ → Bool
either_way a b x y = (eqb a x and eqb b y) or (eqb a y and eqb b x)

-- k counts one of n things from 1
abbrev pub counts : ℕ → ℕ → Bool
counts k n = ltb 0 k and leb k n

-- a and b are the children at a place of a function with symbol s and children xs, and of a function with that symbol
unfoldable pub children_beside : {S : Symbols} → S.Symbol → List ℕ → Head S → ℕ → ℕ → ℕ → Bool
children_beside s xs nothing place a b = false
children_beside s xs variable place a b = false
children_beside {S} s xs (symbol t ys) place a b =
    decide (S.decide s t) and (counts place (length xs) and (counts place (length ys) and either_way a b (get_or xs (pred place) 0) (get_or ys (pred place) 0)))

unfoldable pub children_of : {S : Symbols} → Head S → Head S → ℕ → ℕ → ℕ → Bool
children_of nothing k place a b = false
children_of variable k place a b = false
children_of (symbol s xs) k place a b = children_beside s xs k place a b

abbrev pub together : {S : Symbols} → Graph S → List ℕ → ℕ → ℕ → Bool
together G row x y = is_node (G.head x) and (is_node (G.head y) and eqb (entry row x) (entry row y))

abbrev pub separate : {S : Symbols} → Graph S → List ℕ → ℕ → ℕ → Bool
separate G row x y = is_node (G.head x) and (is_node (G.head y) and not (eqb (entry row x) (entry row y)))

-- The ground is true of a and b, where `row` has the classes made by earlier entries.
unfoldable pub grounded : {S : Symbols} → Graph S → List Pair → List ℕ → Ground → ℕ → ℕ → Bool
grounded G pairs row (given k) a b =
    counts k (length pairs) and either_way a b (get_or pairs (pred k) (record { left = 0; right = 0 })).left (get_or pairs (pred k) (record { left = 0; right = 0 })).right
grounded G pairs row (children x y place) a b = together G row x y and children_of (G.head x) (G.head y) place a b

-- An entry is true if it joins two separate classes on a true ground.
unfoldable pub is_true : {S : Symbols} → Graph S → List Pair → List ℕ → Join → Bool
is_true G pairs row j = separate G row j.left j.right and grounded G pairs row j.ground j.left j.right

-- ---- the replay

unfoldable pub renamed : ℕ → ℕ → List ℕ → List ℕ
renamed old new row = map (λ e. cond (eqb e old) new e) row

-- the classes named l and m made one, under the name that comes first
unfoldable pub merged : {S : Symbols} → Graph S → List ℕ → ℕ → ℕ → List ℕ
merged G row l m = cond (leb (key G l) (key G m)) (renamed m l row) (renamed l m row)

abbrev pub joined : {S : Symbols} → Graph S → List ℕ → Join → List ℕ
joined G row j = merged G row (entry row j.left) (entry row j.right)

-- the number of the first entry that is false, from 1; or the row of names that the joins end in
pub data Replayed : Type 0 where
  false_at : ℕ → Replayed
  ends : List ℕ → Replayed

unfoldable pub if_true : Bool → ℕ → Replayed → Replayed
if_true true number rest = rest
if_true false number rest = false_at number

unfoldable pub replay_from : {S : Symbols} → Graph S → List Pair → ℕ → List ℕ → List Join → Replayed
replay_from G pairs number row [] = ends row
replay_from G pairs number row (j ∷ log) = if_true (is_true G pairs row j) number (replay_from G pairs (suc number) (joined G row j) log)

unfoldable pub replay : {S : Symbols} → Graph S → List Pair → List Join → Replayed
replay G pairs log = replay_from G pairs 1 (apart G) log

-- ---- tests of the row that a replay ends in

unfoldable pub all_below : (ℕ → Bool) → ℕ → Bool
all_below test zero = true
all_below test (suc n) = test n and all_below test n

unfoldable pub holds_pairs : List Pair → List ℕ → Bool
holds_pairs [] row = true
holds_pairs (p ∷ pairs) row = eqb (entry row p.left) (entry row p.right) and holds_pairs pairs row

-- two rows of children have the same names, place by place
unfoldable pub same_names : List ℕ → List ℕ → List ℕ → Bool
same_names row [] [] = true
same_names row [] (y ∷ ys) = false
same_names row (x ∷ xs) [] = false
same_names row (x ∷ xs) (y ∷ ys) = eqb (entry row x) (entry row y) and same_names row xs ys

unfoldable pub agrees_with : {S : Symbols} → List ℕ → S.Symbol → List ℕ → Head S → Bool
agrees_with row s xs nothing = false
agrees_with row s xs variable = false
agrees_with {S} row s xs (symbol t ys) = decide (S.decide s t) and same_names row xs ys

-- a node with a symbol agrees with its class's name: one symbol, and children together place by place
unfoldable pub agrees : {S : Symbols} → Graph S → List ℕ → Head S → ℕ → Bool
agrees G row nothing name = true
agrees G row variable name = true
agrees G row (symbol s xs) name = agrees_with row s xs (G.head name)

-- The classes of the row hold every pair, are closed under children, and have no clash.
unfoldable pub closed : {S : Symbols} → Graph S → List Pair → List ℕ → Bool
closed G pairs row = holds_pairs pairs row and all_below (λ x. agrees G row (G.head x) (entry row x)) G.size

-- A rank for each name, that falls from a class to the classes of its children, shows that no class reaches itself.
unfoldable pub ranks_fall : List ℕ → List ℕ → ℕ → List ℕ → Bool
ranks_fall row ranks r [] = true
ranks_fall row ranks r (y ∷ ys) = ltb (entry ranks (entry row y)) r and ranks_fall row ranks r ys

unfoldable pub ranks_fall_at : {S : Symbols} → List ℕ → List ℕ → ℕ → Head S → Bool
ranks_fall_at row ranks x nothing = true
ranks_fall_at row ranks x variable = true
ranks_fall_at row ranks x (symbol s ys) = ranks_fall row ranks (entry ranks (entry row x)) ys

unfoldable pub ranked : {S : Symbols} → Graph S → List ℕ → List ℕ → Bool
ranked G row ranks = all_below (λ x. ranks_fall_at row ranks x (G.head x)) G.size

-- x and y are together and have different symbols
unfoldable pub differ_from : {S : Symbols} → S.Symbol → Head S → Bool
differ_from s nothing = false
differ_from s variable = false
differ_from {S} s (symbol t ys) = not (decide (S.decide s t))

unfoldable pub differ : {S : Symbols} → Head S → Head S → Bool
differ nothing k = false
differ variable k = false
differ (symbol s xs) k = differ_from s k

unfoldable pub clashes : {S : Symbols} → Graph S → List ℕ → ℕ → ℕ → Bool
clashes G row x y = together G row x y and differ (G.head x) (G.head y)

-- A way down from a node to one of its children.
pub record Down : Type 0 where
  pub parent : ℕ
  pub child : ℕ

unfoldable pub is_among : ℕ → List ℕ → Bool
is_among y [] = false
is_among y (x ∷ xs) = eqb x y or is_among y xs

unfoldable pub is_below : {S : Symbols} → ℕ → Head S → Bool
is_below y nothing = false
is_below y variable = false
is_below y (symbol s xs) = is_among y xs

-- from x's class down along the ways, into the class of `last`
unfoldable pub leads : {S : Symbols} → Graph S → List ℕ → ℕ → List Down → ℕ → Bool
leads G row x [] last = eqb (entry row x) (entry row last)
leads G row x (d ∷ ds) last = eqb (entry row x) (entry row d.parent) and (is_below d.child (G.head d.parent) and leads G row d.child ds last)

-- the ways lead from a class back to it
unfoldable pub cycles : {S : Symbols} → Graph S → List ℕ → List Down → Bool
cycles G row [] = false
cycles G row (d ∷ ds) = is_below d.child (G.head d.parent) and leads G row d.child ds d.parent

-- from x down along the ways to `last`, by the graph's own children
unfoldable pub leads_down : {S : Symbols} → Graph S → ℕ → List Down → ℕ → Bool
leads_down G x [] last = eqb x last
leads_down G x (d ∷ ds) last = eqb x d.parent and (is_below d.child (G.head d.parent) and leads_down G d.child ds last)

-- the ways lead from a node back to it
unfoldable pub loops : {S : Symbols} → Graph S → List Down → Bool
loops G [] = false
loops G (d ∷ ds) = is_below d.child (G.head d.parent) and leads_down G d.child ds d.parent
