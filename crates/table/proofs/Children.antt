-- Nodes and children of a table's graph, by the words.
--
-- In order: heads and nodes by kind (`kind_head`, `node_test`, `kind_node`, `node_kind_lem`); a symbol's children by the degree
-- (`symbol_children`, `symbol_count`); what has children is a function (`degree_function`); children by place (`named_child`, and
-- back, `degree_child`).
-- Assumes nothing.
use mathlib.Core.Path.{◌≡◌, refl, sym, ap, ◌∙◌}
use mathlib.Core.Bool.{Bool, true, false}
use mathlib.Core.List.{List, []}
use Prim.Native.Nat.{ℕ, zero, suc, ◌+◌, ◌<◌}
use native.Mathlib.Omega.{arith}
use lib.ListN.{length, get_or}
use Rattle.words.specs.Head.{symbol_with}
use Rattle.words.specs.Word.{same_kind}
use Rattle.words.specs.declared.kind.Kind.{Kind}
use Rattle.words.specs.declared.kind.Kind.TheVariants.{Function}
use Rattle.words.specs.declared.head.Symbol.{Symbol}
use Rattle.words.proofs.WordLaws.{same_kind_exactly}
use Rattle.words.proofs.KindLaws.{every_kind_lem}
use Rattle.graphs.specs.Graph.{Head, nothing, variable, symbol, Node, Child}
use Rattle.graphs.specs.Partition.{is_node}
use Rattle.graphs.proofs.Replay.{is_node_lem, node_is}
use Rattle.table.specs.Table.{kind_at, content_at, node_kind, choose, label_at, TableSymbols, named, named_from, children_at, head_of, graph_of, degree, child_of}

-- ---- heads and nodes by kind

pub kind_head : (t : List ℕ) (x : ℕ) {k : Kind} → kind_at t x ≡ k → (graph_of t).head x ≡ head_of k t x
kind_head t x e = ap (λ (k : Kind). head_of k t x) e

pub node_test : (t : List ℕ) (x : ℕ) → is_node ((graph_of t).head x) ≡ node_kind (kind_at t x)
unfolding head_of is_node
node_test t x = every_kind_lem (λ k. is_node (head_of k t x) ≡ node_kind k) refl refl refl refl refl refl (kind_at t x)

pub kind_node : (t : List ℕ) (x : ℕ) → node_kind (kind_at t x) ≡ true → Node (graph_of t) x
kind_node t x e = is_node_lem x (node_test t x ∙ e)

pub node_kind_lem : (t : List ℕ) (x : ℕ) → Node (graph_of t) x → node_kind (kind_at t x) ≡ true
node_kind_lem t x n = sym (node_test t x) ∙ node_is n

-- ---- a symbol's children

pub named_length : (t : List ℕ) (a k : ℕ) → length (named_from t a k) ≡ k
unfolding named_from
named_length t a zero = refl
named_length t a (suc k) = ap suc (named_length t (a + 1) k)

pub named_at : (t : List ℕ) (a k i : ℕ) → i < k → get_or (named_from t a k) i 0 ≡ named t (a + i)
unfolding named_from
named_at t a zero i h = absurd (omega arith)
named_at t a (suc k) zero h = ap (named t) (let e : a ≡ a + 0 = omega arith in e)
named_at t a (suc k) (suc i) h = named_at t (a + 1) k i (omega arith) ∙ ap (named t) (let e : a + 1 + i ≡ a + suc i = omega arith in e)

abbrev children_in : Head TableSymbols → List ℕ
children_in nothing = []
children_in variable = []
children_in (symbol s xs) = xs

abbrev count_in : Head TableSymbols → ℕ
count_in nothing = 0
count_in variable = 0
count_in (symbol s xs) = s.count

module _ (t : List ℕ) (x : ℕ) {s : Symbol} {xs : List ℕ} (e : (graph_of t).head x ≡ symbol s xs) where
  pub symbol_children : xs ≡ named_from t (x + 2) (degree t x)
  unfolding head_of degree choose named_from
  symbol_children =
      sym (ap children_in e)
      ∙ every_kind_lem (λ k. children_in (head_of k t x) ≡ named_from t (x + 2) (choose (same_kind k Function) (content_at t (x + 1)) 0)) refl refl refl refl refl refl (kind_at t x)

  pub symbol_count : s.count ≡ degree t x
  unfolding head_of degree choose
  symbol_count =
      sym (ap count_in e)
      ∙ every_kind_lem (λ k. count_in (head_of k t x) ≡ choose (same_kind k Function) (content_at t (x + 1)) 0) refl refl refl refl refl refl (kind_at t x)

  pub symbol_length : length xs ≡ degree t x
  symbol_length = ap length symbol_children ∙ named_length t (x + 2) (degree t x)

  pub symbol_child : (i : ℕ) → i < degree t x → get_or xs i 0 ≡ child_of t x i
  symbol_child i h = ap (λ (ys : List ℕ). get_or ys i 0) symbol_children ∙ named_at t (x + 2) (degree t x) i h

-- ---- children by place

-- what has children is a function
pub degree_function : (t : List ℕ) (x i : ℕ) → i < degree t x → (kind_at t x ≡ Function) × (i < content_at t (x + 1))
unfolding degree choose
degree_function t x i h = go (same_kind (kind_at t x) Function) refl h
  where
    go : (b : Bool) → same_kind (kind_at t x) Function ≡ b → i < choose b (content_at t (x + 1)) 0 → (kind_at t x ≡ Function) × (i < content_at t (x + 1))
    go true q k = ((same_kind_exactly (kind_at t x) Function).0 q, k)
    go false q k = absurd (omega arith)

-- Each child is what an argument word names.
pub record NamedChild (t : List ℕ) (x y : ℕ) : Type 0 where
  pub place : ℕ
  pub within : place < degree t x
  pub is : child_of t x place ≡ y

pub named_child : (t : List ℕ) (x y : ℕ) → Child (graph_of t) x y → NamedChild t x y
named_child t x y (i, c) =
    let within : i < degree t x = omega (arith, symbol_length t x c.stands, c.within) in
    record { place = i; within = within; is = sym (symbol_child t x c.stands i within) ∙ c.is }

-- the other way: what stands in a function's block is its child
pub degree_child : (t : List ℕ) (x i : ℕ) → i < degree t x → Child (graph_of t) x (child_of t x i)
unfolding head_of
degree_child t x i h =
    let f : (kind_at t x ≡ Function) × (i < content_at t (x + 1)) = degree_function t x i h in (
      i,
      record {
        named = symbol_with (label_at t x) (content_at t (x + 1));
        children = children_at t x;
        stands = kind_head t x f.0;
        within = omega (arith, named_length t (x + 2) (content_at t (x + 1)), f.1);
        is = named_at t (x + 2) (content_at t (x + 1)) i f.1;
      },
    )
