-- Terms, and the term that hangs at a node.
--
-- In order: lists of terms (`each_agrees`, `each-apply`, `each_agreed`); the size of a term; a tree of enough depth unfolds
-- (`tree_unfolds`); the term below a node (`below_unfolds`, and under a replacement `apply-below-variable`, `-symbol`).
-- After `below_unfolds` nothing here or above mentions depth. Assumes nothing.
use mathlib.Core.Path.{◌≡◌, refl, ap, ◌∙◌}
use mathlib.Core.List.{List, [], ◌∷◌}
use Prim.Native.Nat.{ℕ, zero, suc, ◌+◌, ◌≤◌, ◌<◌}
use native.Mathlib.Omega.{arith}
use lib.ListN.{length, get_or}
use Rattle.graphs.specs.Graph.{Symbols, Head, nothing, variable, symbol, Graph, Node, Child, WellFormed}
use Rattle.graphs.specs.Term.{Term, var, app, Terms, none, also, Replacement, apply, apply_all, each, grown, tree, below}
use Rattle.graphs.proofs.Finite.{Short, short_of_no_return}
use Rattle.graphs.proofs.Classes.{child_at}

-- ---- lists of terms

pub each_agrees : {S : Symbols} (f g : ℕ → Term S) (xs ys : List ℕ) → length xs ≡ length ys
    → ((i : ℕ) → i < length xs → i < length ys → f (get_or xs i 0) ≡ g (get_or ys i 0)) → each f xs ≡ each g ys
unfolding each
each_agrees f g [] [] e h = refl
each_agrees f g [] (y ∷ ys) e h = absurd (omega arith)
each_agrees f g (x ∷ xs) [] e h = absurd (omega arith)
each_agrees f g (x ∷ xs) (y ∷ ys) e h =
    let head : f x ≡ g y = h 0 (omega arith) (omega arith) in
    let tail : each f xs ≡ each g ys = each_agrees f g xs ys (omega arith) (λ i hx hy. h (suc i) (omega arith) (omega arith)) in
    cc

pub each_agreed : {S : Symbols} (f g : ℕ → Term S) (xs ys : List ℕ) → each f xs ≡ each g ys
    → (i : ℕ) → i < length xs → i < length ys → f (get_or xs i 0) ≡ g (get_or ys i 0)
unfolding each
each_agreed f g [] ys e i hx hy = absurd (omega arith)
each_agreed f g (x ∷ xs) [] e i hx hy = absurd (omega arith)
each_agreed f g (x ∷ xs) (y ∷ ys) e zero hx hy = cc
each_agreed f g (x ∷ xs) (y ∷ ys) e (suc i) hx hy = each_agreed f g xs ys (cc) i (omega arith) (omega arith)

pub each-apply : {S : Symbols} (θ : Replacement S) (f : ℕ → Term S) (xs : List ℕ) → apply_all θ (each f xs) ≡ each (λ x. apply θ (f x)) xs
unfolding each apply
each-apply θ f [] = refl
each-apply θ f (x ∷ xs) = ap (also (apply θ (f x))) (each-apply θ f xs)

-- ---- the size of a term

unfoldable mutual
  pub size : {S : Symbols} → Term S → ℕ
  size (var x) = 0
  size (app s ts) = suc (sizes ts)

  pub sizes : {S : Symbols} → Terms S → ℕ
  sizes none = 0
  sizes (also t ts) = size t + sizes ts

pub part_smaller : {S : Symbols} (f : ℕ → Term S) (xs : List ℕ) (i : ℕ) → i < length xs → size (f (get_or xs i 0)) ≤ sizes (each f xs)
unfolding each size
part_smaller f [] i h = absurd (omega arith)
part_smaller f (x ∷ xs) zero h = omega arith
part_smaller f (x ∷ xs) (suc i) h = omega (arith, part_smaller f xs i (omega arith))

-- ---- a tree of enough depth unfolds

module _ {S : Symbols} (G : Graph S) (name : ℕ → ℕ) where
  -- where the tree goes on from x
  abbrev pub Down : ℕ → ℕ → Type 0
  Down x y = Child G (name x) y

  grown_agrees : (f g : ℕ → Term S) (x : ℕ) → ((y : ℕ) → Down x y → f y ≡ g y) → (h : Head S) → G.head (name x) ≡ h → grown f (name x) h ≡ grown g (name x) h
  unfolding grown
  grown_agrees f g x below nothing e = refl
  grown_agrees f g x below variable e = refl
  grown_agrees f g x below (symbol s children) e =
      ap (app s) (each_agrees f g children children refl (λ i h k. below _ (child_at e i h)))

  tree_stable : (k m x : ℕ) → Short Down k x → k ≤ m → tree G name k x ≡ tree G name m x
  unfolding tree
  tree_stable zero m x s h = absurd s
  tree_stable (suc k) zero x s h = absurd (omega arith)
  tree_stable (suc k) (suc m) x s h =
      grown_agrees (tree G name k) (tree G name m) x (λ y d. tree_stable k m y (s y d) (omega arith)) (G.head (name x)) refl

  pub tree_unfolds : (k x : ℕ) → Short Down k x → tree G name k x ≡ grown (tree G name k) (name x) (G.head (name x))
  unfolding tree
  tree_unfolds zero x s = absurd s
  tree_unfolds (suc k) x s =
      grown_agrees (tree G name k) (tree G name (suc k)) x (λ y d. tree_stable k (suc k) y (s y d) (omega arith)) (G.head (name x)) refl

-- ---- the term below a node

pub below_unfolds : {S : Symbols} {G : Graph S} → WellFormed G → (x : ℕ) → Node G x → below G x ≡ grown (below G) x (G.head x)
unfolding below
below_unfolds {S} {G} wf x n =
    tree_unfolds G (λ y. y) G.size x
    (short_of_no_return (Child G) wf.no_loop G.size (λ y z c. wf.inside z (wf.child_node y z c)) x (wf.inside x n))

module _ {S : Symbols} {G : Graph S} (wf : WellFormed G) (θ : Replacement S) where
  pub apply-below-variable : (x : ℕ) → G.head x ≡ variable → apply θ (below G x) ≡ θ x
  unfolding grown apply
  apply-below-variable x e = ap (apply θ) (below_unfolds wf x (Node.variable_node e) ∙ ap (grown (below G) x) e)

  pub apply-below-symbol : (x : ℕ) {s : S.Symbol} {children : List ℕ} → G.head x ≡ symbol s children
      → apply θ (below G x) ≡ app s (each (λ y. apply θ (below G y)) children)
  unfolding grown apply
  apply-below-symbol x {s} {children} e =
      ap (apply θ) (below_unfolds wf x (Node.symbol_node e) ∙ ap (grown (below G) x) e) ∙ ap (app s) (each-apply θ (below G) children)
