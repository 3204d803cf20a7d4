-- In the term that hangs at a node each symbol has as many arguments as it counts: of trees (`tree_counted`), so of the term below
-- a node and of the answer. Assumes nothing.
use mathlib.Core.Path.{◌≡◌, refl, ap, ◌∙◌}
use mathlib.Core.List.{List, [], ◌∷◌}
use Prim.Native.Nat.{ℕ, zero, suc}
use lib.ListN.{length}
use Rattle.graphs.specs.Graph.{Symbols, Head, nothing, variable, symbol, Graph, WellFormed}
use Rattle.graphs.specs.Partition.{entry}
use Rattle.graphs.specs.Term.{Term, many, WellCounted, AllWellCounted, each, grown, tree, below, answer}

each-many : {S : Symbols} (f : ℕ → Term S) (xs : List ℕ) → many (each f xs) ≡ length xs
unfolding each many
each-many f [] = refl
each-many f (x ∷ xs) = ap suc (each-many f xs)

each_counted : {S : Symbols} (f : ℕ → Term S) → ((x : ℕ) → WellCounted (f x)) → (xs : List ℕ) → AllWellCounted (each f xs)
unfolding each WellCounted
each_counted f h [] = tt
each_counted f h (x ∷ xs) = (h x, each_counted f h xs)

module _ {S : Symbols} {G : Graph S} (wf : WellFormed G) where
  grown_counted : (f : ℕ → Term S) → ((x : ℕ) → WellCounted (f x)) → (r x : ℕ) (h : Head S) → G.head x ≡ h → WellCounted (grown f r h)
  unfolding grown WellCounted
  grown_counted f h r x nothing e = tt
  grown_counted f h r x variable e = tt
  grown_counted f h r x (symbol s children) e = (each-many f children ∙ wf.counted x s children e, each_counted f h children)

  tree_counted : (name : ℕ → ℕ) (depth x : ℕ) → WellCounted (tree G name depth x)
  unfolding tree WellCounted
  tree_counted name zero x = tt
  tree_counted name (suc depth) x = grown_counted (tree G name depth) (tree_counted name depth) (name x) (name x) (G.head (name x)) refl

  pub below_counted : (x : ℕ) → WellCounted (below G x)
  unfolding below
  below_counted x = tree_counted (λ y. y) G.size x

  pub answer_counted : (table : List ℕ) (x : ℕ) → WellCounted (answer G table x)
  unfolding answer
  answer_counted table x = tree_counted (entry table) G.size x
