-- Finite terms, replacements of variables, the term below a node, and the answer as a replacement.
-- The sentences quoted are document 01's. Assumes nothing.
use Rattle.std.specs.Prelude.{◌≡◌, List, [], ◌∷◌, ℕ, zero, suc}
use Rattle.graphs.specs.Graph.{Symbols, Head, nothing, variable, symbol, Graph}
use Rattle.graphs.specs.Partition.{Pair, ◌∈◌, VariablesOnly, entry}

-- A finite term: a variable, which is its address, or a symbol with its arguments.
mutual
  pub data Term (S : Symbols) : Type 0 where
    var : ℕ → Term S
    app : S.Symbol → Terms S → Term S

  pub data Terms (S : Symbols) : Type 0 where
    none : Terms S
    also : Term S → Terms S → Terms S

-- how many terms
unfoldable pub many : {S : Symbols} → Terms S → ℕ
many none = 0
many (also t ts) = suc (many ts)

-- "A symbol is a label with its argument count": each symbol in a term has as many arguments as it counts. A term is made
-- without asking for that, so it is said where it matters.
unfoldable mutual
  pub WellCounted : {S : Symbols} → Term S → Type 0
  WellCounted (var x) = Unit {0}
  WellCounted {S} (app s ts) = (many ts ≡ S.count s) × AllWellCounted ts

  pub AllWellCounted : {S : Symbols} → Terms S → Type 0
  AllWellCounted none = Unit {0}
  AllWellCounted (also t ts) = WellCounted t × AllWellCounted ts

-- A replacement gives each variable a term.
abbrev pub Replacement : Symbols → Type 0
Replacement S = ℕ → Term S

unfoldable mutual
  -- a term with each variable replaced
  pub apply : {S : Symbols} → Replacement S → Term S → Term S
  apply θ (var x) = θ x
  apply θ (app s ts) = app s (apply_all θ ts)

  pub apply_all : {S : Symbols} → Replacement S → Terms S → Terms S
  apply_all θ none = none
  apply_all θ (also t ts) = also (apply θ t) (apply_all θ ts)

-- "doing the answer first and then that one"
infixl 30 ◌then◌
abbrev pub ◌then◌ : {S : Symbols} → Replacement S → Replacement S → Replacement S
σ then θ = λ x. apply θ (σ x)

unfoldable pub each : {S : Symbols} → (ℕ → Term S) → List ℕ → Terms S
each f [] = none
each f (x ∷ xs) = also (f x) (each f xs)

-- the term at a head whose children's terms are known; `r` is the address that the head stands at
unfoldable pub grown : {S : Symbols} → (ℕ → Term S) → ℕ → Head S → Term S
grown f r nothing = var r
grown f r variable = var r
grown f r (symbol s children) = app s (each f children)

-- The term that hangs at x where each node stands for the one that `name` gives, to a depth. With as much depth as the graph
-- has addresses a graph without loops, or without cycles, is gone through to its leaves (`below_unfolds` and
-- `answer_unfolds`, proofs/Theorems.antt), and the depth can be forgotten.
unfoldable pub tree : {S : Symbols} → Graph S → (ℕ → ℕ) → ℕ → ℕ → Term S
tree G name zero x = var x
tree G name (suc depth) x = grown (tree G name depth) (name x) (G.head (name x))

-- the term below a node
unfoldable pub below : {S : Symbols} → Graph S → ℕ → Term S
below G x = tree G (λ y. y) G.size x

-- A replacement makes both sides of each pair equal.
abbrev pub Unifies : {S : Symbols} → Graph S → List Pair → Replacement S → Type 0
Unifies G pairs θ = (p : Pair) → p ∈ pairs → apply θ (below G p.left) ≡ apply θ (below G p.right)

-- "a variable in a class of variables only goes to the variable that names it; any other goes to the term below its class's
-- name, with each variable in that term replaced by its own answer."
pub record FollowsRule {S : Symbols} (G : Graph S) (pairs : List Pair) (table : List ℕ) (σ : Replacement S) : Type 0 where
  pub variables_only : (x : ℕ) → G.head x ≡ variable → VariablesOnly G pairs x → σ x ≡ var (entry table x)
  pub any_other : (x : ℕ) → G.head x ≡ variable → (VariablesOnly G pairs x → ⊥) → σ x ≡ apply σ (below G (entry table x))

-- The answer as a replacement, computed. It follows the rule, and no other does (`answer_follows_rule`, `answer_only`,
-- proofs/Theorems.antt).
unfoldable pub answer : {S : Symbols} → Graph S → List ℕ → Replacement S
answer G table x = tree G (entry table) G.size x
