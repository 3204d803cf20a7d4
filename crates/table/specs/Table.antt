-- From a row of words to its term graph. The sentences quoted are document 01's, "The word and the table". Assumes nothing.
use Rattle.std.specs.Prelude.{◌≡◌, Bool, true, false, List, [], ◌∷◌, ℕ, zero, suc, ◌+◌, length, get_or}
use Rattle.std.proofs.Common.{ap}
use Rattle.std.proofs.Math.Decide.{ℕ_discrete}
use Rattle.words.specs.Head.{symbol_with}
use Rattle.words.specs.Word.{same_kind, node_kinds, is_one_of, kind_of, content_of}
use Rattle.words.specs.declared.kind.Kind.{Kind}
use Rattle.words.specs.declared.kind.Kind.TheVariants.{Variable, Constant, Function, Pointer, Count, NoWord}
use Rattle.words.specs.declared.head.Symbol.{Symbol}
use Rattle.words.specs.declared.numbers.Label.{Label}
use Rattle.graphs.specs.Graph.{Symbols, Head, nothing, variable, symbol, Graph}

-- the first where the test passes, and the second where it fails
unfoldable pub choose : {A : Type 0} → Bool → A → A → A
choose true a b = a
choose false a b = b

-- the word at an address; past the end it is 0, which is not a word
abbrev pub word_at : List ℕ → ℕ → ℕ
word_at t a = get_or t a 0

abbrev pub kind_at : List ℕ → ℕ → Kind
kind_at t a = kind_of (word_at t a)

abbrev pub content_at : List ℕ → ℕ → ℕ
content_at t a = content_of (word_at t a)

-- the label that stands at an address
abbrev pub label_at : List ℕ → ℕ → Label
label_at t a = record { 0 = content_at t a }

-- ---- nodes

-- A variable, constant or function word: "Those three kinds of word are the nodes."
abbrev pub node_kind : Kind → Bool
node_kind k = is_one_of node_kinds k

-- ---- symbols

unfoldable pub symbol_decide : Discrete Symbol
symbol_decide s t = go (ℕ_discrete s.label.0 t.label.0) (ℕ_discrete s.count t.count)
  where
    go : Dec (s.label.0 ≡ t.label.0) → Dec (s.count ≡ t.count) → Dec (s ≡ t)
    go (yes p) (yes q) = yes (λ i. record { label = record { 0 = p i }; count = q i })
    go (yes p) (no q) = no (λ e. q (ap (λ (u : Symbol). u.count) e))
    go (no p) d = no (λ e. p (ap (λ (u : Symbol). u.label.0) e))

abbrev pub TableSymbols : Symbols
TableSymbols = record { Symbol = Symbol; decide = symbol_decide; count = λ s. s.count }

-- ---- children

-- The node that the argument word at a names: the word itself, or the one that a pointer names.
unfoldable pub named : List ℕ → ℕ → ℕ
named t a = choose (same_kind (kind_at t a) Pointer) (content_at t a) a

unfoldable pub named_from : List ℕ → ℕ → ℕ → List ℕ
named_from t a zero = []
named_from t a (suc k) = named t a ∷ named_from t (a + 1) k

-- "A block is a function word, a count word k, then k argument words". "The i-th child of a function is its i-th argument
-- word, or the node that this names."
abbrev pub children_at : List ℕ → ℕ → List ℕ
children_at t f = named_from t (f + 2) (content_at t (f + 1))

-- ---- the graph

unfoldable pub head_of : Kind → List ℕ → ℕ → Head TableSymbols
head_of Variable t x = variable
head_of Constant t x = symbol (symbol_with (label_at t x) 0) []
head_of Function t x = symbol (symbol_with (label_at t x) (content_at t (x + 1))) (children_at t x)
head_of Pointer t x = nothing
head_of Count t x = nothing
head_of NoWord t x = nothing

-- The term graph of a table. A variable is told apart by its address.
abbrev pub graph_of : List ℕ → Graph TableSymbols
graph_of t = record { size = length t; head = λ x. head_of (kind_at t x) t x }

-- ---- blocks

-- how many children the node at x has; only a function has any
unfoldable pub degree : List ℕ → ℕ → ℕ
degree t x = choose (same_kind (kind_at t x) Function) (content_at t (x + 1)) 0

-- the child of a function at place i, from 0
abbrev pub child_of : List ℕ → ℕ → ℕ → ℕ
child_of t x i = named t (x + 2 + i)
