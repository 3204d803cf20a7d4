-- Heads and symbols: what stands at the top of a node. Assumes nothing.
use Rattle.std.specs.Prelude.{ℕ, ◌≤◌, Bool, false, ◌&&◌, eqb}
use Rattle.words.specs.Word.{same_kind}
use Rattle.words.specs.declared.kind.Kind.{Kind}
use Rattle.words.specs.declared.numbers.Label.{Label}
use Rattle.words.specs.declared.head.Head.{Head}
use Rattle.words.specs.declared.head.Head.TheVariants.{Variable, Constant, Function}
use Rattle.words.specs.declared.head.Symbol.{Symbol}

-- the kind of word that stands at a node with this head
abbrev pub kind_of_head : Head → Kind
kind_of_head (Variable l) = Kind.Variable
kind_of_head (Constant l) = Kind.Constant
kind_of_head (Function l n) = Kind.Function

abbrev pub is_variable : Head → Bool
is_variable h = same_kind (kind_of_head h) Kind.Variable

abbrev pub is_function : Head → Bool
is_function h = same_kind (kind_of_head h) Kind.Function

-- The label of a head. "Variable labels are a name space of their own": only labels of one kind are compared.
abbrev pub label_of : Head → Label
label_of (Variable l) = l
label_of (Constant l) = l
label_of (Function l n) = l

-- "A symbol is a label with its argument count"
abbrev pub symbol_with : Label → ℕ → Symbol
symbol_with label count = record { label = label; count = count }

-- the label of a head with its argument count, which is 0 for all but functions: ".. a constant counts 0."
abbrev pub label_and_count : Head → Symbol
label_and_count (Variable l) = symbol_with l 0
label_and_count (Constant l) = symbol_with l 0
label_and_count (Function l n) = symbol_with l n

-- a symbol, or none
pub data HeadSymbol : Type 0 where
  One : Symbol → HeadSymbol
  None : HeadSymbol

-- the symbol of a head; a variable has none
abbrev pub symbol_of : Head → HeadSymbol
symbol_of (Variable l) = None
symbol_of (Constant l) = One (label_and_count (Constant l))
symbol_of (Function l n) = One (label_and_count (Function l n))

-- "a count is 0 or over 255" is a fault, so each head in a checked table is counted: a function has an argument
abbrev pub Counted : Head → Type 0
Counted (Variable l) = Unit
Counted (Constant l) = Unit
Counted (Function l n) = 1 ≤ n

-- whether the labels of two heads agree
abbrev pub labels_agree : Head → Head → Bool
labels_agree l r = eqb (label_of l).0 (label_of r).0

-- whether two symbols are one: "label and count agree"
abbrev pub same_symbol : Symbol → Symbol → Bool
same_symbol a b = eqb a.label.0 b.label.0 && eqb a.count b.count

-- the same, where one may be missing
abbrev pub one_symbol : HeadSymbol → HeadSymbol → Bool
one_symbol (One a) (One b) = same_symbol a b
one_symbol (One a) None = false
one_symbol None s = false

-- whether two heads have symbols, and these are one
abbrev pub symbols_agree : Head → Head → Bool
symbols_agree l r = one_symbol (symbol_of l) (symbol_of r)

-- Whether two heads are of one kind and have one symbol. The kinds are compared for a function that counts 0: it can be made as a
-- value, and its symbol is then a constant's. No checked table has one, and without one the kinds follow from the symbols
-- (`kinds_by_symbols` of proofs/HeadLaws).
abbrev pub heads_agree : Head → Head → Bool
heads_agree l r = same_kind (kind_of_head l) (kind_of_head r) && symbols_agree l r
