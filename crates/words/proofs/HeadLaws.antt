-- Laws of heads and symbols. In order:
--   same_symbol_exactly     the test of two symbols is their equality
--   symbols_agree_exactly   the test of two heads, one of them no variable, is that they have one symbol
--   kinds_by_symbols        heads of one symbol are of one kind, if each function among them has an argument
-- Assumes nothing.
use Prim.Native.Nat.{ℕ}
use mathlib.Core.Path.{◌≡◌, refl, sym, ap, ◌∙◌}
use mathlib.Core.Bool.{true, cond, true≢false}
use mathlib.Core.Logic.{◌↔◌}
use native.Mathlib.Omega.{arith}
use lib.Dec.{eqb}
use borrow.Author.Tests.{eq-eqb, ne_eqb, eqb-true}
use Rattle.words.specs.Head.{Counted, kind_of_head, HeadSymbol, One, None, symbol_of, same_symbol, one_symbol, symbols_agree}
use Rattle.words.specs.declared.kind.Kind.{Kind}
use Rattle.words.specs.declared.head.Head.{Head}
use Rattle.words.specs.declared.head.Head.TheVariants.{Variable, Constant, Function}
use Rattle.words.specs.declared.head.Symbol.{Symbol}
use Rattle.words.proofs.Tests.{and_exactly}

number_exactly : (a b : ℕ) → eqb a b ≡ true ↔ a ≡ b
number_exactly a b = (eqb-true a b, eq-eqb a b)

pub same_symbol_exactly : (a b : Symbol) → same_symbol a b ≡ true ↔ a ≡ b
same_symbol_exactly a b = (
  λ e. let p = fields.0 e in λ i. record { label = record { 0 = p.0 i }; count = p.1 i },
  λ e. fields.1 (ap (λ (s : Symbol). s.label.0) e, ap (λ (s : Symbol). s.count) e),
)
  where
    fields : same_symbol a b ≡ true ↔ ((a.label.0 ≡ b.label.0) × (a.count ≡ b.count))
    fields = and_exactly (eqb a.label.0 b.label.0) _ (number_exactly _ _) (number_exactly _ _)

one_symbol_exactly : (s t : HeadSymbol) → (s ≡ None → ⊥) → one_symbol s t ≡ true ↔ s ≡ t
one_symbol_exactly (One a) (One b) some = (λ e. ap One ((same_symbol_exactly a b).0 e), λ e. (same_symbol_exactly a b).1 (cc))
one_symbol_exactly (One a) None some = (λ e. absurd (true≢false (sym e)), λ e. absurd (some e))
one_symbol_exactly None t some = absurd (some refl)

has_symbol : (h : Head) → (kind_of_head h ≡ Kind.Variable → ⊥) → symbol_of h ≡ None → ⊥
has_symbol (Variable l) other e = other refl
has_symbol (Constant l) other e = let z : ◌≡◌ {A = ℕ} 0 1 = cc in omega arith
has_symbol (Function l n) other e = let z : ◌≡◌ {A = ℕ} 0 1 = cc in omega arith

pub symbols_agree_exactly : (l r : Head) → (kind_of_head l ≡ Kind.Variable → ⊥) → symbols_agree l r ≡ true ↔ symbol_of l ≡ symbol_of r
symbols_agree_exactly l r other = one_symbol_exactly (symbol_of l) (symbol_of r) (has_symbol l other)

-- the kind that a symbol shows: what counts 0 is a constant
abbrev kind_of_symbol : HeadSymbol → Kind
kind_of_symbol (One s) = cond (eqb s.count 0) Kind.Constant Kind.Function
kind_of_symbol None = Kind.Variable

kind_by_symbol : (h : Head) → Counted h → kind_of_symbol (symbol_of h) ≡ kind_of_head h
kind_by_symbol (Variable l) counted = refl
kind_by_symbol (Constant l) counted = refl
kind_by_symbol (Function l n) counted = rw (ne_eqb n 0 (λ none. omega arith))

pub kinds_by_symbols : (l r : Head) → Counted l → Counted r → symbol_of l ≡ symbol_of r → kind_of_head l ≡ kind_of_head r
kinds_by_symbols l r p q e = sym (kind_by_symbol l p) ∙ ap kind_of_symbol e ∙ kind_by_symbol r q
