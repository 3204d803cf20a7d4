-- What a meeting of two heads says of the nodes that they stand at.
--
-- In order: what stands at a node, in words and in the graph (`see`); its place in the naming order
-- (`key_at`); what each outcome says (`said`). Assumes nothing.
use mathlib.Core.Path.{◌≡◌, refl, sym, ap, ap₂, ◌∙◌, subst}
use mathlib.Core.Bool.{Bool, true, false, cond}
use mathlib.Core.List.{List, []}
use Prim.Native.Nat.{ℕ, suc, ◌+◌, ◌<◌}
use native.Mathlib.Omega.{arith}
use lib.ListN.{length}
use Rattle.words.specs.Word.{same_kind, node_kinds}
use Rattle.words.specs.declared.kind.Kind.{Kind}
use Rattle.words.specs.declared.head.Head.{Head}
use Rattle.words.specs.declared.head.Symbol.{Symbol}
use Rattle.words.specs.declared.meeting.Outcome.{Outcome}
use Rattle.words.specs.Head.{symbol_with, same_symbol}
use Rattle.words.specs.Meeting.{outcome_of}
use Rattle.words.proofs.HeadLaws.{same_symbol_exactly}
use Rattle.words.proofs.KindLaws.{one_of, every_kind_lem}
use Rattle.graphs.specs.Graph.{Head as GraphHead, variable, symbol, Node}
use Rattle.graphs.specs.Partition.{key, key_of}
use Rattle.graphs.proofs.Classes.{never}
use Rattle.table.specs.Table.{TableSymbols, graph_of, degree, choose, kind_at, content_at, label_at, head_of, children_at}
use Rattle.table.specs.Heads.{top}
use Rattle.table.specs.Faults.{bad_kind, bad_word}
use Rattle.table.specs.Readable.{Readable}
use Rattle.table.proofs.Children.{kind_head, node_kind_lem}
use Rattle.table.proofs.Readable.{block_count, block_inside}
use Rattle.classes.specs.Steps.Meeting.{OneSymbol}

-- ---- what stands at a node

pub data Seen (t : List ℕ) (x : ℕ) : Type 0 where
  variable_seen : (graph_of t).head x ≡ variable → degree t x ≡ 0 → top t x ≡ Head.Variable (label_at t x) → Seen t x
  constant_seen : (graph_of t).head x ≡ symbol (symbol_with (label_at t x) 0) [] → degree t x ≡ 0 → top t x ≡ Head.Constant (label_at t x) → Seen t x
  function_seen : (graph_of t).head x ≡ symbol (symbol_with (label_at t x) (content_at t (x + 1))) (children_at t x)
      → (content_at t (x + 1) ≡ 0 → ⊥) → top t x ≡ Head.Function (label_at t x) (content_at t (x + 1)) → Seen t x

-- A function counts an argument, so no constant has its symbol.
function_counts : {t : List ℕ} → Readable t → (x : ℕ) → kind_at t x ≡ Kind.Function → content_at t (x + 1) ≡ 0 → ⊥
unfolding bad_kind bad_word
function_counts {t} readable x f z = readable.words (suc x) inside bad
  where
    at : x + 1 ≡ suc x
    at = omega arith

    counted : kind_at t (suc x) ≡ Kind.Count
    counted = subst (λ (y : ℕ). kind_at t y ≡ Kind.Count) at (block_count readable x f)

    inside : suc x < length t
    inside = omega (arith, block_inside readable x f)

    bad : bad_word t (suc x) ≡ true
    bad = ap₂ bad_kind counted (subst (λ (y : ℕ). content_at t y ≡ 0) at z)

module _ (t : List ℕ) (x : ℕ) where
  top_as : Kind → Head
  top_as k = choose (same_kind k Kind.Function) (Head.Function (label_at t x) (content_at t (x + 1))) (choose (same_kind k Kind.Constant) (Head.Constant (label_at t x)) (Head.Variable (label_at t x)))

  top_at : {k : Kind} → kind_at t x ≡ k → top t x ≡ top_as k
  unfolding top top_as
  top_at e = ap top_as e

  degree_at : {k : Kind} → kind_at t x ≡ k → degree t x ≡ choose (same_kind k Kind.Function) (content_at t (x + 1)) 0
  unfolding degree
  degree_at e = ap (λ (k : Kind). choose (same_kind k Kind.Function) (content_at t (x + 1)) 0) e

  -- the place in the naming order, by the head in words
  abbrev key_by : Head → ℕ
  key_by (Head.Variable l) = length t + x
  key_by (Head.Constant l) = x
  key_by (Head.Function l n) = x

  key_by-top : key (graph_of t) x ≡ key_by (top t x)
  unfolding top_as top choose head_of key key_of
  key_by-top = every_kind_lem (λ k. key_of (length t) x (head_of k t x) ≡ key_by (top_as k)) refl refl refl refl refl refl (kind_at t x)

  pub key_at : {h k : Head} → h ≡ top t x → h ≡ k → key_by k ≡ key (graph_of t) x
  key_at e f = ap key_by (sym f ∙ e) ∙ sym key_by-top

pub see : {t : List ℕ} → Readable t → (x : ℕ) → Node (graph_of t) x → Seen t x
unfolding top_as choose head_of
see {t} readable x n =
    one_of (λ k. kind_at t x ≡ k → Seen t x) node_kinds (
      (λ e. variable_seen (kind_head t x e) (degree_at t x e) (top_at t x e)),
      (
        (λ e. constant_seen (kind_head t x e) (degree_at t x e) (top_at t x e)),
        ((λ e. function_seen (kind_head t x e) (function_counts readable x e) (top_at t x e)), tt),
      ),
    )
    (kind_at t x) (node_kind_lem t x n) refl

-- ---- the outcomes

-- a and b are nodes with different symbols
pub record DifferentSymbols (t : List ℕ) (a b : ℕ) : Type 0 where
  pub left_symbol : Symbol
  pub left_children : List ℕ
  pub right_symbol : Symbol
  pub right_children : List ℕ
  pub left_head : (graph_of t).head a ≡ symbol left_symbol left_children
  pub right_head : (graph_of t).head b ≡ symbol right_symbol right_children
  pub different : left_symbol ≡ right_symbol → ⊥

-- a or b is a variable, or both are constants with one symbol
pub data Plain (t : List ℕ) (a b : ℕ) : Type 0 where
  left_variable : (graph_of t).head a ≡ variable → degree t a ≡ 0 → Plain t a b
  right_variable : (graph_of t).head b ≡ variable → degree t b ≡ 0 → Plain t a b
  constants : OneSymbol t a b → degree t a ≡ 0 → degree t b ≡ 0 → Plain t a b

-- what each outcome says
abbrev pub Said : List ℕ → ℕ → ℕ → Outcome → Type 0
Said t a b Outcome.Joined = Plain t a b
Said t a b Outcome.JoinedGoDown = OneSymbol t a b
Said t a b Outcome.Clash = DifferentSymbols t a b

abbrev carrying : List ℕ → Symbol → GraphHead TableSymbols
carrying ys v = symbol v ys

module _ (t : List ℕ) (a b : ℕ) {s u : Symbol} {xs ys : List ℕ} (ha : (graph_of t).head a ≡ symbol s xs) (hb : (graph_of t).head b ≡ symbol u ys) where
  one_symbol_lem : s ≡ u → OneSymbol t a b
  one_symbol_lem e =
      record { named = s; left_children = xs; right_children = ys; left_head = ha; right_head = hb ∙ ap (carrying ys) (sym e) }

  two_symbols : (s ≡ u → ⊥) → DifferentSymbols t a b
  two_symbols d =
      record { left_symbol = s; left_children = xs; right_symbol = u; right_children = ys; left_head = ha; right_head = hb; different = d }

  -- two that have symbols agree, and then this is said of them, or clash
  agreed : (o : Outcome) → (OneSymbol t a b → Said t a b o) → (agree : Bool) → same_symbol s u ≡ agree → Said t a b (cond agree o Outcome.Clash)
  agreed o say true e = say (one_symbol_lem ((same_symbol_exactly s u).0 e))
  agreed o say false e = two_symbols (λ p. let h : same_symbol s u ≡ true = (same_symbol_exactly s u).1 p in never (cc))

pub said : {t : List ℕ} → Readable t → (a b : ℕ) → Node (graph_of t) a → Node (graph_of t) b → Said t a b (outcome_of (top t a) (top t b))
said {t} readable a b na nb = go (see readable a na) (see readable b nb)
  where
    to : {h k : Head} → top t a ≡ h → top t b ≡ k → Said t a b (outcome_of h k) → Said t a b (outcome_of (top t a) (top t b))
    to p q r = subst (Said t a b) (sym (ap₂ outcome_of p q)) r

    go : Seen t a → Seen t b → Said t a b (outcome_of (top t a) (top t b))
    go (variable_seen h d e) (variable_seen i f g) = to e g (left_variable h d)
    go (variable_seen h d e) (constant_seen i f g) = to e g (left_variable h d)
    go (variable_seen h d e) (function_seen i c g) = to e g (left_variable h d)
    go (constant_seen h d e) (variable_seen i f g) = to e g (right_variable i f)
    go (constant_seen h d e) (constant_seen i f g) = to e g (agreed t a b h i Outcome.Joined (λ o. constants o d f) _ refl)
    go (constant_seen h d e) (function_seen i c g) = to e g (two_symbols t a b h i (λ p. c (sym (ap (λ (v : Symbol). v.count) p))))
    go (function_seen h c e) (variable_seen i f g) = to e g (right_variable i f)
    go (function_seen h c e) (constant_seen i f g) = to e g (two_symbols t a b h i (λ p. c (ap (λ (v : Symbol). v.count) p)))
    go (function_seen h c e) (function_seen i d g) = to e g (agreed t a b h i Outcome.JoinedGoDown (λ o. o) _ refl)

-- the same, at what the functions return
pub said_at : {t : List ℕ} → Readable t → (a b : ℕ) → Node (graph_of t) a → Node (graph_of t) b
    → {h k : Head} {o p : Outcome} → h ≡ top t a → k ≡ top t b → o ≡ outcome_of h k → o ≡ p → Said t a b p
said_at {t} readable a b na nb eh ek eo ep = subst (Said t a b) (sym (ap₂ outcome_of eh ek) ∙ sym eo ∙ ep) (said readable a b na nb)
