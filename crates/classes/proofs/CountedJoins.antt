-- The joins of a row, counted from the front by the row alone: a row that begins with a class table tells which addresses are
-- nodes (`front_names_nodes`), and so a turn of the loop counts right. Assumes nothing.
use mathlib.Core.Path.{◌≡◌, refl, sym, ap, ◌∙◌, subst}
use mathlib.Core.Bool.{Bool, true, false, not, ◌&&◌}
use mathlib.Core.Logic.{⊎_elim}
use mathlib.Core.List.{List}
use Prim.Native.Nat.{ℕ, ◌+◌, ◌≤◌, ◌<◌}
use native.Mathlib.Numerals.{add-one}
use native.Mathlib.Omega.{arith}
use lib.Dec.{eqb}
use lib.ListN.{length, take}
use lib.Seq.{get_or-take}
use Rattle.graphs.specs.Graph.{Symbols, Graph, Node, WellFormed}
use Rattle.graphs.specs.Partition.{Pair, Sides, ClassTable, entry, is_node, bit, count, joins, nodes, classes}
use Rattle.graphs.proofs.Classes.{node_or_nothing, name_node}
use Rattle.graphs.proofs.Replay.{node_is}
use Rattle.table.specs.Table.{graph_of}
use Rattle.classes.specs.Counting.{NamesNodes}
use Rattle.classes.proofs.Counts.{own_node}

-- ---- what the row tells

pub front_names_nodes : (t row : List ℕ) {pairs : List Pair} → WellFormed (graph_of t) → Sides (graph_of t) pairs
    → ClassTable (graph_of t) pairs (take (length t) row) → NamesNodes (graph_of t) row
front_names_nodes t row wf sides table =
    record {
      empty = λ x h e. sym (get_or-take (length t) row x 0 h) ∙ table.empty x e;
      named = λ x n e. wf.none_at_0 (subst (Node (graph_of t)) (get_or-take (length t) row x 0 (wf.inside x n) ∙ e) (name_node wf sides table x n));
    }

module _ {S : Symbols} {G : Graph S} {row : List ℕ} (names : NamesNodes G row) (x : ℕ) where
  pub entry_node : x < G.size → (entry row x ≡ 0 → ⊥) → is_node (G.head x) ≡ true
  entry_node h d = ⊎_elim node_is (λ e. absurd (d (names.empty x h e))) (node_or_nothing G x)

  pub entry_none : entry row x ≡ 0 → is_node (G.head x) ≡ false
  unfolding is_node
  entry_none z = ⊎_elim (λ n. absurd (names.named x n z)) (λ e. ap is_node e) (node_or_nothing G x)

-- ---- a turn of the loop

-- what its two tests say
pub other_name : {a b : Bool} → a ≡ true → b ≡ true → bit (a && b) ≡ 1
unfolding bit
other_name {b} e f = ap (λ (c : Bool). bit (c && b)) e ∙ ap bit f

pub own_name : {a b : Bool} → a ≡ true → b ≡ false → bit (a && b) ≡ 0
unfolding bit
own_name {b} e f = ap (λ (c : Bool). bit (c && b)) e ∙ ap bit f

pub no_name : {a : Bool} (b : Bool) → a ≡ false → bit (a && b) ≡ 0
unfolding bit
no_name b e = ap (λ (c : Bool). bit (c && b)) e

parted : (a b : Bool) → bit (a && b) + bit (a && not b) ≡ bit a
unfolding bit
parted true true = refl
parted true false = refl
parted false true = refl
parted false false = refl

-- how many of the first x addresses are nodes with another name than their own
pub record CountedBelow (t row : List ℕ) (joined x : ℕ) : Type 0 where
  pub so_far : joined + count (own_node (graph_of t) row) x ≡ count (λ y. is_node ((graph_of t).head y)) x
  pub few : joined ≤ x
  pub within : x ≤ length t

pub counted_none : (t row : List ℕ) → CountedBelow t row 0 0
unfolding count
counted_none t row = record { so_far = refl; few = omega arith; within = omega arith }

pub counted_more : {t row : List ℕ} {joined more x : ℕ} → CountedBelow t row joined x → x < length t
    → more ≡ joined + bit (is_node ((graph_of t).head x) && not (eqb (entry row x) x)) → CountedBelow t row more (x + 1)
unfolding count bit
counted_more {t} {row} {joined} {more} {x} c h e =
    record {
      so_far = rw add-one (omega (arith, c.so_far, parted (is_node ((graph_of t).head x)) (eqb (entry row x) x)));
      few = omega (arith, c.few, small (is_node ((graph_of t).head x) && not (eqb (entry row x) x)));
      within = omega arith;
    }
  where
    small : (a : Bool) → bit a ≤ 1
    small true = omega arith
    small false = omega arith

pub counted_all : {t row : List ℕ} {joined x : ℕ} → CountedBelow t row joined x → length t ≤ x → joined ≡ joins (graph_of t) row
unfolding joins nodes classes
counted_all {t} {row} {joined} {x} c h =
    let end : x ≡ length t = omega (arith, c.within) in
    let all : joined + classes (graph_of t) row ≡ nodes (graph_of t) = rw end at c.so_far in
    omega arith
