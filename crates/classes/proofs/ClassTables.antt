-- From a flat forest with nothing left to do to the class table (`flat_class_table`), and from a class table to a forest to go on
-- from (`class_table_start`). Assumes nothing.
use mathlib.Core.Path.{◌≡◌, refl, sym, ap, ◌∙◌, subst}
use mathlib.Core.Logic.{◌⊎◌, inl, inr, ⊎_elim}
use mathlib.Core.Bool.{Bool, true, false}
use mathlib.Core.List.Memᴰ
use mathlib.Core.List.{List, []}
use Prim.Native.Nat.{ℕ, zero, suc, ◌*◌, ◌≤◌, ◌<◌}
use native.Mathlib.Decide.{ℕ_discrete}
use native.Mathlib.Omega.{arith}
use borrow.Author.Tests.{ltb-true, leb-false}
use lib.Dec.{ltb}
use lib.ListN.{length, get_or, take, get_or-eq_default}
use lib.Seq.{get_or-take, length-take-le}
use Rattle.graphs.specs.Graph.{Symbols, Graph, nothing, variable, symbol, Node, variable_node, symbol_node, WellFormed}
use Rattle.graphs.specs.Partition.{Pair, Sides, Same, itself, paired, Clash, Named, by_non_variable, by_variable, ClassTable, entry, bit, count, classes, key}
use Rattle.graphs.proofs.Classes.{never, node_or_nothing, same_labels, same_nodes, together_one_entry, entry_together}
use Rattle.graphs.proofs.Certificates.{key-symbol, key-variable, key-nothing, first_names}
use Rattle.table.specs.Readable.{PassedCheck}
use Rattle.table.specs.Table.{TableSymbols, graph_of, degree, child_of}
use Rattle.table.proofs.Children.{symbol_length, symbol_child}
use Rattle.classes.specs.Steps.Forest.{Flattened}
use Rattle.classes.specs.Steps.Meeting.{OneSymbol, State, Within, Agrees, Complete, Moved}
use Rattle.classes.proofs.Symbols.{head_of_degree, head_0, one_symbol_children}
use Rattle.classes.proofs.Shortened.{config, shorter_moved}

-- ---- the front of a row

-- an entry of the front, for an address with a node and for one without
front_entry : (n : ℕ) (row : List ℕ) (x : ℕ) → x < n → entry (take n row) x ≡ entry row x
front_entry n row x h = get_or-take n row x 0 h

front_empty : (n : ℕ) (row : List ℕ) (x : ℕ) → n ≤ length row → (x < n → entry row x ≡ 0) → entry (take n row) x ≡ 0
front_empty n row x long f = go (ltb x n) refl
  where
    go : (b : Bool) → ltb x n ≡ b → entry (take n row) x ≡ 0
    go true e = front_entry n row x (ltb-true x n e) ∙ f (ltb-true x n e)
    go false e = get_or-eq_default (take n row) 0 (omega (arith, length-take-le n row long, leb-false (suc x) n e))

-- ---- the end of a list

module _ {t : List ℕ} {pairs : List Pair} (checked : PassedCheck t) (sides : Sides (graph_of t) pairs) where
  module _ {row work : List ℕ} (state : State t row work 0) (within : Within t pairs (config row work 0 [])) (complete : Complete t pairs (config row work 0 []))
      (flat : (x : ℕ) → x < length t → entry row (entry row x) ≡ entry row x) where
    own_labels : Agrees t (config row work 0 []) (entry row)
    own_labels =
        record {
          links = λ x n. sym (flat x (checked.well_formed.inside x n));
          waiting = λ k i h. absurd (omega arith);
          owed = λ p m. absurd (Memᴰ.not-nil m);
        }

    child_entry : (x : ℕ) {s : TableSymbols.Symbol} {xs : List ℕ} → (graph_of t).head x ≡ symbol s xs → (i : ℕ) → i < length xs
        → entry row (get_or xs i 0) ≡ entry row (child_of t (entry row x) i)
    child_entry x e i h =
        let below : i < degree t x = omega (arith, symbol_length t x e) in
        ap (entry row) (symbol_child t x e i below) ∙ complete.children (entry row) own_labels x i below

    one_entry : {x y : ℕ} → Same (graph_of t) pairs x y → entry row x ≡ entry row y
    one_entry =
        same_labels {G = graph_of t} (entry row) (complete.pairs (entry row) own_labels)
        (λ x y s xs ys e ex ey i hx hy. child_entry x ex i hx ∙ ap (λ (z : ℕ). entry row (child_of t z i)) e ∙ sym (child_entry y ey i hy))

    first : (x y : ℕ) → Same (graph_of t) pairs x y → key (graph_of t) (entry row x) ≤ key (graph_of t) y
    first x y s =
        let h : y < length t = checked.well_formed.inside y (same_nodes checked.well_formed sides s).1 in
        let e : key (graph_of t) (entry row x) ≡ key (graph_of t) (entry row y) = ap (key (graph_of t)) (one_entry s) in
        ⊎_elim (λ own. omega (arith, ap (key (graph_of t)) own)) (λ l. omega arith) (state.forest.falls y h)

    own_class_table : ClassTable (graph_of t) pairs (take (length t) row)
    own_class_table =
        record {
          long = length-take-le (length t) row state.forest.long;
          named = λ x n.
              subst (Named (graph_of t) pairs x) (sym (front_entry (length t) row x (checked.well_formed.inside x n)))
              (first_names checked.well_formed sides (within.links x n) (first x));
          empty = λ x e. front_empty (length t) row x state.forest.long (λ h. state.empty x h e);
        }

    own_no_clash : Clash (graph_of t) pairs → ⊥
    own_no_clash c =
        let one : OneSymbol t c.left (entry row c.left) = state.symbol_up c.left c.left_head in
        let two : OneSymbol t c.right (entry row c.right) = state.symbol_up c.right c.right_head in
        let a : (graph_of t).head c.left ≡ symbol c.left_symbol c.left_children = c.left_head in
        let b : (graph_of t).head c.right ≡ symbol c.right_symbol c.right_children = c.right_head in
        let d : (graph_of t).head c.left ≡ symbol one.named one.left_children = one.left_head in
        let e : (graph_of t).head c.right ≡ symbol two.named two.left_children = two.left_head in
        let f : (graph_of t).head (entry row c.left) ≡ symbol one.named one.right_children = one.right_head in
        let g : (graph_of t).head (entry row c.right) ≡ symbol two.named two.right_children = two.right_head in
        let h : (graph_of t).head (entry row c.left) ≡ (graph_of t).head (entry row c.right) = ap (graph_of t).head (one_entry c.together) in
        c.different (cc)

  pub flat_class_table : {row after work : List ℕ} → State t row work 0 → Within t pairs (config row work 0 []) → Complete t pairs (config row work 0 []) → Flattened t row after
      → ClassTable (graph_of t) pairs (take (length t) after) × (Clash (graph_of t) pairs → ⊥)
  flat_class_table {row} {after} {work} state within complete f =
      let m : Moved t (config row work 0 []) (config after work 0 []) = shorter_moved checked state f.shorter [] in (
        own_class_table m.state (m.within pairs within) (m.complete pairs complete) f.flat,
        own_no_clash m.state (m.within pairs within) (m.complete pairs complete) f.flat,
      )

-- ---- the start of a list

at_most : {m n : ℕ} → m ≤ n → (m ≡ n) ⊎ (m < n)
at_most {m} {n} h = go (ℕ_discrete m n)
  where
    go : Dec (m ≡ n) → (m ≡ n) ⊎ (m < n)
    go (yes e) = inl e
    go (no d) = inr (omega arith)

-- the name of a class is the node itself or comes earlier
named_falls : {S : Symbols} {G : Graph S} {pairs : List Pair} {x r : ℕ} → WellFormed G → Node G x → Named G pairs x r → (r ≡ x) ⊎ (key G r < key G x)
named_falls {S} {G} {pairs} {x} {r} wf (symbol_node e) (by_non_variable same f low) =
    ⊎_elim inl (λ l. inr (omega (arith, key-symbol G e, key-symbol G f))) (at_most (low x _ _ (itself (symbol_node e)) e))
named_falls {S} {G} {pairs} {x} {r} wf (variable_node e) (by_non_variable same f low) =
    inr (omega (arith, key-variable G e, key-symbol G f, wf.inside r (symbol_node f)))
named_falls {S} {G} {pairs} {x} {r} wf n (by_variable same only low) =
    ⊎_elim inl (λ l. inr (omega (arith, key-variable G (only x (itself n)), key-variable G (only r same)))) (at_most (low x (itself n)))

-- no more pass a test than are tested
pub count_below : (test : ℕ → Bool) (n : ℕ) → count test n ≤ n
unfolding count bit
count_below test zero = omega arith
count_below test (suc n) = omega (arith, count_below test n, small (test n))
  where
    small : (a : Bool) → bit a ≤ 1
    small true = omega arith
    small false = omega arith

pub classes_few : {S : Symbols} (G : Graph S) (row : List ℕ) → classes G row ≤ G.size
unfolding classes
classes_few G row = count_below _ G.size

module _ {t : List ℕ} (row work : List ℕ) {earlier : List Pair} (checked : PassedCheck t) (sides : Sides (graph_of t) earlier) (long : length t ≤ length row)
    (table : ClassTable (graph_of t) earlier (take (length t) row)) (no_clash : Clash (graph_of t) earlier → ⊥) (room : 2 * length t ≤ length work) where
  at : (x : ℕ) → x < length t → entry (take (length t) row) x ≡ entry row x
  at x h = front_entry (length t) row x h

  named_at : (x : ℕ) → Node (graph_of t) x → Named (graph_of t) earlier x (entry row x)
  named_at x n = subst (Named (graph_of t) earlier x) (at x (checked.well_formed.inside x n)) (table.named x n)

  same_at : (x : ℕ) → Node (graph_of t) x → Same (graph_of t) earlier x (entry row x)
  same_at x n =
      subst (Same (graph_of t) earlier x) (at x (checked.well_formed.inside x n)) (entry_together checked.well_formed sides table x n)

  node_at : (x : ℕ) → Node (graph_of t) x → Node (graph_of t) (entry row x)
  node_at x n = (same_nodes checked.well_formed sides (same_at x n)).1

  empty_at : (x : ℕ) → x < length t → (graph_of t).head x ≡ nothing → entry row x ≡ 0
  empty_at x h e = sym (at x h) ∙ table.empty x e

  symbol_at : (x : ℕ) {s : TableSymbols.Symbol} {xs : List ℕ} → (graph_of t).head x ≡ symbol s xs → OneSymbol t x (entry row x)
  symbol_at x {s} {xs} e = go (named_at x (symbol_node e))
    where
      one : {u : TableSymbols.Symbol} {us : List ℕ} → (graph_of t).head (entry row x) ≡ symbol u us → Dec (s ≡ u) → OneSymbol t x (entry row x)
      one {u} {us} f (yes q) =
          record {
            named = s;
            left_children = xs;
            right_children = us;
            left_head = e;
            right_head = f ∙ ap (λ (v : TableSymbols.Symbol). symbol v us) (sym q);
          }
      one {u} {us} f (no d) =
          absurd
          (no_clash
          (record {
            left = x;
            right = entry row x;
            together = same_at x (symbol_node e);
            left_symbol = s;
            left_children = xs;
            right_symbol = u;
            right_children = us;
            left_head = e;
            right_head = f;
            different = d;
          }))

      go : Named (graph_of t) earlier x (entry row x) → OneSymbol t x (entry row x)
      go (by_non_variable {s = u} same f low) = one f (TableSymbols.decide s u)
      go (by_variable same only low) = let v : (graph_of t).head x ≡ variable = only x (itself (symbol_node e)) in never (cc)

  inside_at : (x : ℕ) → x < length t → Node (graph_of t) x ⊎ ((graph_of t).head x ≡ nothing) → entry row x < length t
  inside_at x h (inl n) = checked.well_formed.inside (entry row x) (node_at x n)
  inside_at x h (inr e) = omega (arith, checked.readable.some_word, empty_at x h e)

  falls_at : (x : ℕ) → x < length t → Node (graph_of t) x ⊎ ((graph_of t).head x ≡ nothing) → (entry row x ≡ x) ⊎ (key (graph_of t) (entry row x) < key (graph_of t) x)
  falls_at x h (inl n) = named_falls checked.well_formed n (named_at x n)
  falls_at x h (inr e) = go (ℕ_discrete x 0)
    where
      go : Dec (x ≡ 0) → (entry row x ≡ x) ⊎ (key (graph_of t) (entry row x) < key (graph_of t) x)
      go (yes q) = inl (empty_at x h e ∙ sym q)
      go (no d) =
          inr (omega (
            arith,
            key-nothing (graph_of t) e,
            ap (key (graph_of t)) (empty_at x h e),
            key-nothing (graph_of t) (head_0 t checked.readable),
          ))

  start_state : State t row work 0
  start_state =
      record {
        forest = record { long = long; inside = λ x h. inside_at x h (node_or_nothing (graph_of t) x); falls = λ x h. falls_at x h (node_or_nothing (graph_of t) x) };
        node_up = node_at;
        empty = empty_at;
        symbol_up = λ x e. symbol_at x e;
        work_room = room;
        few = omega (arith, classes_few (graph_of t) row);
        waits = λ k h. absurd (omega arith);
      }

  start_within : Within t earlier (config row work 0 [])
  start_within = record { links = same_at; waiting = λ k h. absurd (omega arith); owed = λ p m. absurd (Memᴰ.not-nil m) }

  -- nodes that are together have one label
  label_at : (q : ℕ → ℕ) → Agrees t (config row work 0 []) q → {x y : ℕ} → Same (graph_of t) earlier x y → q x ≡ q y
  label_at q a {x} {y} s =
      let n : Node (graph_of t) x × Node (graph_of t) y = same_nodes checked.well_formed sides s in
      let e : entry row x ≡ entry row y = sym (at x (checked.well_formed.inside x n.0)) ∙ together_one_entry checked.well_formed sides table s ∙ at y (checked.well_formed.inside y n.1) in
      a.links x n.0 ∙ ap q e ∙ sym (a.links y n.1)

  start_complete : Complete t earlier (config row work 0 [])
  start_complete =
      record {
        pairs = λ q a p m. label_at q a (paired p m);
        children = λ q a x i h.
            let e = head_of_degree t x i h in
            label_at q a (one_symbol_children t checked.well_formed (symbol_at x e.2) i h (same_at x (symbol_node e.2)));
      }

  pub class_table_start : State t row work 0 × Within t earlier (config row work 0 []) × Complete t earlier (config row work 0 [])
  class_table_start = (start_state, start_within, start_complete)
