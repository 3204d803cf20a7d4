-- Two roots are joined: the later in the naming order hangs under the earlier.
--
-- In order: keys; the row after; the state; nothing is joined without a ground; nothing is forgotten; with no pair more
-- waiting (`joined_moved`), and with one (`pushed_moved`); a clash (`clash_stopped`). Assumes nothing.
use mathlib.Core.Path.{◌≡◌, refl, sym, ap, ◌∙◌, subst}
use mathlib.Core.Bool.{◌&&◌}
use mathlib.Core.Logic.{◌⊎◌, inl, inr, ⊎_elim}
use mathlib.Core.List.Memᴰ
use mathlib.Core.List.{List, ◌∷◌}
use Prim.Native.Nat.{ℕ, ◌+◌, ◌*◌, ◌≤◌, ◌<◌}
use native.Mathlib.Decide.{ℕ_discrete, dec_lt}
use native.Mathlib.Omega.{arith}
use lib.Dec.{eqb}
use lib.ListN.{length, get_or, set, length-set}
use lib.Seq.{get_or-set_same, get_or-set_other, drop-set-lt}
use Rattle.graphs.specs.Graph.{variable, symbol, Node, variable_node, symbol_node}
use Rattle.graphs.specs.Partition.{Pair, Same, swapped, entry, is_node, classes, key}
use Rattle.graphs.proofs.Certificates.{key-symbol, key-variable}
use Rattle.graphs.proofs.Classes.{never, nothing_no_node}
use Rattle.table.specs.Readable.{PassedCheck}
use Rattle.table.specs.Table.{TableSymbols, graph_of, degree, child_of}
use Rattle.classes.specs.Steps.Forest.{Forest}
use Rattle.classes.specs.Steps.Meeting.{OneSymbol, waiting_left, waiting_right, State, Config, Within, Agrees, Complete, Moved, Stopped, Ordered}
use Rattle.classes.proofs.Symbols.{one_symbol_degree, head_of_degree}
use Rattle.classes.proofs.Heads.{Plain, left_variable, right_variable, constants, DifferentSymbols}
use Rattle.classes.proofs.Counts.{count_one, own_node, own_counts, other_passes}

-- ---- keys

-- two nodes of one key are one
pub key_only : (t : List ℕ) → PassedCheck t → (a b : ℕ) → Node (graph_of t) a → Node (graph_of t) b → key (graph_of t) a ≡ key (graph_of t) b → a ≡ b
key_only t checked a b na nb e = go na nb (checked.well_formed.inside a na) (checked.well_formed.inside b nb)
  where
    go : Node (graph_of t) a → Node (graph_of t) b → a < length t → b < length t → a ≡ b
    go (variable_node h) (variable_node k) i j = omega (arith, e, key-variable (graph_of t) h, key-variable (graph_of t) k)
    go (variable_node h) (symbol_node k) i j = omega (arith, e, key-variable (graph_of t) h, key-symbol (graph_of t) k)
    go (symbol_node h) (variable_node k) i j = omega (arith, e, key-symbol (graph_of t) h, key-variable (graph_of t) k)
    go (symbol_node h) (symbol_node k) i j = omega (arith, e, key-symbol (graph_of t) h, key-symbol (graph_of t) k)

pub turned_about : {t : List ℕ} {f g : ℕ} → OneSymbol t f g → OneSymbol t g f
turned_about o =
    record { named = o.named; left_children = o.right_children; right_children = o.left_children; left_head = o.right_head; right_head = o.left_head }

module _ {t row : List ℕ} {name later : ℕ} (checked : PassedCheck t) (o : Ordered t row name later) where
  -- a name comes first, so where the later has a symbol the name has one too
  name_symbol : {s : TableSymbols.Symbol} {xs : List ℕ} → (graph_of t).head later ≡ symbol s xs → (graph_of t).head name ≡ variable → ⊥
  name_symbol h v =
      omega (arith, o.lower, key-symbol (graph_of t) h, key-variable (graph_of t) v, checked.well_formed.inside later o.later_node)

  pub plain_symbol : Plain t name later → {s : TableSymbols.Symbol} {xs : List ℕ} → (graph_of t).head later ≡ symbol s xs → OneSymbol t later name
  plain_symbol (left_variable v d) h = absurd (name_symbol h v)
  plain_symbol (right_variable v d) h = never (cc)
  plain_symbol (constants one d e) h = turned_about one

  pub plain_degree : Plain t name later → degree t later ≡ 0
  plain_degree (left_variable v d) = go o.later_node
    where
      go : Node (graph_of t) later → degree t later ≡ 0
      go (variable_node h) = none_there (ℕ_discrete (degree t later) 0)
        where
          none_there : Dec (degree t later ≡ 0) → degree t later ≡ 0
          none_there (yes e) = e
          none_there (no e) = let g : _ = head_of_degree t later 0 (omega arith) in let k : (graph_of t).head later ≡ symbol g.0 g.1 = g.2 in never (cc)
      go (symbol_node h) = absurd (name_symbol h v)
  plain_degree (right_variable v d) = d
  plain_degree (constants one d e) = e

-- ---- the row after

module _ {t row work : List ℕ} {waiting name later : ℕ} (checked : PassedCheck t) (state : State t row work waiting) (o : Ordered t row name later) where
  later_inside : later < length t
  later_inside = checked.well_formed.inside later o.later_node

  at_later : entry (set row later name) later ≡ name
  at_later = get_or-set_same row later name 0 (omega (arith, later_inside, state.forest.long))

  elsewhere : (x : ℕ) → (x ≡ later → ⊥) → entry (set row later name) x ≡ entry row x
  elsewhere x d = get_or-set_other row later x name 0 d

  linked_forest : Forest t (set row later name)
  linked_forest =
      record {
        long = omega (arith, state.forest.long, length-set row later name);
        inside = λ x h. inside x h (ℕ_discrete x later);
        falls = λ x h. falls x h (ℕ_discrete x later);
      }
    where
      inside : (x : ℕ) → x < length t → Dec (x ≡ later) → entry (set row later name) x < length t
      inside x h (yes e) = omega (arith, ap (entry (set row later name)) e, at_later, checked.well_formed.inside name o.name_node)
      inside x h (no d) = omega (arith, elsewhere x d, state.forest.inside x h)

      falls : (x : ℕ) → x < length t → Dec (x ≡ later) → (entry (set row later name) x ≡ x) ⊎ (key (graph_of t) (entry (set row later name) x) < key (graph_of t) x)
      falls x h (yes e) =
          inr (omega (arith, o.lower, ap (λ (z : ℕ). key (graph_of t) (entry (set row later name) z)) e, ap (key (graph_of t)) at_later, ap (key (graph_of t)) e))
      falls x h (no d) =
          ⊎_elim (λ e. inl (elsewhere x d ∙ e)) (λ l. inr (omega (arith, l, ap (key (graph_of t)) (elsewhere x d)))) (state.forest.falls x h)

  linked_classes : classes (graph_of t) row ≡ classes (graph_of t) (set row later name) + 1
  unfolding classes
  linked_classes =
      count_one (own_node (graph_of t) row) (own_node (graph_of t) (set row later name)) (length t) later later_inside
      (own_counts row o.later_node o.later_own)
      (other_passes (set row later name) o.later_node (λ e. different (sym at_later ∙ e)))
      (λ x h d. ap (λ (z : ℕ). is_node ((graph_of t).head x) && eqb z x) (sym (elsewhere x d)))
    where
      different : name ≡ later → ⊥
      different e = omega (arith, o.lower, ap (key (graph_of t)) e)

  -- ---- what may wait afterwards

  -- The work row and the number of waiting pairs after a join: those that waited wait on, and a new one is of the two roots.
  record Waits (work_after : List ℕ) (waiting_after : ℕ) : Type 0 where
    room : 2 * length t ≤ length work_after
    no_less : waiting ≤ waiting_after
    one_more : waiting_after ≤ waiting + 1
    same_left : (k : ℕ) → k < waiting → waiting_left work_after k ≡ waiting_left work k
    same_right : (k : ℕ) → k < waiting → waiting_right work_after k ≡ waiting_right work k
    new_left : (k : ℕ) → waiting ≤ k → k < waiting_after → waiting_left work_after k ≡ name
    new_right : (k : ℕ) → waiting ≤ k → k < waiting_after → waiting_right work_after k ≡ later
    new_symbol : waiting < waiting_after → OneSymbol t name later

  module _ {work_after : List ℕ} {waiting_after : ℕ} (w : Waits work_after waiting_after)
      (symbols : (s : TableSymbols.Symbol) (xs : List ℕ) → (graph_of t).head later ≡ symbol s xs → OneSymbol t later name) where
    waits_on : (k : ℕ) → k < waiting_after → Dec (k < waiting) → OneSymbol t (waiting_left work_after k) (waiting_right work_after k)
    waits_on k h (yes b) =
        subst (λ (f : ℕ). OneSymbol t f (waiting_right work_after k)) (sym (w.same_left k b))
        (subst (OneSymbol t (waiting_left work k)) (sym (w.same_right k b)) (state.waits k b))
    waits_on k h (no b) =
        subst (λ (f : ℕ). OneSymbol t f (waiting_right work_after k)) (sym (w.new_left k (omega arith) h))
        (subst (OneSymbol t name) (sym (w.new_right k (omega arith) h)) (w.new_symbol (omega arith)))

    linked_state : State t (set row later name) work_after waiting_after
    linked_state =
        record {
          forest = linked_forest;
          node_up = λ x n. nodes x n (ℕ_discrete x later);
          empty = λ x h e. elsewhere x (λ d. nothing_no_node e (subst (Node (graph_of t)) (sym d) o.later_node)) ∙ state.empty x h e;
          symbol_up = λ x e. symbol_at x e (ℕ_discrete x later);
          work_room = w.room;
          few = omega (arith, state.few, linked_classes, w.one_more);
          waits = λ k h. waits_on k h (dec_lt k waiting);
        }
      where
        nodes : (x : ℕ) → Node (graph_of t) x → Dec (x ≡ later) → Node (graph_of t) (entry (set row later name) x)
        nodes x n (yes e) = subst (Node (graph_of t)) (sym (ap (entry (set row later name)) e ∙ at_later)) o.name_node
        nodes x n (no d) = subst (Node (graph_of t)) (sym (elsewhere x d)) (state.node_up x n)

        symbol_at : (x : ℕ) {s : TableSymbols.Symbol} {xs : List ℕ} → (graph_of t).head x ≡ symbol s xs → Dec (x ≡ later) → OneSymbol t x (entry (set row later name) x)
        symbol_at x {s} {xs} h (yes e) =
            subst (λ (y : ℕ). OneSymbol t y (entry (set row later name) y)) (sym e)
            (subst (OneSymbol t later) (sym at_later) (symbols s xs (sym (ap (graph_of t).head e) ∙ h)))
        symbol_at x h (no d) = subst (OneSymbol t x) (sym (elsewhere x d)) (state.symbol_up x h)

    module _ (owed : List Pair) where
      met : Config
      met = record { row = row; work = work; waiting = waiting; owed = record { left = name; right = later } ∷ owed }

      joined : Config
      joined = record { row = set row later name; work = work_after; waiting = waiting_after; owed = owed }

      linked_within : (pairs : List Pair) → Within t pairs met → Within t pairs joined
      unfolding met joined
      linked_within pairs i =
          record {
            links = λ x n. links x n (ℕ_discrete x later);
            waiting = λ k h. waits k h (dec_lt k waiting);
            owed = λ p m. i.owed p (Memᴰ.tail m);
          }
        where
          together : Same (graph_of t) pairs name later
          together = i.owed (record { left = name; right = later }) (Memᴰ.head refl)

          links : (x : ℕ) → Node (graph_of t) x → Dec (x ≡ later) → Same (graph_of t) pairs x (entry (set row later name) x)
          links x n (yes e) =
              subst (λ (y : ℕ). Same (graph_of t) pairs y (entry (set row later name) y)) (sym e) (subst (Same (graph_of t) pairs later) (sym at_later) (swapped together))
          links x n (no d) = subst (Same (graph_of t) pairs x) (sym (elsewhere x d)) (i.links x n)

          waits : (k : ℕ) → k < waiting_after → Dec (k < waiting) → Same (graph_of t) pairs (waiting_left work_after k) (waiting_right work_after k)
          waits k h (yes b) =
              subst (λ (f : ℕ). Same (graph_of t) pairs f (waiting_right work_after k)) (sym (w.same_left k b))
              (subst (Same (graph_of t) pairs (waiting_left work k)) (sym (w.same_right k b)) (i.waiting k b))
          waits k h (no b) =
              subst (λ (f : ℕ). Same (graph_of t) pairs f (waiting_right work_after k)) (sym (w.new_left k (omega arith) h))
              (subst (Same (graph_of t) pairs name) (sym (w.new_right k (omega arith) h)) together)

      -- a labelling that agrees afterwards agreed before
      agreed : (q : ℕ → ℕ) → Agrees t joined q → Agrees t met q
      unfolding met joined
      agreed q a =
          record {
            links = λ x n. links x n (ℕ_discrete x later);
            waiting = λ k i h b.
                subst (λ (f : ℕ). q (child_of t f i) ≡ q (child_of t (waiting_right work k) i)) (w.same_left k h)
                (subst (λ (g : ℕ). q (child_of t (waiting_left work_after k) i) ≡ q (child_of t g i)) (w.same_right k h)
                (a.waiting k i (omega (arith, w.no_less)) (subst (λ (f : ℕ). i < degree t f) (sym (w.same_left k h)) b)));
            owed = λ p m. ⊎_elim (λ e. pair p e) (λ r. a.owed p r) (Memᴰ.cases_cons m);
          }
        where
          hangs : q later ≡ q name
          hangs = a.links later o.later_node ∙ ap q at_later

          links : (x : ℕ) → Node (graph_of t) x → Dec (x ≡ later) → q x ≡ q (entry row x)
          links x n (yes e) = sym (ap (λ (y : ℕ). q (entry row y)) e ∙ ap q o.later_own ∙ ap q (sym e))
          links x n (no d) = a.links x n ∙ ap q (elsewhere x d)

          pair : (p : Pair) → p ≡ record { left = name; right = later } → q p.left ≡ q p.right
          pair p e = ap (λ (r : Pair). q r.left) e ∙ sym hangs ∙ sym (ap (λ (r : Pair). q r.right) e)

      linked_complete : ((q : ℕ → ℕ) → Agrees t joined q → (i : ℕ) → i < degree t later → q (child_of t later i) ≡ q (child_of t name i))
          → (done : List Pair) → Complete t done met → Complete t done joined
      unfolding met joined
      linked_complete down done c =
          record {
            pairs = λ q a. c.pairs q (agreed q a);
            children = λ q a x i h. children q a x i h (ℕ_discrete x later);
          }
        where
          children : (q : ℕ → ℕ) → Agrees t joined q → (x i : ℕ) → i < degree t x → Dec (x ≡ later) → q (child_of t x i) ≡ q (child_of t (entry (set row later name) x) i)
          children q a x i h (yes e) =
              subst (λ (y : ℕ). q (child_of t y i) ≡ q (child_of t (entry (set row later name) y) i)) (sym e)
              (subst (λ (y : ℕ). q (child_of t later i) ≡ q (child_of t y i)) (sym at_later) (down q a i (subst (λ (y : ℕ). i < degree t y) e h)))
          children q a x i h (no d) = c.children q (agreed q a) x i h ∙ ap (λ (y : ℕ). q (child_of t y i)) (sym (elsewhere x d))

  -- ---- the three outcomes

  -- there is room for one more pair to wait
  pub room_to_wait : waiting < length t
  room_to_wait = omega (arith, state.few, linked_classes)

  pub joined_moved : Plain t name later → (owed : List Pair)
      → Moved t (record { row = row; work = work; waiting = waiting; owed = record { left = name; right = later } ∷ owed }) (record { row = set row later name; work = work; waiting = waiting; owed = owed })
  unfolding met joined
  joined_moved plain owed =
      record {
        state = linked_state waits symbols;
        within = linked_within waits symbols owed;
        complete = linked_complete waits symbols owed (λ q a i h. absurd (omega (arith, h, plain_degree checked o plain)));
        less = omega (arith, linked_classes);
        kept = record { row_long = length-set row later name; work_long = refl; row_behind = drop-set-lt (length t) row later name later_inside; work_behind = refl };
      }
    where
      symbols : (s : TableSymbols.Symbol) (xs : List ℕ) → (graph_of t).head later ≡ symbol s xs → OneSymbol t later name
      symbols s xs h = plain_symbol checked o plain h

      waits : Waits work waiting
      waits =
          record {
            room = state.work_room;
            no_less = omega arith;
            one_more = omega arith;
            same_left = λ k h. refl;
            same_right = λ k h. refl;
            new_left = λ k h b. absurd (omega arith);
            new_right = λ k h b. absurd (omega arith);
            new_symbol = λ h. absurd (omega arith);
          }

  pub pushed_moved : OneSymbol t name later → (owed : List Pair)
      → Moved t (record { row = row; work = work; waiting = waiting; owed = record { left = name; right = later } ∷ owed })
      (record { row = set row later name; work = set (set work (2 * waiting) name) (2 * waiting + 1) later; waiting = waiting + 1; owed = owed })
  unfolding met joined
  pushed_moved one owed =
      record {
        state = linked_state waits symbols;
        within = linked_within waits symbols owed;
        complete = linked_complete waits symbols owed down;
        less = omega (arith, linked_classes);
        kept =
            record {
              row_long = length-set row later name;
              work_long = length-set (set work (2 * waiting) name) (2 * waiting + 1) later ∙ length-set work (2 * waiting) name;
              row_behind = drop-set-lt (length t) row later name later_inside;
              work_behind =
                  drop-set-lt (2 * length t) (set work (2 * waiting) name) (2 * waiting + 1) later (omega (arith, room_to_wait))
                  ∙ drop-set-lt (2 * length t) work (2 * waiting) name (omega (arith, room_to_wait));
            };
      }
    where
      symbols : (s : TableSymbols.Symbol) (xs : List ℕ) → (graph_of t).head later ≡ symbol s xs → OneSymbol t later name
      symbols s xs h = turned_about one

      kept_at : (z : ℕ) → z < 2 * waiting → get_or (set (set work (2 * waiting) name) (2 * waiting + 1) later) z 0 ≡ get_or work z 0
      kept_at z h =
          get_or-set_other (set work (2 * waiting) name) (2 * waiting + 1) z later 0 (λ e. omega arith)
          ∙ get_or-set_other work (2 * waiting) z name 0 (λ e. omega arith)

      new_left : (k : ℕ) → waiting ≤ k → k < waiting + 1 → get_or (set (set work (2 * waiting) name) (2 * waiting + 1) later) (2 * k) 0 ≡ name
      new_left k h b =
          let e : k ≡ waiting = omega arith in
          ap (λ (z : ℕ). get_or (set (set work (2 * waiting) name) (2 * waiting + 1) later) (2 * z) 0) e
          ∙ get_or-set_other (set work (2 * waiting) name) (2 * waiting + 1) (2 * waiting) later 0 (λ d. omega arith)
          ∙ get_or-set_same work (2 * waiting) name 0 (omega (arith, room_to_wait, state.work_room))

      new_right : (k : ℕ) → waiting ≤ k → k < waiting + 1 → get_or (set (set work (2 * waiting) name) (2 * waiting + 1) later) (2 * k + 1) 0 ≡ later
      new_right k h b =
          let e : k ≡ waiting = omega arith in
          ap (λ (z : ℕ). get_or (set (set work (2 * waiting) name) (2 * waiting + 1) later) (2 * z + 1) 0) e
          ∙ get_or-set_same (set work (2 * waiting) name) (2 * waiting + 1) later 0 (omega (arith, room_to_wait, state.work_room, length-set work (2 * waiting) name))

      waits : Waits (set (set work (2 * waiting) name) (2 * waiting + 1) later) (waiting + 1)
      waits =
          record {
            room = omega (arith, state.work_room, length-set (set work (2 * waiting) name) (2 * waiting + 1) later, length-set work (2 * waiting) name);
            no_less = omega arith;
            one_more = omega arith;
            same_left = λ k h. kept_at (2 * k) (omega arith);
            same_right = λ k h. kept_at (2 * k + 1) (omega arith);
            new_left = new_left;
            new_right = new_right;
            new_symbol = λ h. one;
          }

      down : (q : ℕ → ℕ) → Agrees t (record { row = set row later name; work = set (set work (2 * waiting) name) (2 * waiting + 1) later; waiting = waiting + 1; owed = owed }) q
          → (i : ℕ) → i < degree t later → q (child_of t later i) ≡ q (child_of t name i)
      down q a i h =
          sym (
          subst (λ (f : ℕ). q (child_of t f i) ≡ q (child_of t later i)) (new_left waiting (omega arith) (omega arith))
          (subst (λ (g : ℕ). q (child_of t (waiting_left (set (set work (2 * waiting) name) (2 * waiting + 1) later) waiting) i) ≡ q (child_of t g i)) (new_right waiting (omega arith) (omega arith))
          (a.waiting waiting i (omega arith) (subst (λ (f : ℕ). i < degree t f) (sym (new_left waiting (omega arith) (omega arith))) (omega (arith, h, one_symbol_degree t checked.well_formed one)))))
          )

  pub pushed_at : OneSymbol t name later → {work_after : List ℕ} → work_after ≡ set (set work (2 * waiting) name) (2 * waiting + 1) later → (owed : List Pair)
      → Moved t (record { row = row; work = work; waiting = waiting; owed = record { left = name; right = later } ∷ owed })
      (record { row = set row later name; work = work_after; waiting = waiting + 1; owed = owed })
  pushed_at one e owed =
      subst (λ (u : List ℕ). Moved t (record { row = row; work = work; waiting = waiting; owed = record { left = name; right = later } ∷ owed }) (record { row = set row later name; work = u; waiting = waiting + 1; owed = owed }))
      (sym e) (pushed_moved one owed)

  pub clash_stopped : DifferentSymbols t name later → (owed : List Pair)
      → Stopped t (record { row = row; work = work; waiting = waiting; owed = record { left = name; right = later } ∷ owed }) row work
  clash_stopped d owed =
      record {
        clash = λ pairs i.
            record {
              left = name;
              right = later;
              together = i.owed (record { left = name; right = later }) (Memᴰ.head refl);
              left_symbol = d.left_symbol;
              left_children = d.left_children;
              right_symbol = d.right_symbol;
              right_children = d.right_children;
              left_head = d.left_head;
              right_head = d.right_head;
              different = d.different;
            };
        kept = record { row_long = refl; work_long = refl; row_behind = refl; work_behind = refl };
      }
