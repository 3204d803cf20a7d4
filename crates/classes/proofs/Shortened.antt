-- What shorter links keep: a state between two steps, what was joined and what is to be joined. So a step that finds the roots of
-- a pair moves on to the pair of roots, or past the pair where the roots are one. Assumes nothing.
use mathlib.Core.Path.{◌≡◌, refl, sym, ap, ◌∙◌, subst}
use mathlib.Core.Logic.{◌⊎◌, inl, inr, ⊎_elim}
use mathlib.Core.Bool.{Bool, true, false, ◌&&◌}
use mathlib.Core.List.Memᴰ
use mathlib.Core.List.{List, ◌∷◌}
use Prim.Native.Nat.{ℕ, ◌<◌}
use native.Mathlib.Omega.{arith}
use borrow.Author.Tests.{eqb-true, eqb-false}
use lib.Dec.{eqb}
use lib.ListN.{length}
use Rattle.graphs.specs.Graph.{Symbols, Graph, nothing, symbol, Node, symbol_node}
use Rattle.graphs.specs.Partition.{Pair, ◌∈◌, Same, itself, swapped, through, entry, is_node, classes}
use Rattle.table.specs.Readable.{PassedCheck}
use Rattle.table.specs.Table.{TableSymbols, graph_of, degree, child_of}
use Rattle.classes.specs.Steps.Forest.{Up, here, up, Shorter, Rooted}
use Rattle.classes.specs.Steps.Meeting.{OneSymbol, State, Config, Within, Agrees, Complete, Moved, Roots}
use Rattle.classes.proofs.Counts.{count_same}
use Rattle.classes.proofs.Moves.{moved_join}
use Rattle.classes.proofs.Symbols.{head_of_degree, head_0, one_symbol_degree}
use Rattle.classes.proofs.Links.{root_stops, root_exists, shorter_forest, shorter_own, shorter_root, shorter_join}

abbrev pub config : List ℕ → List ℕ → ℕ → List Pair → Config
config row work waiting owed = record { row = row; work = work; waiting = waiting; owed = owed }

-- ---- the number of classes

-- as many classes, where the same nodes are their own entries
pub classes_same : {S : Symbols} (G : Graph S) (row after : List ℕ) → ((x : ℕ) → x < G.size → entry after x ≡ x → entry row x ≡ x)
    → ((x : ℕ) → x < G.size → entry row x ≡ x → entry after x ≡ x) → classes G after ≡ classes G row
unfolding classes
classes_same G row after down back =
    count_same (λ x. is_node (G.head x) && eqb (entry after x) x) (λ x. is_node (G.head x) && eqb (entry row x) x) G.size
    (λ x h. ap (λ (b : Bool). is_node (G.head x) && b) (go x h (eqb (entry after x) x) refl (eqb (entry row x) x) refl))
  where
    go : (x : ℕ) → x < G.size → (a : Bool) → eqb (entry after x) x ≡ a → (b : Bool) → eqb (entry row x) x ≡ b → eqb (entry after x) x ≡ eqb (entry row x) x
    go x h true e true f = e ∙ sym f
    go x h true e false f = absurd (eqb-false (entry row x) x f (down x h (eqb-true (entry after x) x e)))
    go x h false e true f = absurd (eqb-false (entry after x) x e (back x h (eqb-true (entry row x) x f)))
    go x h false e false f = e ∙ sym f

-- ---- symbols

pub one_symbol_itself : (t : List ℕ) {x : ℕ} {s : TableSymbols.Symbol} {xs : List ℕ} → (graph_of t).head x ≡ symbol s xs → OneSymbol t x x
one_symbol_itself t {x} {s} {xs} e = record { named = s; left_children = xs; right_children = xs; left_head = e; right_head = e }

pub one_symbol_join : {t : List ℕ} {f g h : ℕ} → OneSymbol t f g → OneSymbol t g h → OneSymbol t f h
one_symbol_join {t} {f} {g} {h} one two =
    let left : (graph_of t).head g ≡ symbol one.named one.right_children = one.right_head in
    let right : (graph_of t).head g ≡ symbol two.named two.left_children = two.left_head in
    let same : two.named ≡ one.named = cc in
    record {
      named = one.named;
      left_children = one.left_children;
      right_children = two.right_children;
      left_head = one.left_head;
      right_head = two.right_head ∙ ap (λ (s : TableSymbols.Symbol). symbol s two.right_children) same;
    }

-- ---- along links

module _ {t row work : List ℕ} {waiting : ℕ} (checked : PassedCheck t) (state : State t row work waiting) where
  pub up_node : {x y : ℕ} → Node (graph_of t) x → Up row x y → Node (graph_of t) y
  up_node n here = n
  up_node n (up {x} u) = up_node (state.node_up x n) u

  pub up_symbol : {x y : ℕ} {s : TableSymbols.Symbol} {xs : List ℕ} → (graph_of t).head x ≡ symbol s xs → Up row x y → OneSymbol t x y
  up_symbol e here = one_symbol_itself t e
  up_symbol e (up {x} u) = one_symbol_join (state.symbol_up x e) (up_symbol (state.symbol_up x e).right_head u)

  up_empty : {x y : ℕ} → x < length t → (graph_of t).head x ≡ nothing → Up row x y → (y ≡ x) ⊎ (y ≡ 0)
  up_empty h e here = inl refl
  up_empty h e (up {x} {y} u) =
      inr (root_stops (state.empty 0 checked.readable.some_word (head_0 t checked.readable)) (subst (λ (z : ℕ). Up row z y) (state.empty x h e) u))

  pub up_same : {pairs owed : List Pair} → Within t pairs (config row work waiting owed) → {x y : ℕ} → Node (graph_of t) x → Up row x y → Same (graph_of t) pairs x y
  up_same w n here = itself n
  up_same w n (up {x} u) = through (w.links x n) (up_same w (state.node_up x n) u)

  pub up_label : {q : ℕ → ℕ} → ((x : ℕ) → Node (graph_of t) x → q x ≡ q (entry row x)) → {x y : ℕ} → Node (graph_of t) x → Up row x y → q x ≡ q y
  up_label a n here = refl
  up_label a n (up {x} u) = a x n ∙ up_label a (state.node_up x n) u

  pub up_children : (q : ℕ → ℕ) → ((x i : ℕ) → i < degree t x → q (child_of t x i) ≡ q (child_of t (entry row x) i))
      → {x y : ℕ} → (i : ℕ) → i < degree t x → Up row x y → q (child_of t x i) ≡ q (child_of t y i)
  up_children q a i h here = refl
  up_children q a i h (up {x} u) =
      a x i h ∙ up_children q a i (omega (arith, one_symbol_degree t checked.well_formed (state.symbol_up x (head_of_degree t x i h).2))) u

  -- ---- shorter links

  module _ {after : List ℕ} (shorter : Shorter t row after) where
    same_classes : classes (graph_of t) after ≡ classes (graph_of t) row
    same_classes = classes_same (graph_of t) row after shorter.own (λ x h. shorter_own state.forest shorter h)

    pub shorter_state : State t after work waiting
    shorter_state =
        record {
          forest = shorter_forest state.forest shorter;
          node_up = λ x n. up_node n (shorter.reached x (checked.well_formed.inside x n));
          empty = λ x h e. ⊎_elim (λ same. same ∙ sym (shorter.own x h same) ∙ state.empty x h e) (λ zero_there. zero_there) (up_empty h e (shorter.reached x h));
          symbol_up = λ x e. up_symbol e (shorter.reached x (checked.well_formed.inside x (symbol_node e)));
          work_room = state.work_room;
          few = omega (arith, state.few, same_classes);
          waits = state.waits;
        }

    module _ (owed : List Pair) where
      within_kept : (pairs : List Pair) → Within t pairs (config row work waiting owed) → Within t pairs (config after work waiting owed)
      within_kept pairs w =
          record {
            links = λ x n. up_same w n (shorter.reached x (checked.well_formed.inside x n));
            waiting = w.waiting;
            owed = w.owed;
          }

      -- both ends of a link keep their root
      agrees_kept : (q : ℕ → ℕ) → Agrees t (config after work waiting owed) q → Agrees t (config row work waiting owed) q
      agrees_kept q a = record { links = link; waiting = a.waiting; owed = a.owed }
        where
          link : (x : ℕ) → Node (graph_of t) x → q x ≡ q (entry row x)
          link x n =
              let h : x < length t = checked.well_formed.inside x n in
              let m : Node (graph_of t) (entry row x) = state.node_up x n in
              let i : entry row x < length t = checked.well_formed.inside (entry row x) m in
              let w : (r : ℕ) × Up row (entry row x) r × (entry row r ≡ r) × (r < length t) = root_exists state.forest (entry row x) i in
              label_after n (shorter_root state.forest shorter h w.2 (up w.1)).0
              ∙ sym (label_after m (shorter_root state.forest shorter i w.2 w.1).0)
            where
              label_after : {y z : ℕ} → Node (graph_of t) y → Up after y z → q y ≡ q z
              label_after m here = refl
              label_after m (up {x = y} u) = a.links y m ∙ label_after (shorter_state.node_up y m) u

      complete_kept : (done : List Pair) → Complete t done (config row work waiting owed) → Complete t done (config after work waiting owed)
      complete_kept done c =
          record {
            pairs = λ q a. c.pairs q (agrees_kept q a);
            children = λ q a x i h.
                up_children q (c.children q (agrees_kept q a)) i h
                (shorter.reached x (checked.well_formed.inside x (symbol_node (head_of_degree t x i h).2)));
          }

      pub shorter_moved : Moved t (config row work waiting owed) (config after work waiting owed)
      shorter_moved =
          record {
            state = shorter_state;
            within = within_kept;
            complete = complete_kept;
            less = omega (arith, same_classes);
            kept = record { row_long = shorter.long; work_long = refl; row_behind = shorter.behind; work_behind = refl };
          }

  -- ---- other pairs to meet, on the same ground

  pub owed_moved : (before after : List Pair)
      → ((pairs : List Pair) → Within t pairs (config row work waiting before) → (p : Pair) → p ∈ after → Same (graph_of t) pairs p.left p.right)
      → ((q : ℕ → ℕ) → Agrees t (config row work waiting after) q → (p : Pair) → p ∈ before → q p.left ≡ q p.right)
      → Moved t (config row work waiting before) (config row work waiting after)
  owed_moved before after same label =
      record {
        state = state;
        within = λ pairs w. record { links = w.links; waiting = w.waiting; owed = same pairs w };
        complete = λ done c. record { pairs = λ q a. c.pairs q (back q a); children = λ q a. c.children q (back q a) };
        less = omega arith;
        kept = record { row_long = refl; work_long = refl; row_behind = refl; work_behind = refl };
      }
    where
      back : (q : ℕ → ℕ) → Agrees t (config row work waiting after) q → Agrees t (config row work waiting before) q
      back q a = record { links = a.links; waiting = a.waiting; owed = label q a }

  module _ {left right a b : ℕ} (owed : List Pair) (left_node : Node (graph_of t) left) (right_node : Node (graph_of t) right) (to_left : Up row left a) (to_right : Up row right b) where
    label_both : (q : ℕ → ℕ) → ((x : ℕ) → Node (graph_of t) x → q x ≡ q (entry row x)) → q a ≡ q b → q left ≡ q right
    label_both q links e = up_label links left_node to_left ∙ e ∙ sym (up_label links right_node to_right)

    -- a pair of nodes gives way to the pair of their roots
    pub owed_roots : Moved t (config row work waiting (record { left = left; right = right } ∷ owed)) (config row work waiting (record { left = a; right = b } ∷ owed))
    owed_roots =
        owed_moved (record { left = left; right = right } ∷ owed) (record { left = a; right = b } ∷ owed)
        (λ pairs w p m.
        ⊎_elim
        (λ e. subst (λ (p : Pair). Same (graph_of t) pairs p.left p.right) (sym e)
        (through (swapped (up_same w left_node to_left)) (through (w.owed (record { left = left; right = right }) (Memᴰ.head refl)) (up_same w right_node to_right))))
        (λ m. w.owed p (Memᴰ.tail m))
        (Memᴰ.cases_cons m))
        (λ q g p m.
        ⊎_elim
        (λ e. subst (λ (p : Pair). q p.left ≡ q p.right) (sym e) (label_both q g.links (g.owed (record { left = a; right = b }) (Memᴰ.head refl))))
        (λ m. g.owed p (Memᴰ.tail m))
        (Memᴰ.cases_cons m))

    -- a pair of nodes under one root is done
    pub owed_same : a ≡ b → Moved t (config row work waiting (record { left = left; right = right } ∷ owed)) (config row work waiting owed)
    owed_same one =
        owed_moved (record { left = left; right = right } ∷ owed) owed
        (λ pairs w p m. w.owed p (Memᴰ.tail m))
        (λ q g p m.
        ⊎_elim
        (λ e. subst (λ (p : Pair). q p.left ≡ q p.right) (sym e) (label_both q g.links (ap q one)))
        (λ m. g.owed p m)
        (Memᴰ.cases_cons m))

-- ---- the roots of a pair

-- the roots a and b of two nodes, in the row with shorter links
pub record FoundRoots (t after : List ℕ) (left right a b : ℕ) : Type 0 where
  pub left_node : Node (graph_of t) a
  pub right_node : Node (graph_of t) b
  pub left_own : entry after a ≡ a
  pub right_own : entry after b ≡ b
  pub left_reached : Up after left a
  pub right_reached : Up after right b

pub two_roots : {t after : List ℕ} {left right a b : ℕ} → FoundRoots t after left right a b → (a ≡ b → ⊥) → Roots t after a b
two_roots f d =
    record { left_node = f.left_node; right_node = f.right_node; left_own = f.left_own; right_own = f.right_own; different = d }

module _ {t row mid after work : List ℕ} {waiting left right a b : ℕ} (checked : PassedCheck t) (state : State t row work waiting)
    (first : Rooted t row left a mid) (second : Rooted t mid right b after) (left_node : Node (graph_of t) left) (right_node : Node (graph_of t) right) where
  both_shorter : Shorter t row after
  both_shorter = shorter_join state.forest first.shorter second.shorter

  mid_state : State t mid work waiting
  mid_state = shorter_state checked state first.shorter

  pub roots_state : State t after work waiting
  roots_state = shorter_state checked state both_shorter

  pub roots_nodes : FoundRoots t after left right a b
  roots_nodes =
      let l : Up after left a × (entry after a ≡ a) = shorter_root state.forest both_shorter (checked.well_formed.inside left left_node) first.own first.reached in
      let r : Up after right b × (entry after b ≡ b) = shorter_root mid_state.forest second.shorter (checked.well_formed.inside right right_node) second.own second.reached in
      record {
        left_node = up_node checked state left_node first.reached;
        right_node = up_node checked mid_state right_node second.reached;
        left_own = l.1;
        right_own = r.1;
        left_reached = l.0;
        right_reached = r.0;
      }

  pub roots_moved : (owed : List Pair)
      → Moved t (config row work waiting (record { left = left; right = right } ∷ owed)) (config after work waiting (record { left = a; right = b } ∷ owed))
  roots_moved owed =
      moved_join (shorter_moved checked state both_shorter (record { left = left; right = right } ∷ owed))
      (owed_roots checked roots_state owed left_node right_node roots_nodes.left_reached roots_nodes.right_reached)

  pub same_root_moved : a ≡ b → (owed : List Pair)
      → Moved t (config row work waiting (record { left = left; right = right } ∷ owed)) (config after work waiting owed)
  same_root_moved one owed =
      moved_join (shorter_moved checked state both_shorter (record { left = left; right = right } ∷ owed))
      (owed_same checked roots_state owed left_node right_node roots_nodes.left_reached roots_nodes.right_reached one)
