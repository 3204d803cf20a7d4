-- What the row of a replayed log proves.
--
-- In order: ways down show a loop, falling ranks that there is none; keys by heads (`key-symbol` and on); the first node of a
-- class by key names it (`first_names`); a sound row that is closed is the class table, and has no clash; falling ranks show
-- that there is no cycle; a sound row shows a clash and a cycle. Assumes nothing.
use mathlib.Core.Path.{◌≡◌, refl, sym, ap, ◌∙◌, subst}
use mathlib.Core.Logic.{⊎_elim}
use mathlib.Core.Bool.{true}
use mathlib.Core.List.Memᴰ
use mathlib.Core.List.{List, [], ◌∷◌}
use Prim.Native.Nat.{ℕ, zero, suc, ◌+◌, ◌≤◌, ◌<◌}
use native.Mathlib.Omega.{arith}
use borrow.Author.Tests.{ltb-true, eqb-true}
use lib.ListN.{length, get_or}
use Rattle.graphs.specs.Graph.{Symbols, Head, nothing, variable, symbol, Graph, Node, variable_node, symbol_node, Child, Steps, one, more, WellFormed}
use Rattle.graphs.specs.Partition.{Pair, ◌∈◌, Sides, Same, itself, Clash, ClassStep, Cycle, Named, by_non_variable, by_variable, entry, ClassTable, key_of, key}
use Rattle.graphs.specs.Log.{holds_pairs, same_names, agrees_with, agrees, closed, ranks_fall, ranks_fall_at, ranked, differ_from, differ, clashes, Down, is_among, is_below, leads, cycles, leads_down, loops}
use Rattle.graphs.proofs.Classes.{never, same_labels, same_nodes}
use Rattle.graphs.proofs.Replay.{both_true, either_true, decide_true, decide-not, all_below_lem, Sound, one_entry_same, together_same}

-- ---- children

among : (y : ℕ) (xs : List ℕ) → is_among y xs ≡ true → (i : ℕ) × (i < length xs) × (get_or xs i 0 ≡ y)
unfolding is_among
among y [] e = never (cc)
among y (x ∷ xs) e =
    ⊎_elim (λ t. (0, (omega arith), eqb-true x y t))
    (λ t. let m : (i : ℕ) × (i < length xs) × (get_or xs i 0 ≡ y) = among y xs t in (suc m.0, (let h : m.0 < length xs = m.1 in omega arith), m.2))
    (either_true e)

module _ {S : Symbols} {G : Graph S} where
  below_child : (x y : ℕ) → is_below y (G.head x) ≡ true → Child G x y
  unfolding is_below
  below_child x y e = go (G.head x) refl e
    where
      go : (h : Head S) → G.head x ≡ h → is_below y h ≡ true → Child G x y
      go nothing q t = never (cc)
      go variable q t = never (cc)
      go (symbol s xs) q t =
          let m : (i : ℕ) × (i < length xs) × (get_or xs i 0 ≡ y) = among y xs t in
          (m.0, record { named = s; children = xs; stands = q; within = m.1; is = m.2 })

  parent_node : {x y : ℕ} → Child G x y → Node G x
  parent_node (i, d) = symbol_node d.stands

  -- ways down by the graph's own children that come back are a loop
  down_steps : (ways : List Down) {x y last : ℕ} → Child G x y → leads_down G y ways last ≡ true → Steps (Child G) x last
  unfolding leads_down
  down_steps [] {x} {y} {last} down e = one (subst (Child G x) (eqb-true y last e) down)
  down_steps (d ∷ ways) {x} {y} {last} down e =
      more (subst (Child G x) (eqb-true y d.parent (both_true e).0) down)
      (down_steps ways (below_child d.parent d.child (both_true (both_true e).1).0) (both_true (both_true e).1).1)

  pub loops_loop : (ways : List Down) → loops G ways ≡ true → (x : ℕ) × Steps (Child G) x x
  unfolding loops
  loops_loop [] e = never (cc)
  loops_loop (d ∷ ways) e = (d.parent, down_steps ways (below_child d.parent d.child (both_true e).0) (both_true e).1)

-- ---- falling ranks

ranks_fall_lem : (row ranks : List ℕ) (r : ℕ) (ys : List ℕ) → ranks_fall row ranks r ys ≡ true → (i : ℕ) → i < length ys → entry ranks (entry row (get_or ys i 0)) < r
unfolding ranks_fall
ranks_fall_lem row ranks r [] e i h = absurd (omega arith)
ranks_fall_lem row ranks r (y ∷ ys) e zero h = ltb-true (entry ranks (entry row y)) r (both_true e).0
ranks_fall_lem row ranks r (y ∷ ys) e (suc i) h = ranks_fall_lem row ranks r ys (both_true e).1 i (omega arith)

module _ {S : Symbols} {G : Graph S} (inside : (x : ℕ) → Node G x → x < G.size) (row ranks : List ℕ) (falls : ranked G row ranks ≡ true) where
  child_falls : {x y : ℕ} → Child G x y → entry ranks (entry row y) < entry ranks (entry row x)
  unfolding ranked ranks_fall_at
  child_falls {x} {y} (i, d) =
      subst (λ (z : ℕ). entry ranks (entry row z) < entry ranks (entry row x)) d.is
      (ranks_fall_lem row ranks (entry ranks (entry row x)) d.children
      (subst (λ (h : Head S). ranks_fall_at row ranks x h ≡ true) d.stands
      (all_below_lem (λ z. ranks_fall_at row ranks z (G.head z)) G.size falls x (inside x (symbol_node d.stands))))
      i d.within)

  children_fall : {x y : ℕ} → Steps (Child G) x y → entry ranks (entry row y) < entry ranks (entry row x)
  children_fall (one c) = child_falls c
  children_fall (more c rest) = omega (arith, child_falls c, children_fall rest)

  -- whatever the row is
  pub ranked_no_loop : (x : ℕ) → Steps (Child G) x x → ⊥
  ranked_no_loop x s = omega (arith, children_fall s)

-- ---- keys

module _ {S : Symbols} (G : Graph S) where
  pub key-symbol : {x : ℕ} {s : S.Symbol} {xs : List ℕ} → G.head x ≡ symbol s xs → key G x ≡ x
  unfolding key key_of
  key-symbol {x} e = ap (key_of G.size x) e

  pub key-variable : {x : ℕ} → G.head x ≡ variable → key G x ≡ G.size + x
  unfolding key key_of
  key-variable {x} e = ap (key_of G.size x) e

  pub key-nothing : {x : ℕ} → G.head x ≡ nothing → key G x ≡ G.size + x
  unfolding key key_of
  key-nothing {x} e = ap (key_of G.size x) e

module _ {S : Symbols} {G : Graph S} {pairs : List Pair} (wf : WellFormed G) (sides : Sides G pairs) where
  -- ---- names

  -- The node of a class that comes first by key names it.
  pub first_names : {x r : ℕ} → Same G pairs x r → ((y : ℕ) → Same G pairs x y → key G r ≤ key G y) → Named G pairs x r
  first_names {x} {r} same first = go (same_nodes wf sides same).1
    where
      not_symbol : {y : ℕ} → G.head r ≡ variable → Same G pairs x y → Node G y → G.head y ≡ variable
      not_symbol e s (variable_node v) = v
      not_symbol {y} e s (symbol_node h) =
          absurd (omega (arith, key-variable G e, key-symbol G h, first y s, wf.inside y (symbol_node h)))

      go : Node G r → Named G pairs x r
      go (symbol_node e) = by_non_variable same e (λ y t ys s h. omega (arith, key-symbol G e, key-symbol G h, first y s))
      go (variable_node e) =
          by_variable same (λ y s. not_symbol e s (same_nodes wf sides s).1)
          (λ y s. omega (arith, key-variable G e, key-variable G (not_symbol e s (same_nodes wf sides s).1), first y s))

  -- ---- a closed row

  holds_pairs_lem : (row : List ℕ) (p : Pair) {few : List Pair} → holds_pairs few row ≡ true → p ∈ few → entry row p.left ≡ entry row p.right
  unfolding holds_pairs
  holds_pairs_lem row p e (Memᴰ.head {x = q} {xs = rest} same) =
      ap (λ (u : Pair). entry row u.left) same
      ∙ eqb-true (entry row q.left) (entry row q.right) (both_true e).0
      ∙ sym (ap (λ (u : Pair). entry row u.right) same)
  holds_pairs_lem row p e (Memᴰ.tail {x = q} {xs = rest} m) = holds_pairs_lem row p (both_true e).1 m

  same_names_lem : (row xs ys : List ℕ) → same_names row xs ys ≡ true → (i : ℕ) → i < length xs → entry row (get_or xs i 0) ≡ entry row (get_or ys i 0)
  unfolding same_names
  same_names_lem row [] ys e i h = absurd (omega arith)
  same_names_lem row (x ∷ xs) [] e i h = never (cc)
  same_names_lem row (x ∷ xs) (y ∷ ys) e zero h = eqb-true (entry row x) (entry row y) (both_true e).0
  same_names_lem row (x ∷ xs) (y ∷ ys) e (suc i) h = same_names_lem row xs ys (both_true e).1 i (omega arith)

  module _ {row : List ℕ} (sound : Sound G pairs row) (shut : closed G pairs row ≡ true) where
    -- a node with a symbol has its class's name's symbol, and children of the same names
    as_name : {x : ℕ} {s : S.Symbol} {xs : List ℕ} → G.head x ≡ symbol s xs → (ys : List ℕ) × (G.head (entry row x) ≡ symbol s ys) × (same_names row xs ys ≡ true)
    unfolding closed agrees agrees_with
    as_name {x} {s} {xs} e =
        go (G.head (entry row x)) refl
        (subst (λ (h : Head S). agrees G row h (entry row x) ≡ true) e
        (all_below_lem (λ y. agrees G row (G.head y) (entry row y)) G.size (both_true shut).1 x (wf.inside x (symbol_node e))))
      where
        go : (h : Head S) → G.head (entry row x) ≡ h → agrees_with row s xs h ≡ true → (ys : List ℕ) × (G.head (entry row x) ≡ symbol s ys) × (same_names row xs ys ≡ true)
        go nothing q t = never (cc)
        go variable q t = never (cc)
        go (symbol s' ys) q t =
            (ys, q ∙ ap (λ (u : S.Symbol). symbol u ys) (sym (decide_true (S.decide s s') (both_true t).0)), (both_true t).1)

    one_name_lem : {x y : ℕ} → Same G pairs x y → entry row x ≡ entry row y
    unfolding closed
    one_name_lem =
        same_labels {G = G} (entry row) (λ p m. holds_pairs_lem row p (both_true shut).0 m)
        (λ x y s xs ys e ex ey i hx hy.
        let nx : (zs : List ℕ) × (G.head (entry row x) ≡ symbol s zs) × (same_names row xs zs ≡ true) = as_name ex in
        let ny : (zs : List ℕ) × (G.head (entry row y) ≡ symbol s zs) × (same_names row ys zs ≡ true) = as_name ey in
        let heads : G.head (entry row x) ≡ G.head (entry row y) = ap G.head e in
        let children : nx.0 ≡ ny.0 = cc in
        same_names_lem row xs nx.0 nx.2 i hx ∙ ap (λ (zs : List ℕ). entry row (get_or zs i 0)) children ∙ sym (same_names_lem row ys ny.0 ny.2 i hy))

    pub closed_class_table : ClassTable G pairs row
    closed_class_table =
        record {
          long = sound.long;
          named = λ x n. first_names (sound.with_entry x n) (λ y s. omega (arith, ap (key G) (one_name_lem s), sound.first y (same_nodes wf sides s).1));
          empty = sound.empty;
        }

    pub closed_no_clash : Clash G pairs → ⊥
    closed_no_clash c =
        c.different
        (let left : (zs : List ℕ) × (G.head (entry row c.left) ≡ symbol c.left_symbol zs) × (same_names row c.left_children zs ≡ true) = as_name c.left_head in
        let right : (zs : List ℕ) × (G.head (entry row c.right) ≡ symbol c.right_symbol zs) × (same_names row c.right_children zs ≡ true) = as_name c.right_head in
        let heads : G.head (entry row c.left) ≡ G.head (entry row c.right) = ap G.head (one_name_lem c.together) in
        cc)

    module _ (ranks : List ℕ) (falls : ranked G row ranks ≡ true) where
      step_falls : {x y : ℕ} → ClassStep G pairs x y → entry ranks (entry row y) < entry ranks (entry row x)
      step_falls c = omega (arith, ap (entry ranks) (one_name_lem c.from), child_falls wf.inside row ranks falls c.down, ap (entry ranks) (one_name_lem c.into))

      steps_fall : {x y : ℕ} → Steps (ClassStep G pairs) x y → entry ranks (entry row y) < entry ranks (entry row x)
      steps_fall (one c) = step_falls c
      steps_fall (more c rest) = omega (arith, step_falls c, steps_fall rest)

      pub ranked_no_cycle : Cycle G pairs → ⊥
      ranked_no_cycle (x, s) = omega (arith, steps_fall s)

  -- ---- a sound row shows a clash and a cycle

  module _ {row : List ℕ} (sound : Sound G pairs row) where
    pub clashes_clash : (x y : ℕ) → clashes G row x y ≡ true → Clash G pairs
    unfolding clashes differ differ_from
    clashes_clash x y e = left (G.head x) refl (both_true e).1
      where
        right : (s : S.Symbol) (xs : List ℕ) → G.head x ≡ symbol s xs → (k : Head S) → G.head y ≡ k → differ_from s k ≡ true → Clash G pairs
        right s xs ex nothing ey t = never (cc)
        right s xs ex variable ey t = never (cc)
        right s xs ex (symbol s' ys) ey t =
            record {
              left = x;
              right = y;
              together = together_same wf sides sound (both_true e).0;
              left_symbol = s;
              left_children = xs;
              right_symbol = s';
              right_children = ys;
              left_head = ex;
              right_head = ey;
              different = decide-not (S.decide s s') t;
            }

        left : (h : Head S) → G.head x ≡ h → differ h (G.head y) ≡ true → Clash G pairs
        left nothing ex t = never (cc)
        left variable ex t = never (cc)
        left (symbol s xs) ex t = right s xs ex (G.head y) refl t

    -- down from x, and along the ways into the class of `last`
    leads_steps : (ways : List Down) {x y last : ℕ} → Child G x y → Node G last → leads G row y ways last ≡ true → Steps (ClassStep G pairs) x last
    unfolding leads
    leads_steps [] {x} {y} {last} down n e =
        one
        (record {
          member = x;
          child = y;
          from = itself (parent_node down);
          down = down;
          into = one_entry_same wf sides sound (wf.child_node x y down) n (eqb-true (entry row y) (entry row last) e);
        })
    leads_steps (d ∷ ways) {x} {y} {last} down n e =
        let next : Child G d.parent d.child = below_child d.parent d.child (both_true (both_true e).1).0 in
        more
        (record {
          member = x;
          child = y;
          from = itself (parent_node down);
          down = down;
          into = one_entry_same wf sides sound (wf.child_node x y down) (parent_node next) (eqb-true (entry row y) (entry row d.parent) (both_true e).0);
        })
        (leads_steps ways next n (both_true (both_true e).1).1)

    pub cycles_cycle : (ways : List Down) → cycles G row ways ≡ true → Cycle G pairs
    unfolding cycles
    cycles_cycle [] e = never (cc)
    cycles_cycle (d ∷ ways) e =
        let down : Child G d.parent d.child = below_child d.parent d.child (both_true e).0 in
        (d.parent, leads_steps ways down (parent_node down) (both_true e).1)
