-- Unifiers of a list: what they show of its partition, and what its partition gives.
--
-- In order: a unifier is equal on what is together (`unifier_together`), so there is no clash and no cycle; without a cycle
-- there is an induction along classes (`class_induction`); a class without a clash has its name's symbol (`name_symbol`); the
-- answer unfolds (`answer_unfolds`) and is the resolved term of each node (`resolved`); so it unifies, follows the rule, is
-- the only one that does, and is most general. Assumes nothing.
use mathlib.Core.Path.{◌≡◌, refl, sym, ap, ◌∙◌, subst}
use mathlib.Core.Logic.{⊎_elim}
use mathlib.Core.List.{List}
use Prim.Native.Nat.{ℕ, ◌<◌}
use native.Mathlib.Omega.{arith}
use lib.ListN.{get_or}
use Rattle.graphs.specs.Graph.{Symbols, variable, symbol, Graph, Node, variable_node, symbol_node, Child, Steps, one, more, WellFormed}
use Rattle.graphs.specs.Partition.{Pair, Sides, Same, itself, paired, placed, Clash, ClassStep, Cycle, Named, by_non_variable, by_variable, entry, ClassTable}
use Rattle.graphs.specs.Term.{Term, var, app, Replacement, apply, each, grown, below, Unifies, FollowsRule, answer}
use Rattle.graphs.proofs.Finite.{short_of_no_return, short_induction, steps_map}
use Rattle.graphs.proofs.Classes.{node_or_nothing, never, child_at, same_labels, same_nodes, together_one_entry, entry_together, name_node}
use Rattle.graphs.proofs.Trees.{each_agrees, each_agreed, each-apply, size, part_smaller, tree_unfolds, apply-below-variable, apply-below-symbol}

-- ---- what a unifier shows

module _ {S : Symbols} {G : Graph S} {pairs : List Pair} (wf : WellFormed G) (θ : Replacement S) (unifies : Unifies G pairs θ) where
  -- θ of the term below a node
  abbrev value : ℕ → Term S
  value x = apply θ (below G x)

  pub unifier_together : {x y : ℕ} → Same G pairs x y → apply θ (below G x) ≡ apply θ (below G y)
  unifier_together =
      same_labels {G = G} value unifies
      (λ x y s xs ys e ex ey i hx hy.
      each_agreed value value xs ys
      (let vx : value x ≡ app s (each value xs) = apply-below-symbol wf θ x ex in
      let vy : value y ≡ app s (each value ys) = apply-below-symbol wf θ y ey in
      cc)
      i hx hy)

  pub unifier_no_clash : Clash G pairs → ⊥
  unifier_no_clash c =
      c.different
      (let vx : value c.left ≡ app c.left_symbol (each value c.left_children) = apply-below-symbol wf θ c.left c.left_head in
      let vy : value c.right ≡ app c.right_symbol (each value c.right_children) = apply-below-symbol wf θ c.right c.right_head in
      let e : value c.left ≡ value c.right = unifier_together c.together in
      cc)

  child_smaller : {x y : ℕ} → Child G x y → size (value y) < size (value x)
  unfolding size
  child_smaller {x} {y} (i, c) =
      let vx : value x ≡ app c.named (each value c.children) = apply-below-symbol wf θ x c.stands in
      let vy : value (get_or c.children i 0) ≡ value y = ap value c.is in
      omega (arith, ap size vx, ap size vy, part_smaller value c.children i c.within)

  step_smaller : {x y : ℕ} → ClassStep G pairs x y → size (value y) < size (value x)
  step_smaller {x} {y} c =
      omega (arith, ap size (unifier_together c.from), child_smaller c.down, ap size (unifier_together c.into))

  steps_smaller : {x y : ℕ} → Steps (ClassStep G pairs) x y → size (value y) < size (value x)
  steps_smaller (one r) = step_smaller r
  steps_smaller (more r rest) = omega (arith, step_smaller r, steps_smaller rest)

  pub unifier_no_cycle : Cycle G pairs → ⊥
  unifier_no_cycle (x, s) = omega (arith, steps_smaller s)

-- ---- induction along classes

module _ {S : Symbols} {G : Graph S} {pairs : List Pair} (wf : WellFormed G) (sides : Sides G pairs) where
  pub class_induction : (Cycle G pairs → ⊥) → (P : ℕ → Type 0) → ((x : ℕ) → Node G x → ((y : ℕ) → ClassStep G pairs x y → P y) → P x) → (x : ℕ) → Node G x → P x
  class_induction no_cycle P f x n =
      short_induction {R = ClassStep G pairs} (λ y. Node G y → P y)
      (λ y below m. f y m (λ z c. below z c (after c)))
      G.size x
      (short_of_no_return (ClassStep G pairs) (λ y s. no_cycle (y, s)) G.size (λ y z c. wf.inside z (after c)) x (wf.inside x n))
      n
    where
      after : {y z : ℕ} → ClassStep G pairs y z → Node G z
      after c = (same_nodes wf sides c.into).1

-- ---- the answer

module _ {S : Symbols} {G : Graph S} {pairs : List Pair} {table : List ℕ} (wf : WellFormed G) (sides : Sides G pairs) (c : ClassTable G pairs table) where
  -- a child of a class's name is a step of the class
  name_step : {x y : ℕ} → Node G x → Child G (entry table x) y → ClassStep G pairs x y
  name_step {x} {y} n d =
      record {
        member = entry table x;
        child = y;
        from = entry_together wf sides c x n;
        down = d;
        into = itself (wf.child_node (entry table x) y d);
      }

  own_step : {x y : ℕ} → Node G x → Child G x y → ClassStep G pairs x y
  own_step {x} {y} n d = record { member = x; child = y; from = itself n; down = d; into = itself (wf.child_node x y d) }

  -- what has no node has no name that has children
  has_node : {x y : ℕ} → Child G (entry table x) y → Node G x
  has_node {x} (i, d) = ⊎_elim (λ n. n) (λ e. absurd (wf.none_at_0 (subst (Node G) (c.empty x e) (symbol_node d.stands)))) (node_or_nothing G x)

  module _ (no_clash : Clash G pairs → ⊥) where
    one_symbol_lem : {x y : ℕ} {s t : S.Symbol} {xs ys : List ℕ} → Same G pairs x y → G.head x ≡ symbol s xs → G.head y ≡ symbol t ys → s ≡ t
    one_symbol_lem {x} {y} {s} {t} {xs} {ys} together ex ey = go (S.decide s t)
      where
        go : Dec (s ≡ t) → s ≡ t
        go (yes e) = e
        go (no e) =
            absurd
            (no_clash
            (record {
              left = x;
              right = y;
              together = together;
              left_symbol = s;
              left_children = xs;
              right_symbol = t;
              right_children = ys;
              left_head = ex;
              right_head = ey;
              different = e;
            }))

    -- the class of a non-variable is named by a node with the same symbol
    pub name_symbol : {x : ℕ} {s : S.Symbol} {xs : List ℕ} → G.head x ≡ symbol s xs → (ys : List ℕ) × (G.head (entry table x) ≡ symbol s ys)
    name_symbol {x} {s} {xs} ex = go (c.named x (symbol_node ex))
      where
        go : Named G pairs x (entry table x) → (ys : List ℕ) × (G.head (entry table x) ≡ symbol s ys)
        go (by_non_variable {s = t} {children = ys} together e low) =
            (ys, e ∙ ap (λ (u : S.Symbol). symbol u ys) (sym (one_symbol_lem together ex e)))
        go (by_variable together only low) = let v : G.head x ≡ variable = only x (itself (symbol_node ex)) in never (cc)

  module _ (no_cycle : Cycle G pairs → ⊥) where
    pub answer_unfolds : (x : ℕ) → Node G x → answer G table x ≡ grown (answer G table) (entry table x) (G.head (entry table x))
    unfolding answer
    answer_unfolds x n =
        tree_unfolds G (entry table) G.size x
        (short_of_no_return (λ y z. Child G (entry table y) z)
        (λ y s. no_cycle (y, steps_map (λ u v d. name_step (has_node d) d) s))
        G.size
        (λ y z d. wf.inside z (wf.child_node (entry table y) z d))
        x
        (wf.inside x n))

    answer-variable : (x : ℕ) → Node G x → G.head (entry table x) ≡ variable → answer G table x ≡ var (entry table x)
    unfolding grown
    answer-variable x n e = answer_unfolds x n ∙ ap (grown (answer G table) (entry table x)) e

    answer-symbol : (x : ℕ) → Node G x → {s : S.Symbol} {ys : List ℕ} → G.head (entry table x) ≡ symbol s ys → answer G table x ≡ app s (each (answer G table) ys)
    unfolding grown
    answer-symbol x n {s} {ys} e = answer_unfolds x n ∙ ap (grown (answer G table) (entry table x)) e

    -- the answer at a node is that of its class
    answer_of_class : {x y : ℕ} → Same G pairs x y → answer G table x ≡ answer G table y
    answer_of_class {x} {y} s =
        let n : Node G x × Node G y = same_nodes wf sides s in
        answer_unfolds x n.0
        ∙ ap (λ (r : ℕ). grown (answer G table) r (G.head r)) (together_one_entry wf sides c s)
        ∙ sym (answer_unfolds y n.1)

    module _ (no_clash : Clash G pairs → ⊥) where
      -- Where σ gives each variable its answer, σ of the term below a node is the node's answer. The step for variables may
      -- use what is known further down.
      resolved : (σ : Replacement S)
          → ((x : ℕ) → G.head x ≡ variable → ((y : ℕ) → ClassStep G pairs x y → apply σ (below G y) ≡ answer G table y) → σ x ≡ answer G table x)
          → (x : ℕ) → Node G x → apply σ (below G x) ≡ answer G table x
      resolved σ on_variables =
          class_induction wf sides no_cycle (λ x. apply σ (below G x) ≡ answer G table x) (λ x n below. at x n below n)
        where
          at : (x : ℕ) → Node G x → ((y : ℕ) → ClassStep G pairs x y → apply σ (below G y) ≡ answer G table y) → Node G x → apply σ (below G x) ≡ answer G table x
          at x n down (variable_node e) = apply-below-variable wf σ x e ∙ on_variables x e down
          at x n down (symbol_node {s} {children = xs} e) =
              let named : (ys : List ℕ) × (G.head (entry table x) ≡ symbol s ys) = name_symbol no_clash e in
              apply-below-symbol wf σ x e
              ∙ ap (app s)
              (each_agrees (λ y. apply σ (below G y)) (answer G table) xs named.0
              (wf.counted x s xs e ∙ sym (wf.counted (entry table x) s named.0 named.1))
              (λ i hx hy. down (get_or xs i 0) (own_step n (child_at e i hx)) ∙ answer_of_class (placed (entry_together wf sides c x n) e named.1 i hx hy)))
              ∙ sym (answer-symbol x n named.1)

      -- the answer of the term below a node is the node's answer
      answer-below : (x : ℕ) → Node G x → apply (answer G table) (below G x) ≡ answer G table x
      answer-below = resolved (answer G table) (λ x e down. refl)

      pub answer_unifies : Unifies G pairs (answer G table)
      answer_unifies p m =
          let n : Node G p.left × Node G p.right = sides p m in
          answer-below p.left n.0 ∙ answer_of_class (paired p m) ∙ sym (answer-below p.right n.1)

      pub answer_follows_rule : FollowsRule G pairs table (answer G table)
      answer_follows_rule =
          record {
            variables_only = λ x e only. answer-variable x (variable_node e) (only (entry table x) (entry_together wf sides c x (variable_node e)));
            any_other = λ x e other.
                answer_of_class (entry_together wf sides c x (variable_node e))
                ∙ sym (answer-below (entry table x) (name_node wf sides c x (variable_node e)));
          }

      pub answer_only : (σ : Replacement S) → FollowsRule G pairs table σ → (x : ℕ) → G.head x ≡ variable → σ x ≡ answer G table x
      answer_only σ rule x e = sym (apply-below-variable wf σ x e) ∙ resolved σ on_variables x (variable_node e)
        where
          on_variables : (y : ℕ) → G.head y ≡ variable → ((z : ℕ) → ClassStep G pairs y z → apply σ (below G z) ≡ answer G table z) → σ y ≡ answer G table y
          on_variables y v down = go (c.named y (variable_node v))
            where
              go : Named G pairs y (entry table y) → σ y ≡ answer G table y
              go (by_variable together only low) =
                  rule.variables_only y v only ∙ sym (answer-variable y (variable_node v) (only (entry table y) together))
              go (by_non_variable {s} {children = ys} together h low) =
                  rule.any_other y v (λ only. let w : G.head (entry table y) ≡ variable = only (entry table y) together in never (cc))
                  ∙ apply-below-symbol wf σ (entry table y) h
                  ∙ ap (app s)
                  (each_agrees (λ z. apply σ (below G z)) (answer G table) ys ys refl
                  (λ i hx hy. down (get_or ys i 0) (name_step (variable_node v) (child_at h i hx))))
                  ∙ sym (answer-symbol y (variable_node v) h)

      module _ (θ : Replacement S) (unifies : Unifies G pairs θ) where
        -- θ of a node's answer is θ of the term below it
        answer_then : (x : ℕ) → Node G x → apply θ (answer G table x) ≡ apply θ (below G x)
        unfolding apply
        answer_then =
            class_induction wf sides no_cycle (λ x. apply θ (answer G table x) ≡ apply θ (below G x)) (λ x n down. at x n down (name_node wf sides c x n))
          where
            at : (x : ℕ) → Node G x → ((y : ℕ) → ClassStep G pairs x y → apply θ (answer G table y) ≡ apply θ (below G y)) → Node G (entry table x) → apply θ (answer G table x) ≡ apply θ (below G x)
            at x n down (variable_node e) =
                ap (apply θ) (answer-variable x n e)
                ∙ sym (apply-below-variable wf θ (entry table x) e)
                ∙ sym (unifier_together wf θ unifies (entry_together wf sides c x n))
            at x n down (symbol_node {s} {children = ys} e) =
                ap (apply θ) (answer-symbol x n e)
                ∙ ap (app s)
                (each-apply θ (answer G table) ys
                ∙ each_agrees (λ y. apply θ (answer G table y)) (λ y. apply θ (below G y)) ys ys refl
                (λ i hx hy. down (get_or ys i 0) (name_step n (child_at e i hx))))
                ∙ sym (apply-below-symbol wf θ (entry table x) e)
                ∙ sym (unifier_together wf θ unifies (entry_together wf sides c x n))

        pub answer_most_general : (x : ℕ) → G.head x ≡ variable → apply θ (answer G table x) ≡ θ x
        answer_most_general x e = answer_then x (variable_node e) ∙ apply-below-variable wf θ x e
