-- The theorems of the partition and of unifiers. The definitions are in specs/, the proofs in the files beside this one.
--
-- In order: the partition (demand 2); replacements (demand 3); more pairs; walks along classes; certificates; existence.
--
-- `wf` says that the graph is one that a checked table gives, `sides` that both sides of every pair are nodes, and `c` that
-- `table` is the class table of the list. Assumes nothing.
use mathlib.Core.Path.{◌≡◌, refl, sym, ◌∙◌}
use mathlib.Core.Logic.{◌⊎◌, ◌↔◌}
use mathlib.Core.Bool.{true}
use mathlib.Core.List.Memᴰ
use mathlib.Core.List.{List, []}
use Prim.Native.Nat.{ℕ, ◌≤◌, ◌<◌}
use lib.ListN.{take}
use Rattle.graphs.specs.Graph.{Symbols, variable, Graph, Node, Child, Steps, WellFormed}
use Rattle.graphs.specs.Partition.{Pair, ◌∈◌, Sides, Same, paired, placed, Closed, Smallest, Clash, ClassStep, Cycle, entry, ClassTable, OneEntry}
use Rattle.graphs.specs.Term.{var, WellCounted, Replacement, ◌then◌, grown, below, Unifies, FollowsRule, answer}
use Rattle.graphs.specs.Log.{Join, ends, replay, closed, ranked, clashes, Down, cycles, loops}
use Rattle.graphs.proofs.Finite as finite
use Rattle.graphs.proofs.Classes as classes
use Rattle.graphs.proofs.Trees as trees
use Rattle.graphs.proofs.Counts as counts
use Rattle.graphs.proofs.Unifiers as unifiers
use Rattle.graphs.proofs.Replay as replays
use Rattle.graphs.proofs.Certificates as certificates
use Rattle.graphs.proofs.Existence as existence

-- ---- the partition

-- `Same` is an equivalence on nodes that has the pairs and is closed place by place,
pub same_closed : {S : Symbols} (G : Graph S) (pairs : List Pair) → Closed G pairs (Same G pairs)
same_closed = classes.same_closed

-- and the smallest: every such equivalence contains it.
pub same_smallest : {S : Symbols} {G : Graph S} {pairs : List Pair} {E : ℕ → ℕ → Type 0} → Closed G pairs E → {x y : ℕ} → Same G pairs x y → E x y
same_smallest = classes.same_smallest

-- Two class tables of one graph and list are equal.
pub class_table_only : {S : Symbols} {G : Graph S} {pairs : List Pair} {r q : List ℕ} → ClassTable G pairs r → ClassTable G pairs q → r ≡ q
class_table_only = classes.class_table_only

module _ {S : Symbols} {G : Graph S} {pairs : List Pair} (wf : WellFormed G) (sides : Sides G pairs) {table : List ℕ} (c : ClassTable G pairs table) where
  -- Nodes are together exactly where they have one entry.
  pub class_table_classes : {x y : ℕ} → Node G x → Node G y → Same G pairs x y ↔ (entry table x ≡ entry table y)
  class_table_classes n m = (classes.together_one_entry wf sides c, classes.one_entry_together wf sides c n m)

  -- So to have one entry is the smallest equivalence of the kind that document 01 asks for.
  pub class_table_smallest : Smallest G pairs (OneEntry G table)
  class_table_smallest = record {
    closed = record {
      reflexive = λ x n. (n, n, refl);
      symmetric = λ x y e. (e.1, e.0, sym e.2);
      transitive = λ x y z e f. (e.0, f.1, e.2 ∙ f.2);
      has_pairs = λ p m. ((sides p m).0, (sides p m).1, classes.together_one_entry wf sides c (paired p m));
      has_children = λ x y s xs ys e hx hy i h k. (
        wf.child_node x _ (i, record { named = s; children = xs; stands = hx; within = h; is = refl }),
        wf.child_node y _ (i, record { named = s; children = ys; stands = hy; within = k; is = refl }),
        classes.together_one_entry wf sides c (placed (classes.one_entry_together wf sides c e.0 e.1 e.2) hx hy i h k),
      );
    };
    least = λ F closed x y e. same_smallest closed (classes.one_entry_together wf sides c e.0 e.1 e.2);
  }

  -- A class has one name, a node of the class that is its own entry.
  pub name_of_name : (x : ℕ) → Node G x → Node G (entry table x) × Same G pairs x (entry table x) × (entry table (entry table x) ≡ entry table x)
  name_of_name x n = (classes.name_node wf sides c x n, classes.entry_together wf sides c x n, classes.name_of_name wf sides c x n)

-- ---- replacements

-- If some replacement makes every pair equal, there is neither clash nor cycle.
pub unifier_no_clash : {S : Symbols} {G : Graph S} {pairs : List Pair} → WellFormed G → (θ : Replacement S) → Unifies G pairs θ → Clash G pairs → ⊥
unifier_no_clash = unifiers.unifier_no_clash

pub unifier_no_cycle : {S : Symbols} {G : Graph S} {pairs : List Pair} → WellFormed G → (θ : Replacement S) → Unifies G pairs θ → Cycle G pairs → ⊥
unifier_no_cycle = unifiers.unifier_no_cycle

-- With no pairs there is neither: every replacement will do.
pub no_pairs_no_clash : {S : Symbols} {G : Graph S} → WellFormed G → Clash G [] → ⊥
no_pairs_no_clash wf = unifier_no_clash wf var (λ p m. absurd (Memᴰ.not-nil m))

pub no_pairs_no_cycle : {S : Symbols} {G : Graph S} → WellFormed G → Cycle G [] → ⊥
no_pairs_no_cycle wf = unifier_no_cycle wf var (λ p m. absurd (Memᴰ.not-nil m))

-- The term below a node, without its depth.
pub below_unfolds : {S : Symbols} {G : Graph S} → WellFormed G → (x : ℕ) → Node G x → below G x ≡ grown (below G) x (G.head x)
below_unfolds = trees.below_unfolds

module _ {S : Symbols} {G : Graph S} {pairs : List Pair} {table : List ℕ} (wf : WellFormed G) (sides : Sides G pairs) (c : ClassTable G pairs table) (no_clash : Clash G pairs → ⊥) (no_cycle : Cycle G pairs → ⊥) where
  -- The answer, without its depth.
  pub answer_unfolds : (x : ℕ) → Node G x → answer G table x ≡ grown (answer G table) (entry table x) (G.head (entry table x))
  answer_unfolds = unifiers.answer_unfolds wf sides c no_cycle

  -- If there is neither clash nor cycle, the answer makes every pair equal.
  pub answer_unifies : Unifies G pairs (answer G table)
  answer_unifies = unifiers.answer_unifies wf sides c no_cycle no_clash

  -- For every replacement that makes every pair equal, the answer and then it gives every variable of the graph the same term
  -- as it alone.
  pub answer_most_general : (θ : Replacement S) → Unifies G pairs θ → (x : ℕ) → G.head x ≡ variable → (answer G table then θ) x ≡ θ x
  answer_most_general = unifiers.answer_most_general wf sides c no_cycle no_clash

  -- The answer follows document 01's rule, and is the only replacement that does, on the graph's variables.
  pub answer_follows_rule : FollowsRule G pairs table (answer G table)
  answer_follows_rule = unifiers.answer_follows_rule wf sides c no_cycle no_clash

  pub answer_only : (σ : Replacement S) → FollowsRule G pairs table σ → (x : ℕ) → G.head x ≡ variable → σ x ≡ answer G table x
  answer_only = unifiers.answer_only wf sides c no_cycle no_clash

-- In the answer's terms, and in the term below a node, each symbol has as many arguments as it counts.
pub answer_counted : {S : Symbols} {G : Graph S} → WellFormed G → (table : List ℕ) (x : ℕ) → WellCounted (answer G table x)
answer_counted = counts.answer_counted

pub below_counted : {S : Symbols} {G : Graph S} → WellFormed G → (x : ℕ) → WellCounted (below G x)
below_counted = counts.below_counted

-- ---- more pairs

-- The first j pairs are among the first k where j ≤ k, so what follows holds of 'the list so far'.
pub first_pairs_grow : (j k : ℕ) (pairs : List Pair) → j ≤ k → (p : Pair) → p ∈ take j pairs → p ∈ take k pairs
first_pairs_grow = classes.first_pairs_grow

module _ {S : Symbols} {G : Graph S} {few many : List Pair} (sub : (p : Pair) → p ∈ few → p ∈ many) where
  pub same_grows : {x y : ℕ} → Same G few x y → Same G many x y
  same_grows = classes.same_grows sub

  pub clash_grows : Clash G few → Clash G many
  clash_grows = classes.clash_grows sub

  pub cycle_grows : Cycle G few → Cycle G many
  cycle_grows = classes.cycle_grows sub

-- ---- walks along classes

module _ {S : Symbols} {G : Graph S} {pairs : List Pair} (wf : WellFormed G) (sides : Sides G pairs) where
  -- Without a cycle, what follows at a class from the classes of its children holds of every node.
  pub class_induction : (Cycle G pairs → ⊥) → (P : ℕ → Type 0) → ((x : ℕ) → Node G x → ((y : ℕ) → ClassStep G pairs x y → P y) → P x) → (x : ℕ) → Node G x → P x
  class_induction = unifiers.class_induction wf sides

  -- A walk along classes that can always go on runs into a cycle.
  pub endless_walk_cycle : (W : ℕ → Type 0) → ((x : ℕ) → W x → Node G x) → ((x : ℕ) → W x → (y : ℕ) × ClassStep G pairs x y × W y) → (x : ℕ) → W x → Cycle G pairs
  endless_walk_cycle W node next x w = finite.return_of_endless (ClassStep G pairs) W G.size (λ y v. wf.inside y (node y v)) next x w

  -- ---- certificates

  module _ (log : List Join) {row : List ℕ} (replayed : replay G pairs log ≡ ends row) where
    -- A log whose joins end in a closed row has made the class table, and there is no clash.
    pub log_class_table : closed G pairs row ≡ true → ClassTable G pairs row
    log_class_table = certificates.closed_class_table wf sides (replays.replay_sound wf sides log replayed)

    pub log_no_clash : closed G pairs row ≡ true → Clash G pairs → ⊥
    log_no_clash = certificates.closed_no_clash wf sides (replays.replay_sound wf sides log replayed)

    -- If ranks fall from class to class besides, there is no cycle.
    pub log_no_cycle : closed G pairs row ≡ true → (ranks : List ℕ) → ranked G row ranks ≡ true → Cycle G pairs → ⊥
    log_no_cycle = certificates.ranked_no_cycle wf sides (replays.replay_sound wf sides log replayed)

    -- Two nodes that a log has joined and whose symbols differ are a clash.
    pub log_clash : (x y : ℕ) → clashes G row x y ≡ true → Clash G pairs
    log_clash = certificates.clashes_clash wf sides (replays.replay_sound wf sides log replayed)

    -- Ways down that lead from a class that a log has made back to it are a cycle.
    pub log_cycle : (ways : List Down) → cycles G row ways ≡ true → Cycle G pairs
    log_cycle = certificates.cycles_cycle wf sides (replays.replay_sound wf sides log replayed)

  -- ---- existence

  -- Every list has a log whose joins end in a closed row, or in a row that shows a clash.
  pub log_settles : (log : List Join) × (row : List ℕ) × (replay G pairs log ≡ ends row) × ((closed G pairs row ≡ true) ⊎ ((x : ℕ) × (y : ℕ) × (clashes G row x y ≡ true)))
  log_settles = existence.log_settles wf sides

  -- So every list has a class table, and then no clash; or it has a clash.
  pub class_table_or_clash : ((table : List ℕ) × ClassTable G pairs table × (Clash G pairs → ⊥)) ⊎ Clash G pairs
  class_table_or_clash = existence.class_table_or_clash wf sides

module _ {S : Symbols} {G : Graph S} where
  -- Ranks that fall from node to child, under whatever names a row gives them, show that no node reaches itself.
  pub ranks_no_loop : ((x : ℕ) → Node G x → x < G.size) → (row ranks : List ℕ) → ranked G row ranks ≡ true → (x : ℕ) → Steps (Child G) x x → ⊥
  ranks_no_loop = certificates.ranked_no_loop

  -- Ways down that lead from a node back to it are a loop.
  pub ways_loop : (ways : List Down) → loops G ways ≡ true → (x : ℕ) × Steps (Child G) x x
  ways_loop = certificates.loops_loop
