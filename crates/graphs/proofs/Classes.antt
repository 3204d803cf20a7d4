-- The partition and its class table.
--
-- In order: an address has a node or nothing; `Same` is closed, and the smallest closed equivalence; a labelling that agrees
-- on the pairs and place by place agrees on `Same`; both sides of `Same` are nodes; more pairs; names are unique; the class
-- table, row against partition. Assumes nothing.
use mathlib.Core.Path.{◌≡◌, refl, sym, ◌∙◌, subst}
use mathlib.Core.Logic.{◌⊎◌, inl, inr, ⊎_elim}
use mathlib.Core.List.Memᴰ
use mathlib.Core.List.{List, [], ◌∷◌}
use Prim.Native.Nat.{ℕ, zero, suc, ◌≤◌, ◌<◌}
use native.Mathlib.Omega.{arith}
use lib.ListN.{length, get_or, take}
use lib.Seq.{ext_get_or}
use Rattle.graphs.specs.Graph.{Symbols, Head, nothing, variable, symbol, Graph, Node, variable_node, symbol_node, Child, WellFormed}
use Rattle.graphs.specs.Partition.{Pair, ◌∈◌, Sides, Same, itself, swapped, through, paired, placed, Closed, Clash, ClassStep, Cycle, VariablesOnly, Named, by_non_variable, by_variable, entry, ClassTable}
use Rattle.graphs.proofs.Finite.{steps_map}

-- ---- an address has a node or nothing

pub node_or_nothing : {S : Symbols} (G : Graph S) (x : ℕ) → Node G x ⊎ (G.head x ≡ nothing)
node_or_nothing {S} G x = go (G.head x) refl
  where
    go : (h : Head S) → G.head x ≡ h → Node G x ⊎ (G.head x ≡ nothing)
    go nothing e = inr e
    go variable e = inl (variable_node e)
    go (symbol s children) e = inl (symbol_node e)

-- what follows where two constructors would be equal
pub never : {A : Type 0} → ◌≡◌ {A = ℕ} 0 1 → A
never e = absurd (omega arith)

pub nothing_no_node : {S : Symbols} {G : Graph S} {x : ℕ} → G.head x ≡ nothing → Node G x → ⊥
nothing_no_node {S} e (variable_node v) = never (cc)
nothing_no_node {S} e (symbol_node v) = never (cc)

-- ---- the smallest closed equivalence

pub same_closed : {S : Symbols} (G : Graph S) (pairs : List Pair) → Closed G pairs (Same G pairs)
same_closed G pairs =
    record {
      reflexive = λ x n. itself n;
      symmetric = λ x y s. swapped s;
      transitive = λ x y z s t. through s t;
      has_pairs = λ p m. paired p m;
      has_children = λ x y s xs ys t ex ey i hx hy. placed t ex ey i hx hy;
    }

pub same_smallest : {S : Symbols} {G : Graph S} {pairs : List Pair} {E : ℕ → ℕ → Type 0} → Closed G pairs E → {x y : ℕ} → Same G pairs x y → E x y
same_smallest c (itself {x} n) = c.reflexive x n
same_smallest c (swapped {x} {y} s) = c.symmetric x y (same_smallest c s)
same_smallest c (through {x} {y} {z} s t) = c.transitive x y z (same_smallest c s) (same_smallest c t)
same_smallest c (paired p m) = c.has_pairs p m
same_smallest c (placed {x} {y} {s} {xs} {ys} t ex ey i hx hy) = c.has_children x y s xs ys (same_smallest c t) ex ey i hx hy

-- A labelling that agrees on each pair and, where it agrees on two functions of one symbol, place by place on their children,
-- agrees on all that is together.
pub same_labels : {S : Symbols} {G : Graph S} {pairs : List Pair} {A : Type 0} (q : ℕ → A)
    → ((p : Pair) → p ∈ pairs → q p.left ≡ q p.right)
    → ((x y : ℕ) (s : S.Symbol) (xs ys : List ℕ) → q x ≡ q y → G.head x ≡ symbol s xs → G.head y ≡ symbol s ys → (i : ℕ) → i < length xs → i < length ys → q (get_or xs i 0) ≡ q (get_or ys i 0))
    → {x y : ℕ} → Same G pairs x y → q x ≡ q y
same_labels {S} {G} {pairs} q on_pairs on_children =
    same_smallest {E = λ x y. q x ≡ q y}
    (record {
      reflexive = λ x n. refl;
      symmetric = λ x y e. sym e;
      transitive = λ x y z e f. e ∙ f;
      has_pairs = on_pairs;
      has_children = on_children;
    })

-- ---- both sides are nodes

pub child_at : {S : Symbols} {G : Graph S} {x : ℕ} {s : S.Symbol} {children : List ℕ} → G.head x ≡ symbol s children → (i : ℕ) → i < length children → Child G x (get_or children i 0)
child_at {s} {children} e i h = (i, record { named = s; children = children; stands = e; within = h; is = refl })

pub same_nodes : {S : Symbols} {G : Graph S} {pairs : List Pair} → WellFormed G → Sides G pairs → {x y : ℕ} → Same G pairs x y → Node G x × Node G y
same_nodes {S} {G} {pairs} wf sides =
    same_smallest {E = λ x y. Node G x × Node G y}
    (record {
      reflexive = λ x n. (n, n);
      symmetric = λ x y n. (n.1, n.0);
      transitive = λ x y z m n. (m.0, n.1);
      has_pairs = sides;
      has_children = λ x y s xs ys n ex ey i hx hy. (wf.child_node x _ (child_at ex i hx), wf.child_node y _ (child_at ey i hy));
    })

-- ---- more pairs

pub same_grows : {S : Symbols} {G : Graph S} {few many : List Pair} → ((p : Pair) → p ∈ few → p ∈ many) → {x y : ℕ} → Same G few x y → Same G many x y
same_grows {S} {G} {few} {many} sub =
    same_smallest {E = Same G many}
    (record {
      reflexive = λ x n. itself n;
      symmetric = λ x y s. swapped s;
      transitive = λ x y z s t. through s t;
      has_pairs = λ p m. paired p (sub p m);
      has_children = λ x y s xs ys t ex ey i hx hy. placed t ex ey i hx hy;
    })

pub clash_grows : {S : Symbols} {G : Graph S} {few many : List Pair} → ((p : Pair) → p ∈ few → p ∈ many) → Clash G few → Clash G many
clash_grows sub c =
    record {
      left = c.left;
      right = c.right;
      together = same_grows sub c.together;
      left_symbol = c.left_symbol;
      left_children = c.left_children;
      right_symbol = c.right_symbol;
      right_children = c.right_children;
      left_head = c.left_head;
      right_head = c.right_head;
      different = c.different;
    }

pub class_step_grows : {S : Symbols} {G : Graph S} {few many : List Pair} → ((p : Pair) → p ∈ few → p ∈ many) → (x y : ℕ) → ClassStep G few x y → ClassStep G many x y
class_step_grows sub x y c =
    record { member = c.member; child = c.child; from = same_grows sub c.from; down = c.down; into = same_grows sub c.into }

pub cycle_grows : {S : Symbols} {G : Graph S} {few many : List Pair} → ((p : Pair) → p ∈ few → p ∈ many) → Cycle G few → Cycle G many
cycle_grows sub c = (c.0, steps_map (class_step_grows sub) c.1)

pub first_pairs_grow : (j k : ℕ) (pairs : List Pair) → j ≤ k → (p : Pair) → p ∈ take j pairs → p ∈ take k pairs
first_pairs_grow zero k pairs h p m = absurd (Memᴰ.not-nil m)
first_pairs_grow (suc j) zero pairs h p m = absurd (omega arith)
first_pairs_grow (suc j) (suc k) [] h p m = m
first_pairs_grow (suc j) (suc k) (q ∷ pairs) h p m =
    ⊎_elim (λ e. Memᴰ.head e) (λ r. Memᴰ.tail (first_pairs_grow j k pairs (omega arith) p r)) (Memᴰ.cases_cons m)

-- ---- names

between : {m n : ℕ} → m ≤ n → n ≤ m → m ≡ n
between h k = omega arith

module _ {S : Symbols} {G : Graph S} {pairs : List Pair} where
  -- nodes that are together have one name
  pub named_once : {x y r q : ℕ} → Same G pairs x y → Named G pairs x r → Named G pairs y q → r ≡ q
  named_once {x} {y} {r} {q} t (by_non_variable {s} {children} sx hx low) (by_non_variable {s = s'} {children = children'} sy hy low') =
      between (low q s' children' (through t sy) hy) (low' r s children (through (swapped t) sx) hx)
  named_once {x} {y} {r} {q} t (by_non_variable {s} {children} sx hx low) (by_variable sy only low') =
      let v : G.head r ≡ variable = only r (through (swapped t) sx) in never (cc)
  named_once {x} {y} {r} {q} t (by_variable sx only low) (by_non_variable {s = s'} {children = children'} sy hy low') =
      let v : G.head q ≡ variable = only q (through t sy) in never (cc)
  named_once {x} {y} {r} {q} t (by_variable sx only low) (by_variable sy only' low') =
      between (low q (through t sy)) (low' r (through (swapped t) sx))

  pub named_same : {x r : ℕ} → Named G pairs x r → Same G pairs x r
  named_same (by_non_variable s h low) = s
  named_same (by_variable s only low) = s

  -- a class whose name is a variable holds variables only
  pub named_variable : {x r : ℕ} → Named G pairs x r → G.head r ≡ variable → VariablesOnly G pairs x
  named_variable (by_non_variable s h low) v = never (cc)
  named_variable (by_variable s only low) v = only

  -- ---- the class table

  pub class_table_only : {r q : List ℕ} → ClassTable G pairs r → ClassTable G pairs q → r ≡ q
  class_table_only {r} {q} c d = ext_get_or 0 r q (c.long ∙ sym d.long) (λ i h. at i (node_or_nothing G i))
    where
      at : (i : ℕ) → Node G i ⊎ (G.head i ≡ nothing) → get_or r i 0 ≡ get_or q i 0
      at i (inl n) = named_once (itself n) (c.named i n) (d.named i n)
      at i (inr e) = c.empty i e ∙ sym (d.empty i e)

  module _ (wf : WellFormed G) (sides : Sides G pairs) {table : List ℕ} (c : ClassTable G pairs table) where
    pub together_one_entry : {x y : ℕ} → Same G pairs x y → entry table x ≡ entry table y
    together_one_entry {x} {y} s =
        let n : Node G x × Node G y = same_nodes wf sides s in
        named_once s (c.named x n.0) (c.named y n.1)

    pub entry_together : (x : ℕ) → Node G x → Same G pairs x (entry table x)
    entry_together x n = named_same (c.named x n)

    pub one_entry_together : {x y : ℕ} → Node G x → Node G y → entry table x ≡ entry table y → Same G pairs x y
    one_entry_together {x} {y} n m e =
        through (entry_together x n) (subst (λ (z : ℕ). Same G pairs z y) (sym e) (swapped (entry_together y m)))

    pub name_node : (x : ℕ) → Node G x → Node G (entry table x)
    name_node x n = (same_nodes wf sides (entry_together x n)).1

    pub name_of_name : (x : ℕ) → Node G x → entry table (entry table x) ≡ entry table x
    name_of_name x n = sym (together_one_entry (entry_together x n))
