-- The row that a replayed log ends in is sound.
--
-- In order: tests and what they show; a sound row (`Sound`), the row to start from (`apart_sound`), a name put for another
-- (`renamed_sound`), a true entry (`grounded_same`, `joined_sound`), the log (`replay_sound`). Assumes nothing.
use mathlib.Core.Path.{◌≡◌, refl, sym, ap, ◌∙◌, subst}
use mathlib.Core.Logic.{◌⊎◌, inl, inr, ⊎_elim}
use mathlib.Core.Bool.{Bool, true, false, not, cond, decide}
use mathlib.Core.List.Memᴰ
use mathlib.Core.List.{List, [], ◌∷◌, map}
use Prim.Native.Nat.{ℕ, zero, suc, pred, ◌+◌, ◌≤◌, ◌<◌}
use native.Mathlib.Omega.{arith}
use native.Mathlib.Nat.{add-zero}
use borrow.Author.Tests.{ltb-true, leb-true, leb-false, eqb-true, eqb-false, ne_eqb}
use lib.Dec.{eqb, leb, ltb}
use lib.ListN.{length, get_or, length-map, get_or-map, get_or-eq_default}
use Rattle.graphs.specs.Graph.{Symbols, Head, nothing, variable, symbol, Graph, Node, variable_node, symbol_node, WellFormed}
use Rattle.graphs.specs.Partition.{Pair, ◌∈◌, Sides, Same, itself, swapped, through, paired, placed, entry, is_node, key, apart_from, apart}
use Rattle.graphs.specs.Log.{◌and◌, ◌or◌, Ground, given, children, Join, either_way, counts, children_beside, children_of, together, grounded, is_true, renamed, merged, joined, ends, if_true, replay_from, replay, all_below}
use Rattle.graphs.proofs.Classes.{never, same_nodes}

-- ---- tests and what they show

pub both_true : {a b : Bool} → a and b ≡ true → (a ≡ true) × (b ≡ true)
unfolding ◌and◌
both_true {a} {b} e = go a b e
  where
    go : (a b : Bool) → a and b ≡ true → (a ≡ true) × (b ≡ true)
    go true b e = (refl, e)
    go false b e = never (cc)

pub either_true : {a b : Bool} → a or b ≡ true → (a ≡ true) ⊎ (b ≡ true)
unfolding ◌or◌
either_true {a} {b} e = go a b e
  where
    go : (a b : Bool) → a or b ≡ true → (a ≡ true) ⊎ (b ≡ true)
    go true b e = inl refl
    go false b e = inr e

pub decide_true : {P : Type 0} (d : Dec P) → decide d ≡ true → P
unfolding decide
decide_true (yes p) e = p
decide_true (no p) e = never (cc)

pub decide-not : {P : Type 0} (d : Dec P) → not (decide d) ≡ true → P → ⊥
unfolding decide
decide-not (yes p) e = never (cc)
decide-not (no p) e = p

pub all_below_lem : (test : ℕ → Bool) (n : ℕ) → all_below test n ≡ true → (x : ℕ) → x < n → test x ≡ true
unfolding all_below
all_below_lem test zero e x h = absurd (omega arith)
all_below_lem test (suc n) e x h = go (eqb x n) refl (both_true e) (λ r k. all_below_lem test n r x k)
  where
    go : (b : Bool) → eqb x n ≡ b → (test n ≡ true) × (all_below test n ≡ true) → (all_below test n ≡ true → x < n → test x ≡ true) → test x ≡ true
    go true q parts rest = ap test (eqb-true x n q) ∙ parts.0
    go false q parts rest = rest parts.1 (let d : x ≡ n → ⊥ = eqb-false x n q in omega arith)

pub is_node_lem : {S : Symbols} {G : Graph S} (x : ℕ) → is_node (G.head x) ≡ true → Node G x
unfolding is_node
is_node_lem {S} {G} x e = go (G.head x) refl e
  where
    go : (h : Head S) → G.head x ≡ h → is_node h ≡ true → Node G x
    go nothing q t = never (cc)
    go variable q t = variable_node q
    go (symbol s xs) q t = symbol_node q

pub node_is : {S : Symbols} {G : Graph S} {x : ℕ} → Node G x → is_node (G.head x) ≡ true
unfolding is_node
node_is (variable_node e) = ap is_node e
node_is (symbol_node e) = ap is_node e

either_way_lem : (a b x y : ℕ) → either_way a b x y ≡ true → ((a ≡ x) × (b ≡ y)) ⊎ ((a ≡ y) × (b ≡ x))
either_way_lem a b x y e =
    ⊎_elim
    (λ t. inl (eqb-true a x (both_true t).0, eqb-true b y (both_true t).1))
    (λ t. inr (eqb-true a y (both_true t).0, eqb-true b x (both_true t).1))
    (either_true e)

counts_below : (k n : ℕ) → counts k n ≡ true → pred k < n
counts_below k n e = omega (arith, ltb-true 0 k (both_true e).0, leb-true k n (both_true e).1)

pub pair_at_lem : (pairs : List Pair) (d : Pair) (i : ℕ) → i < length pairs → get_or pairs i d ∈ pairs
pair_at_lem [] d i h = absurd (omega arith)
pair_at_lem (p ∷ pairs) d zero h = Memᴰ.head refl
pair_at_lem (p ∷ pairs) d (suc i) h = Memᴰ.tail (pair_at_lem pairs d i (omega arith))

-- ---- a sound row

-- Each node is together with its entry, and its entry comes first of the two; what is no node has 0.
pub record Sound {S : Symbols} (G : Graph S) (pairs : List Pair) (row : List ℕ) : Type 0 where
  pub long : length row ≡ G.size
  pub with_entry : (x : ℕ) → Node G x → Same G pairs x (entry row x)
  pub first : (x : ℕ) → Node G x → key G (entry row x) ≤ key G x
  pub empty : (x : ℕ) → G.head x ≡ nothing → entry row x ≡ 0

module _ {S : Symbols} (G : Graph S) where
  pub apart_length : (x k : ℕ) → length (apart_from G x k) ≡ k
  unfolding apart_from
  apart_length x zero = refl
  apart_length x (suc k) = ap suc (apart_length (suc x) k)

  pub apart_entry : (x k i : ℕ) → i < k → entry (apart_from G x k) i ≡ cond (is_node (G.head (x + i))) (x + i) 0
  unfolding apart_from
  apart_entry x zero i h = absurd (omega arith)
  apart_entry x (suc k) zero h = ap (λ (y : ℕ). cond (is_node (G.head y)) y 0) (sym (add-zero x))
  apart_entry x (suc k) (suc i) h =
      apart_entry (suc x) k i (omega arith)
      ∙ ap (λ (y : ℕ). cond (is_node (G.head y)) y 0) (let e : suc x + i ≡ x + suc i = omega arith in e)

  pub apart_own : (wf : WellFormed G) (x : ℕ) → Node G x → entry (apart G) x ≡ x
  unfolding apart is_node
  apart_own wf x n =
      apart_entry 0 G.size x (wf.inside x n)
      ∙ ap (λ (y : ℕ). cond (is_node (G.head y)) y 0) (let e : 0 + x ≡ x = omega arith in e)
      ∙ own n
    where
      own : Node G x → cond (is_node (G.head x)) x 0 ≡ x
      own (variable_node e) = ap (λ (h : Head S). cond (is_node h) x 0) e
      own (symbol_node e) = ap (λ (h : Head S). cond (is_node h) x 0) e

  apart_empty : (x : ℕ) → G.head x ≡ nothing → entry (apart G) x ≡ 0
  unfolding apart is_node
  apart_empty x e = go (ltb x G.size) refl
    where
      go : (b : Bool) → ltb x G.size ≡ b → entry (apart_from G 0 G.size) x ≡ 0
      go true t =
          apart_entry 0 G.size x (ltb-true x G.size t)
          ∙ ap (λ (y : ℕ). cond (is_node (G.head y)) y 0) (let q : 0 + x ≡ x = omega arith in q)
          ∙ ap (λ (h : Head S). cond (is_node h) x 0) e
      go false t = get_or-eq_default (apart_from G 0 G.size) 0 (omega (arith, apart_length 0 G.size, leb-false (suc x) G.size t))

  pub apart_sound : WellFormed G → (pairs : List Pair) → Sound G pairs (apart G)
  unfolding apart
  apart_sound wf pairs =
      record {
        long = apart_length 0 G.size;
        with_entry = λ x n. subst (λ (r : ℕ). Same G pairs x r) (sym (apart_own wf x n)) (itself n);
        first = λ x n. omega (arith, ap (key G) (apart_own wf x n));
        empty = apart_empty;
      }

module _ {S : Symbols} {G : Graph S} {pairs : List Pair} (wf : WellFormed G) (sides : Sides G pairs) where
  pub not_zero : {x : ℕ} → Node G x → x ≡ 0 → ⊥
  not_zero n e = wf.none_at_0 (subst (Node G) e n)

  pub one_entry_same : {row : List ℕ} → Sound G pairs row → {x y : ℕ} → Node G x → Node G y → entry row x ≡ entry row y → Same G pairs x y
  one_entry_same {row} sound {x} {y} n m e =
      through (sound.with_entry x n) (subst (λ (z : ℕ). Same G pairs z y) (sym e) (swapped (sound.with_entry y m)))

  pub together_same : {row : List ℕ} → Sound G pairs row → {x y : ℕ} → together G row x y ≡ true → Same G pairs x y
  together_same {row} sound {x} {y} e =
      let t = both_true e in
      one_entry_same sound (is_node_lem x t.0) (is_node_lem y (both_true t.1).0) (eqb-true (entry row x) (entry row y) (both_true t.1).1)

  pub renamed-entry : (old new : ℕ) (row : List ℕ) → (old ≡ 0 → ⊥) → (x : ℕ) → entry (renamed old new row) x ≡ cond (eqb (entry row x) old) new (entry row x)
  unfolding renamed
  renamed-entry old new row other x =
      ap (λ (d : ℕ). get_or (map (λ e. cond (eqb e old) new e) row) x d)
      (let t : eqb 0 old ≡ false = ne_eqb 0 old (λ e. other (sym e)) in let u : 0 ≡ cond (eqb 0 old) new 0 = sym (ap (λ (b : Bool). cond b new 0) t) in u)
      ∙ get_or-map (λ e. cond (eqb e old) new e) row x 0

  renamed_sound : {row : List ℕ} → Sound G pairs row → (old new : ℕ) → Node G old → Same G pairs old new → key G new ≤ key G old → Sound G pairs (renamed old new row)
  renamed_sound {row} sound old new n same low =
      record {
        long = unfold renamed in (length-map row (λ e. cond (eqb e old) new e) ∙ sound.long);
        with_entry = λ x m. subst (λ (r : ℕ). Same G pairs x r) (sym (at x)) (with_new x m (eqb (entry row x) old) refl);
        first = λ x m. subst (λ (r : ℕ). key G r ≤ key G x) (sym (at x)) (first_new x m (eqb (entry row x) old) refl);
        empty = λ x e. at x ∙ empty_new x e;
      }
    where
      at : (x : ℕ) → entry (renamed old new row) x ≡ cond (eqb (entry row x) old) new (entry row x)
      at = renamed-entry old new row (not_zero n)

      with_new : (x : ℕ) → Node G x → (b : Bool) → eqb (entry row x) old ≡ b → Same G pairs x (cond b new (entry row x))
      with_new x m true t = through (subst (λ (r : ℕ). Same G pairs x r) (eqb-true (entry row x) old t) (sound.with_entry x m)) same
      with_new x m false t = sound.with_entry x m

      first_new : (x : ℕ) → Node G x → (b : Bool) → eqb (entry row x) old ≡ b → key G (cond b new (entry row x)) ≤ key G x
      first_new x m true t = omega (arith, ap (key G) (eqb-true (entry row x) old t), sound.first x m)
      first_new x m false t = sound.first x m

      empty_new : (x : ℕ) → G.head x ≡ nothing → cond (eqb (entry row x) old) new (entry row x) ≡ 0
      empty_new x e =
          ap (λ (r : ℕ). cond (eqb r old) new r) (sound.empty x e)
          ∙ ap (λ (b : Bool). cond b new 0) (ne_eqb 0 old (λ q. not_zero n (sym q)))

  merged_sound : {row : List ℕ} → Sound G pairs row → (l m : ℕ) → Same G pairs l m → Sound G pairs (merged G row l m)
  unfolding merged
  merged_sound {row} sound l m same = go (leb (key G l) (key G m)) refl
    where
      go : (b : Bool) → leb (key G l) (key G m) ≡ b → Sound G pairs (cond b (renamed m l row) (renamed l m row))
      go true t = renamed_sound sound m l (same_nodes wf sides same).1 (swapped same) (leb-true (key G l) (key G m) t)
      go false t = renamed_sound sound l m (same_nodes wf sides same).0 same (omega (arith, leb-false (key G l) (key G m) t))

  either_way_same : {a b x y : ℕ} → Same G pairs x y → either_way a b x y ≡ true → Same G pairs a b
  either_way_same {a} {b} {x} {y} same e =
      ⊎_elim
      (λ t. subst (λ (u : ℕ). Same G pairs u b) (sym t.0) (subst (λ (v : ℕ). Same G pairs x v) (sym t.1) same))
      (λ t. subst (λ (u : ℕ). Same G pairs u b) (sym t.0) (subst (λ (v : ℕ). Same G pairs y v) (sym t.1) (swapped same)))
      (either_way_lem a b x y e)

  children_same : {x y : ℕ} → Same G pairs x y → (place a b : ℕ) → children_of (G.head x) (G.head y) place a b ≡ true → Same G pairs a b
  unfolding children_of children_beside
  children_same {x} {y} same place a b e = left (G.head x) refl e
    where
      right : (s : S.Symbol) (xs : List ℕ) → G.head x ≡ symbol s xs → (k : Head S) → G.head y ≡ k → children_beside s xs k place a b ≡ true → Same G pairs a b
      right s xs ex nothing ey t = never (cc)
      right s xs ex variable ey t = never (cc)
      right s xs ex (symbol s' ys) ey t =
          let one = both_true t in
          let two = both_true one.1 in
          let three = both_true two.1 in
          either_way_same
          (placed same ex (ey ∙ ap (λ (u : S.Symbol). symbol u ys) (sym (decide_true (S.decide s s') one.0))) (pred place)
          (counts_below place (length xs) two.0) (counts_below place (length ys) three.0))
          three.1

      left : (h : Head S) → G.head x ≡ h → children_of h (G.head y) place a b ≡ true → Same G pairs a b
      left nothing ex t = never (cc)
      left variable ex t = never (cc)
      left (symbol s xs) ex t = right s xs ex (G.head y) refl t

  grounded_same : {row : List ℕ} → Sound G pairs row → (g : Ground) (a b : ℕ) → grounded G pairs row g a b ≡ true → Same G pairs a b
  unfolding grounded
  grounded_same {row} sound (given k) a b e =
      either_way_same
      (paired (get_or pairs (pred k) (record { left = 0; right = 0 }))
      (pair_at_lem pairs (record { left = 0; right = 0 }) (pred k) (counts_below k (length pairs) (both_true e).0)))
      (both_true e).1
  grounded_same {row} sound (children x y place) a b e = children_same (together_same sound (both_true e).0) place a b (both_true e).1

  joined_sound : {row : List ℕ} → Sound G pairs row → (j : Join) → is_true G pairs row j ≡ true → Sound G pairs (joined G row j)
  unfolding is_true
  joined_sound {row} sound j e =
      let same : Same G pairs j.left j.right = grounded_same sound j.ground j.left j.right (both_true e).1 in
      let n : Node G j.left × Node G j.right = same_nodes wf sides same in
      merged_sound sound (entry row j.left) (entry row j.right)
      (through (swapped (sound.with_entry j.left n.0)) (through same (sound.with_entry j.right n.1)))

  replay_from_sound : (log : List Join) (number : ℕ) {row last : List ℕ} → Sound G pairs row → replay_from G pairs number row log ≡ ends last → Sound G pairs last
  unfolding replay_from if_true
  replay_from_sound [] number {row} {last} sound e = subst (Sound G pairs) (cc) sound
  replay_from_sound (j ∷ log) number {row} {last} sound e =
      go (is_true G pairs row j) refl e (λ s q. replay_from_sound log (suc number) {row = joined G row j} s q)
    where
      go : (b : Bool) → is_true G pairs row j ≡ b → if_true b number (replay_from G pairs (suc number) (joined G row j) log) ≡ ends last
          → (Sound G pairs (joined G row j) → replay_from G pairs (suc number) (joined G row j) log ≡ ends last → Sound G pairs last) → Sound G pairs last
      go true t q rest = rest (joined_sound sound j t) q
      go false t q rest = never (cc)

  -- The row of names that a log's joins end in is sound.
  pub replay_sound : (log : List Join) {row : List ℕ} → replay G pairs log ≡ ends row → Sound G pairs row
  unfolding replay
  replay_sound log e = replay_from_sound log 1 (apart_sound G wf pairs) e
