-- Every list has a log that settles it: its joins end in a closed row, or in a row that shows a clash.
--
-- In order: tests that hold or fail at a place; what is to be done next at a row (`next_move`); a row that has come so far
-- (`Progress`), one more join (`joined_progress`), the log to its end (`log_settles`); so every list has a class table or a
-- clash (`class_table_or_clash`).
--
-- The names that are still in use are kept in a list, from which each join takes one out: no counting of classes.
-- Assumes nothing.
use mathlib.Core.Path.{◌≡◌, refl, sym, ap, ◌∙◌, subst}
use mathlib.Core.Logic.{◌⊎◌, inl, inr, ⊎_elim}
use mathlib.Core.Bool.{Bool, true, false, not, cond, decide}
use mathlib.Core.List.{List, [], ◌∷◌, ◌++◌, Memᴰ}
use Prim.Native.Nat.{ℕ, zero, suc, ◌≤◌, ◌<◌}
use native.Mathlib.Omega.{arith}
use borrow.Author.Tests.{lt-ltb, le-leb, eqb-false, eq-eqb, ne_eqb, not-true}
use lib.Dec.{eqb, leb}
use lib.ListN.{length, get_or}
use Rattle.graphs.specs.Graph.{Symbols, Head, nothing, variable, symbol, Graph, Node, symbol_node, WellFormed}
use Rattle.graphs.specs.Partition.{Pair, Sides, Clash, entry, ClassTable, key, apart}
use Rattle.graphs.specs.Log.{◌and◌, ◌or◌, given, children, Join, either_way, counts, children_beside, children_of, together, separate, grounded, is_true, renamed, merged, joined, ends, if_true, replay_from, replay, all_below, holds_pairs, same_names, agrees_with, agrees, closed, differ_from, differ, clashes}
use Rattle.graphs.proofs.Finite.{without, without_shorter, still_in, upto, upto-length, upto_has}
use Rattle.graphs.proofs.Classes.{never, nothing_no_node, child_at, same_nodes}
use Rattle.graphs.proofs.Replay.{both_true, is_node_lem, node_is, pair_at_lem, Sound, apart_own, not_zero, renamed-entry, replay_sound}
use Rattle.graphs.proofs.Certificates.{key-symbol, key-variable, closed_class_table, closed_no_clash, clashes_clash}

-- ---- tests

truth : (b : Bool) → (b ≡ true) ⊎ (b ≡ false)
truth true = inl refl
truth false = inr refl

and-true : {a b : Bool} → a ≡ true → b ≡ true → a and b ≡ true
unfolding ◌and◌
and-true {a} {b} p q = ap (λ (c : Bool). c and b) p ∙ q

or-true : {a : Bool} (b : Bool) → a ≡ true → a or b ≡ true
unfolding ◌or◌
or-true {a} b p = ap (λ (c : Bool). c or b) p

equal_true : (x : ℕ) → eqb x x ≡ true
equal_true x = eq-eqb x x refl

itself_way : (x y : ℕ) → either_way x y x y ≡ true
itself_way x y = or-true (eqb x y and eqb y x) (and-true (equal_true x) (equal_true y))

counts-true : (i n : ℕ) → i < n → counts (suc i) n ≡ true
counts-true i n h = and-true (lt-ltb 0 (suc i) (omega arith)) (le-leb (suc i) n (omega arith))

decide_yes : {P : Type 0} (d : Dec P) → P → decide d ≡ true
unfolding decide
decide_yes (yes q) p = refl
decide_yes (no q) p = absurd (q p)

decide_no : {P : Type 0} (d : Dec P) → (P → ⊥) → not (decide d) ≡ true
unfolding decide
decide_no (yes q) p = absurd (p q)
decide_no (no q) p = refl

all_or_one : (test : ℕ → Bool) (n : ℕ) → (all_below test n ≡ true) ⊎ ((x : ℕ) × (x < n) × (test x ≡ false))
unfolding all_below
all_or_one test zero = inl refl
all_or_one test (suc n) = go (truth (test n)) (all_or_one test n)
  where
    go : (test n ≡ true) ⊎ (test n ≡ false) → (all_below test n ≡ true) ⊎ ((x : ℕ) × (x < n) × (test x ≡ false))
        → (test n and all_below test n ≡ true) ⊎ ((x : ℕ) × (x < suc n) × (test x ≡ false))
    go (inr f) rest = inr (n, (omega arith), f)
    go (inl t) (inl all) = inl (and-true t all)
    go (inl t) (inr (x, h, f)) = inr (x, (omega arith), f)

-- both have one name
abbrev one_name : List ℕ → ℕ → ℕ → Bool
one_name row x y = eqb (entry row x) (entry row y)

abbrev pair_at : List Pair → ℕ → Pair
pair_at pairs k = get_or pairs k (record { left = 0; right = 0 })

pairs_or_one : (row : List ℕ) (few : List Pair) → (holds_pairs few row ≡ true) ⊎ ((k : ℕ) × (k < length few) × (one_name row (pair_at few k).left (pair_at few k).right ≡ false))
unfolding holds_pairs
pairs_or_one row [] = inl refl
pairs_or_one row (p ∷ few) = go (truth (one_name row p.left p.right)) (pairs_or_one row few)
  where
    go : (one_name row p.left p.right ≡ true) ⊎ (one_name row p.left p.right ≡ false)
        → (holds_pairs few row ≡ true) ⊎ ((k : ℕ) × (k < length few) × (one_name row (pair_at few k).left (pair_at few k).right ≡ false))
        → (one_name row p.left p.right and holds_pairs few row ≡ true) ⊎ ((k : ℕ) × (k < suc (length few)) × (one_name row (pair_at (p ∷ few) k).left (pair_at (p ∷ few) k).right ≡ false))
    go (inr f) rest = inr (0, (omega arith), f)
    go (inl t) (inl all) = inl (and-true t all)
    go (inl t) (inr (k, h, f)) = inr (suc k, (omega arith), f)

names_or_one : (row xs ys : List ℕ) → length xs ≡ length ys → (same_names row xs ys ≡ true) ⊎ ((i : ℕ) × (i < length xs) × (one_name row (get_or xs i 0) (get_or ys i 0) ≡ false))
unfolding same_names
names_or_one row [] [] e = inl refl
names_or_one row [] (y ∷ ys) e = absurd (omega arith)
names_or_one row (x ∷ xs) [] e = absurd (omega arith)
names_or_one row (x ∷ xs) (y ∷ ys) e = go (truth (one_name row x y)) (names_or_one row xs ys (omega arith))
  where
    go : (one_name row x y ≡ true) ⊎ (one_name row x y ≡ false)
        → (same_names row xs ys ≡ true) ⊎ ((i : ℕ) × (i < length xs) × (one_name row (get_or xs i 0) (get_or ys i 0) ≡ false))
        → (one_name row x y and same_names row xs ys ≡ true) ⊎ ((i : ℕ) × (i < suc (length xs)) × (one_name row (get_or (x ∷ xs) i 0) (get_or (y ∷ ys) i 0) ≡ false))
    go (inr f) rest = inr (0, (omega arith), f)
    go (inl t) (inl all) = inl (and-true t all)
    go (inl t) (inr (i, h, f)) = inr (suc i, (omega arith), f)

-- ---- what is to be done next

-- A row is closed, or shows a clash, or there is a join to make.
data Next {S : Symbols} (G : Graph S) (pairs : List Pair) (row : List ℕ) : Type 0 where
  is_closed : closed G pairs row ≡ true → Next G pairs row
  shows_clash : (x y : ℕ) → clashes G row x y ≡ true → Next G pairs row
  may_join : (j : Join) → is_true G pairs row j ≡ true → Next G pairs row

module _ {S : Symbols} {G : Graph S} {pairs : List Pair} (wf : WellFormed G) (sides : Sides G pairs) where
  apart_true : (row : List ℕ) {x y : ℕ} → Node G x → Node G y → one_name row x y ≡ false → separate G row x y ≡ true
  apart_true row n m f = and-true (node_is n) (and-true (node_is m) (ap not f))

  -- each class's name is its own entry
  abbrev Own : List ℕ → Type 0
  Own row = (x : ℕ) → Node G x → entry row (entry row x) ≡ entry row x

  name_there : {row : List ℕ} → Sound G pairs row → {x : ℕ} → Node G x → Node G (entry row x)
  name_there sound {x} n = (same_nodes wf sides (sound.with_entry x n)).1

  module _ {row : List ℕ} (sound : Sound G pairs row) (own : Own row) where
    with_name : {x : ℕ} → Node G x → together G row x (entry row x) ≡ true
    with_name {x} n = and-true (node_is n) (and-true (node_is (name_there sound n)) (eq-eqb (entry row x) (entry row (entry row x)) (sym (own x n))))

    join_pair : (k : ℕ) → k < length pairs → one_name row (pair_at pairs k).left (pair_at pairs k).right ≡ false → Next G pairs row
    unfolding is_true grounded
    join_pair k h f =
        let n : Node G (pair_at pairs k).left × Node G (pair_at pairs k).right = sides (pair_at pairs k) (pair_at_lem pairs (record { left = 0; right = 0 }) k h) in
        may_join (record { left = (pair_at pairs k).left; right = (pair_at pairs k).right; ground = given (suc k) })
        (and-true (apart_true row n.0 n.1 f) (and-true (counts-true k (length pairs) h) (itself_way (pair_at pairs k).left (pair_at pairs k).right)))

    -- a node and its class's name, both with a symbol: the symbols differ, or the children at some place are separate
    at_symbols : {x : ℕ} {s r : S.Symbol} {xs ys : List ℕ} → G.head x ≡ symbol s xs → G.head (entry row x) ≡ symbol r ys → agrees_with {S = S} row s xs (symbol r ys) ≡ false → Next G pairs row
    unfolding is_true grounded agrees_with clashes differ differ_from children_of children_beside
    at_symbols {x} {s} {r} {xs} {ys} ex ey f = go (S.decide s r)
      where
        n : Node G x
        n = symbol_node ex

        join_children : s ≡ r → (i : ℕ) → i < length xs → i < length ys → one_name row (get_or xs i 0) (get_or ys i 0) ≡ false → Next G pairs row
        join_children e i hx hy g =
            may_join (record { left = get_or xs i 0; right = get_or ys i 0; ground = children x (entry row x) (suc i) })
            (and-true (apart_true row (wf.child_node x (get_or xs i 0) (child_at ex i hx)) (wf.child_node (entry row x) (get_or ys i 0) (child_at ey i hy)) g)
            (and-true (with_name n)
            (ap (λ (h : Head S). children_of h (G.head (entry row x)) (suc i) (get_or xs i 0) (get_or ys i 0)) ex
            ∙ ap (λ (h : Head S). children_beside s xs h (suc i) (get_or xs i 0) (get_or ys i 0)) ey
            ∙ and-true (decide_yes (S.decide s r) e) (and-true (counts-true i (length xs) hx) (and-true (counts-true i (length ys) hy) (itself_way (get_or xs i 0) (get_or ys i 0)))))))

        go : Dec (s ≡ r) → Next G pairs row
        go (no d) =
            shows_clash x (entry row x)
            (and-true (with_name n)
            (ap (λ (h : Head S). differ h (G.head (entry row x))) ex ∙ ap (differ_from s) ey ∙ decide_no (S.decide s r) d))
        go (yes e) =
            let long : length xs ≡ length ys = wf.counted x s xs ex ∙ ap S.count e ∙ sym (wf.counted (entry row x) r ys ey) in
            ⊎_elim
            (λ all. let t : agrees_with {S = S} row s xs (symbol r ys) ≡ true = and-true (decide_yes (S.decide s r) e) all in never (cc))
            (λ p. join_children e p.0 p.1 (let h : p.0 < length xs = p.1 in omega arith) p.2)
            (names_or_one row xs ys long)

    at_node : (x : ℕ) → agrees G row (G.head x) (entry row x) ≡ false → Next G pairs row
    unfolding agrees
    at_node x f = from (G.head x) refl f
      where
        to : {s : S.Symbol} {xs : List ℕ} → G.head x ≡ symbol s xs → (h : Head S) → G.head (entry row x) ≡ h → agrees_with row s xs h ≡ false → Next G pairs row
        to ex nothing ey g = absurd (nothing_no_node ey (name_there sound (symbol_node ex)))
        to ex variable ey g =
            absurd (omega (arith, key-variable G ey, key-symbol G ex, sound.first x (symbol_node ex), wf.inside x (symbol_node ex)))
        to ex (symbol r ys) ey g = at_symbols ex ey g

        from : (h : Head S) → G.head x ≡ h → agrees G row h (entry row x) ≡ false → Next G pairs row
        from nothing ex g = never (cc)
        from variable ex g = never (cc)
        from (symbol s xs) ex g = to ex (G.head (entry row x)) refl g

    next_move : Next G pairs row
    unfolding closed
    next_move =
        go (pairs_or_one row pairs) (all_or_one (λ x. agrees G row (G.head x) (entry row x)) G.size)
      where
        go : (holds_pairs pairs row ≡ true) ⊎ ((k : ℕ) × (k < length pairs) × (one_name row (pair_at pairs k).left (pair_at pairs k).right ≡ false))
            → (all_below (λ x. agrees G row (G.head x) (entry row x)) G.size ≡ true) ⊎ ((x : ℕ) × (x < G.size) × (agrees G row (G.head x) (entry row x) ≡ false))
            → Next G pairs row
        go (inr (k, h, f)) rest = join_pair k h f
        go (inl t) (inr (x, h, f)) = at_node x f
        go (inl t) (inl all) = is_closed (and-true t all)

  -- ---- one more join

  -- Each class's name is its own entry, and is in a list.
  record Listed (row names : List ℕ) : Type 0 where
    pub own : Own row
    pub listed : (x : ℕ) → Node G x → Memᴰ (entry row x) names

  -- A log has led to a row whose names are in a list.
  record Progress (log : List Join) (row names : List ℕ) : Type 0 where
    pub replayed : replay G pairs log ≡ ends row
    pub names_listed : Listed row names

  module _ (row : List ℕ) {names : List ℕ} (listed : Listed row names) (old new : ℕ) (there : Node G old) (other : old ≡ new → ⊥) (own_new : entry row new ≡ new) (new_listed : Memᴰ new names) where
    renamed_at : (x : ℕ) → (entry (renamed old new row) x ≡ new) ⊎ ((entry (renamed old new row) x ≡ entry row x) × (entry row x ≡ old → ⊥))
    renamed_at x = go (eqb (entry row x) old) refl
      where
        at : (b : Bool) → eqb (entry row x) old ≡ b → entry (renamed old new row) x ≡ cond b new (entry row x)
        at b q = renamed-entry wf sides old new row (not_zero wf sides there) x ∙ ap (λ (c : Bool). cond c new (entry row x)) q

        go : (b : Bool) → eqb (entry row x) old ≡ b → (entry (renamed old new row) x ≡ new) ⊎ ((entry (renamed old new row) x ≡ entry row x) × (entry row x ≡ old → ⊥))
        go true q = inl (at true q)
        go false q = inr (at false q, eqb-false (entry row x) old q)

    -- what is its own entry and is not renamed still is
    renamed_stays : (r : ℕ) → entry row r ≡ r → (old ≡ r → ⊥) → entry (renamed old new row) r ≡ r
    renamed_stays r e f =
        renamed-entry wf sides old new row (not_zero wf sides there) r
        ∙ ap (λ (b : Bool). cond b new (entry row r)) (ne_eqb (entry row r) old (λ q. f (sym q ∙ e)))
        ∙ e

    renamed_listed : Listed (renamed old new row) (without old names)
    renamed_listed = record { own = λ x n. own_at x n (renamed_at x); listed = λ x n. listed_at x n (renamed_at x) }
      where
        own_at : (x : ℕ) → Node G x → (entry (renamed old new row) x ≡ new) ⊎ ((entry (renamed old new row) x ≡ entry row x) × (entry row x ≡ old → ⊥))
            → entry (renamed old new row) (entry (renamed old new row) x) ≡ entry (renamed old new row) x
        own_at x n (inl e) = ap (entry (renamed old new row)) e ∙ renamed_stays new own_new other ∙ sym e
        own_at x n (inr (e, f)) = ap (entry (renamed old new row)) e ∙ renamed_stays (entry row x) (listed.own x n) (λ q. f (sym q)) ∙ sym e

        listed_at : (x : ℕ) → Node G x → (entry (renamed old new row) x ≡ new) ⊎ ((entry (renamed old new row) x ≡ entry row x) × (entry row x ≡ old → ⊥))
            → Memᴰ (entry (renamed old new row) x) (without old names)
        listed_at x n (inl e) = subst (λ (r : ℕ). Memᴰ r (without old names)) (sym e) (still_in new_listed other)
        listed_at x n (inr (e, f)) = subst (λ (r : ℕ). Memᴰ r (without old names)) (sym e) (still_in (listed.listed x n) (λ q. f (sym q)))

  replay_more : (log : List Join) (number : ℕ) (row : List ℕ) {last : List ℕ} (j : Join) → replay_from G pairs number row log ≡ ends last → is_true G pairs last j ≡ true
      → replay_from G pairs number row (log ++ (j ∷ [])) ≡ ends (joined G last j)
  unfolding replay_from if_true
  replay_more [] number row {last} j e t =
      let same : row ≡ last = cc in
      ap (λ (b : Bool). if_true b number (ends (joined G row j))) (ap (λ (r : List ℕ). is_true G pairs r j) same ∙ t)
      ∙ ap (λ (r : List ℕ). ends (joined G r j)) same
  replay_more (i ∷ log) number row {last} j e t =
      go (is_true G pairs row i) refl e (λ q. replay_more log (suc number) (joined G row i) j q t)
    where
      go : (b : Bool) → is_true G pairs row i ≡ b → if_true b number (replay_from G pairs (suc number) (joined G row i) log) ≡ ends last
          → (replay_from G pairs (suc number) (joined G row i) log ≡ ends last → replay_from G pairs (suc number) (joined G row i) (log ++ (j ∷ [])) ≡ ends (joined G last j))
          → if_true b number (replay_from G pairs (suc number) (joined G row i) (log ++ (j ∷ []))) ≡ ends (joined G last j)
      go true u q rest = rest q
      go false u q rest = never (cc)

  joined_progress : {log : List Join} {row names : List ℕ} → Progress log row names → (j : Join) → is_true G pairs row j ≡ true
      → (rest : List ℕ) × Progress (log ++ (j ∷ [])) (joined G row j) rest × (length rest < length names)
  unfolding is_true merged replay
  joined_progress {log} {row} {names} p j t = go (leb (key G l) (key G m)) refl
    where
      l : ℕ
      l = entry row j.left

      m : ℕ
      m = entry row j.right

      parts : (separate G row j.left j.right ≡ true) × (grounded G pairs row j.ground j.left j.right ≡ true)
      parts = both_true t

      left_node : Node G j.left
      left_node = is_node_lem j.left (both_true parts.0).0

      right_node : Node G j.right
      right_node = is_node_lem j.right (both_true (both_true parts.0).1).0

      other : l ≡ m → ⊥
      other = eqb-false l m (not-true (eqb l m) (both_true (both_true parts.0).1).1)

      sound : Sound G pairs row
      sound = replay_sound wf sides log p.replayed

      names_in : Listed row names
      names_in = p.names_listed

      on : {rest : List ℕ} (next : List ℕ) → joined G row j ≡ next → Listed next rest → Progress (log ++ (j ∷ [])) (joined G row j) rest
      on {rest} next e h =
          record { replayed = replay_more log 1 (apart G) j p.replayed t; names_listed = subst (λ (r : List ℕ). Listed r rest) (sym e) h }

      go : (b : Bool) → leb (key G l) (key G m) ≡ b → (rest : List ℕ) × Progress (log ++ (j ∷ [])) (joined G row j) rest × (length rest < length names)
      go true q = (
        without m names,
        on (renamed m l row) (ap (λ (b : Bool). cond b (renamed m l row) (renamed l m row)) q)
            (renamed_listed row names_in m l (name_there sound right_node) (λ e. other (sym e)) (names_in.own j.left left_node) (names_in.listed j.left left_node)),
        without_shorter (names_in.listed j.right right_node),
      )
      go false q = (
        without l names,
        on (renamed l m row) (ap (λ (b : Bool). cond b (renamed m l row) (renamed l m row)) q)
            (renamed_listed row names_in l m (name_there sound left_node) other (names_in.own j.right right_node) (names_in.listed j.right right_node)),
        without_shorter (names_in.listed j.left left_node),
      )

  -- ---- to the end

  abbrev Settled : Type 0
  Settled = (log : List Join) × (row : List ℕ) × (replay G pairs log ≡ ends row) × ((closed G pairs row ≡ true) ⊎ ((x : ℕ) × (y : ℕ) × (clashes G row x y ≡ true)))

  settle : (k : ℕ) {log : List Join} {row names : List ℕ} → length names ≤ k → Progress log row names → Settled
  settle zero {log} {row} few p = go (next_move (replay_sound wf sides log p.replayed) p.names_listed.own)
    where
      go : Next G pairs row → Settled
      go (is_closed c) = (log, row, p.replayed, inl c)
      go (shows_clash x y c) = (log, row, p.replayed, inr (x, y, c))
      go (may_join j t) = absurd (omega (arith, (joined_progress p j t).2))
  settle (suc k) {log} {row} few p =
      go (next_move (replay_sound wf sides log p.replayed) p.names_listed.own) (λ j t. settle k (omega (arith, (joined_progress p j t).2)) (joined_progress p j t).1)
    where
      go : Next G pairs row → ((j : Join) → is_true G pairs row j ≡ true → Settled) → Settled
      go (is_closed c) more = (log, row, p.replayed, inl c)
      go (shows_clash x y c) more = (log, row, p.replayed, inr (x, y, c))
      go (may_join j t) more = more j t

  apart_progress : Progress [] (apart G) (upto G.size)
  unfolding replay replay_from
  apart_progress =
      record {
        replayed = refl;
        names_listed =
            record {
              own = λ x n. ap (entry (apart G)) (apart_own G wf x n);
              listed = λ x n. subst (λ (r : ℕ). Memᴰ r (upto G.size)) (sym (apart_own G wf x n)) (upto_has G.size x (wf.inside x n));
            };
      }

  -- Every list has a log that ends in a closed row, or in a row that shows a clash.
  pub log_settles : (log : List Join) × (row : List ℕ) × (replay G pairs log ≡ ends row) × ((closed G pairs row ≡ true) ⊎ ((x : ℕ) × (y : ℕ) × (clashes G row x y ≡ true)))
  log_settles = settle G.size (omega (arith, upto-length G.size)) apart_progress

  -- Every list has a class table, and then no clash; or a clash.
  pub class_table_or_clash : ((row : List ℕ) × ClassTable G pairs row × (Clash G pairs → ⊥)) ⊎ Clash G pairs
  class_table_or_clash = go log_settles
    where
      go : Settled → ((row : List ℕ) × ClassTable G pairs row × (Clash G pairs → ⊥)) ⊎ Clash G pairs
      go (log, row, e, inl c) =
          inl (row, closed_class_table wf sides (replay_sound wf sides log e) c, closed_no_clash wf sides (replay_sound wf sides log e) c)
      go (log, row, e, inr (x, y, c)) = inr (clashes_clash wf sides (replay_sound wf sides log e) x y c)
