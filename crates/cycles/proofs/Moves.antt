-- The moves of the search keep its invariant: a new vertex is begun (`begin`), edges were passed over (`advance`), and the vertex
-- at the end of the path is finished (`finish`). The first and the last are `Moved`. Assumes nothing.
use mathlib.Core.Path.{◌≡◌, sym, ap, ◌∙◌, subst}
use mathlib.Core.List.{List}
use Prim.Native.Nat.{ℕ, ◌+◌, ◌-◌, ◌≤◌, ◌<◌}
use native.Mathlib.Decide.{ℕ_discrete, dec_lt}
use native.Mathlib.Omega.{arith}
use lib.ListN.{set}
use Rattle.cycles.specs.Digraph.{Digraph}
use Rattle.cycles.specs.Steps.Marks.{mark, finished_mark, on_path, Safe, safe, Follows, Search, Grown}
use Rattle.cycles.proofs.Totals.{left, total_part}
use Rattle.cycles.proofs.Stores.{Raised, raised_mark, raised_push, pushed, raised_grown, raised_at_most, raised_less, raised_begun, raised_new}

-- the same mark and the same ends
follows_at : {D : Digraph} {w w' : List ℕ} {x x' y y' : ℕ} → mark w' x ≡ mark w x → x' ≡ x → y' ≡ y → Follows D w x y → Follows D w' x' y'
follows_at {D} {w} {w'} {x} {x'} {y} {y'} m p q follows =
    subst (λ (z : ℕ). Follows D w' z y') (sym p)
    (record {
      more = omega (arith, follows.more);
      leads = ap (λ (k : ℕ). D.next x (k - 1)) m ∙ follows.leads ∙ sym q;
    })

-- What a raised mark leaves of the path up to `depth`, if the raised vertex is not on it, or stays unfinished.
module _ {D : Digraph} {before depth x m : ℕ} {w w' : List ℕ} (S : Search D w before) (within : depth ≤ before) (R : Raised D before x m w w') where
  marks_on_path : (k : ℕ) → k < depth → (on_path D w k ≡ x → ⊥) → mark w' (on_path D w' k) ≡ mark w (on_path D w k)
  marks_on_path k h other =
      ap (mark w') (R.path k (omega arith)) ∙ R.others (on_path D w k) (S.inside k (omega arith)) other

  seen' : ((i : ℕ) → i < D.count x → mark w x ≤ i + 1 → i + 1 < m → Safe D (D.next x i))
      → (z i : ℕ) → z < D.size → i < D.count z → i + 1 < mark w' z → Safe D (D.next z i)
  seen' passed z i h j k = go (ℕ_discrete z x)
    where
      at_x : (i < D.count x) → (i + 1 < m) → Dec (i + 1 < mark w x) → Safe D (D.next x i)
      at_x j k (yes l) = S.seen x i R.inside j l
      at_x j k (no l) = passed i j (omega arith) k

      go : Dec (z ≡ x) → Safe D (D.next z i)
      go (yes e) =
          subst (λ (y : ℕ). Safe D (D.next y i)) (sym e)
          (at_x (omega (arith, ap D.count e)) (omega (arith, ap (mark w') e, R.new)) (dec_lt (i + 1) (mark w x)))
      go (no e) = S.seen z i h j (omega (arith, R.others z h e))

  inside' : (k : ℕ) → k < depth → on_path D w' k < D.size
  inside' k h = omega (arith, R.path k (omega arith), S.inside k (omega arith))

  begun' : (k : ℕ) → k < depth → 0 < mark w' (on_path D w' k)
  begun' k h = omega (arith, ap (mark w') (R.path k (omega arith)), (raised_grown R).marks (on_path D w k) (S.inside k (omega arith)), S.begun k (omega arith))

  linked' : (k : ℕ) → k + 1 < depth → (on_path D w k ≡ x → ⊥) → Follows D w' (on_path D w' k) (on_path D w' (k + 1))
  linked' k h other =
      follows_at (R.others (on_path D w k) (S.inside k (omega arith)) other) (R.path k (omega arith)) (R.path (k + 1) (omega arith)) (S.linked k (omega arith))

  distinct' : (j k : ℕ) → j < k → k < depth → on_path D w' j ≡ on_path D w' k → ⊥
  distinct' j k h i e = S.distinct j k h (omega arith) (sym (R.path j (omega arith)) ∙ e ∙ R.path k (omega arith))

-- The search went on and has `depth` vertices on the path.
pub record SearchMoved (D : Digraph) (before after : List ℕ) (depth : ℕ) : Type 0 where
  pub search : Search D after depth
  pub grown : Grown D before after
  pub less : left D after < left D before

-- Edges were passed over: the path is as it was, and marks can be raised by no more than before.
pub record Advanced (D : Digraph) (before after : List ℕ) (depth : ℕ) : Type 0 where
  pub search : Search D after depth
  pub grown : Grown D before after
  pub at_most : left D after ≤ left D before

-- From a finished vertex every walk ends.
pub finished_safe : {D : Digraph} {w : List ℕ} {depth : ℕ} → Search D w depth → (x : ℕ) → x < D.size → mark w x ≡ finished_mark → Safe D x
finished_safe {D} {w} S x h m =
    safe (λ y edge. subst (λ (z : ℕ). Safe D z) edge.2 (S.seen x edge.0 h edge.1 (omega (arith, edge.1, S.few_edges x))))

module _ {D : Digraph} {w : List ℕ} {depth : ℕ} (S : Search D w depth) where
  -- The vertex at the end of the path has passed over all its edges: it is finished, and leaves the path.
  pub finish : (x : ℕ) → 0 < depth → on_path D w (depth - 1) ≡ x
      → ((i : ℕ) → i < D.count x → mark w x ≤ i + 1 → Safe D (D.next x i)) → SearchMoved D w (set w x finished_mark) (depth - 1)
  finish x some end all =
      record {
        search = record {
          room = omega (arith, S.room, R.long);
          few_edges = S.few_edges;
          few = omega (arith, S.few, raised_begun R begun);
          seen = seen' S within R (λ i h old new. all i h old);
          inside = inside' S within R;
          begun = begun' S within R;
          unfinished = λ k h. omega (arith, marks_on_path S within R k h (other k h), S.unfinished k (omega arith));
          linked = λ k h. linked' S within R k h (other k (omega arith));
          distinct = distinct' S within R;
          whole = λ z h b u. whole' z h b u (ℕ_discrete z x);
        };
        grown = raised_grown R;
        less = raised_less R (omega (arith, unfinished)) (omega (arith, unfinished));
      }
    where
      w' : List ℕ
      w' = set w x finished_mark

      within : depth - 1 ≤ depth
      within = omega arith

      inside : x < D.size
      inside = omega (arith, S.inside (depth - 1) (omega arith))

      begun : 0 < mark w x
      begun = omega (arith, S.begun (depth - 1) (omega arith), ap (mark w) end)

      unfinished : mark w x < finished_mark
      unfinished = omega (arith, S.unfinished (depth - 1) (omega arith), ap (mark w) end)

      R : Raised D depth x finished_mark w w'
      R = raised_mark D depth x w inside S.room finished_mark (omega (arith, unfinished))

      other : (k : ℕ) → k < depth - 1 → on_path D w k ≡ x → ⊥
      other k h e = S.distinct k (depth - 1) h (omega arith) (e ∙ sym end)

      whole' : (z : ℕ) → z < D.size → 0 < mark w' z → (mark w' z ≡ finished_mark → ⊥) → Dec (z ≡ x)
          → (k : ℕ) × (k < depth - 1) × (on_path D w' k ≡ z)
      whole' z h b u (yes e) = absurd (u (ap (mark w') e ∙ R.new))
      whole' z h b u (no e) = shorter (S.whole z h (omega (arith, R.others z h e)) (λ f. u (R.others z h e ∙ f)))
        where
          shorter : (k : ℕ) × (k < depth) × (on_path D w k ≡ z) → (k : ℕ) × (k < depth - 1) × (on_path D w' k ≡ z)
          shorter p = (p.0, before, R.path p.0 p.1 ∙ p.2)
            where
              last : p.0 ≡ depth - 1 → z ≡ x
              last q = sym p.2 ∙ ap (on_path D w) q ∙ end

              before : p.0 < depth - 1
              before = go (ℕ_discrete p.0 (depth - 1))
                where
                  go : Dec (p.0 ≡ depth - 1) → p.0 < depth - 1
                  go (yes q) = absurd (e (last q))
                  go (no q) = omega (arith, p.1)

  -- The vertex at the end of the path has passed over its edges before the one at place i.
  pub advance : (x i : ℕ) → 0 < depth → on_path D w (depth - 1) ≡ x → mark w x ≤ i + 1 → i < D.count x
      → ((k : ℕ) → mark w x ≤ k + 1 → k < i → Safe D (D.next x k)) → Advanced D w (set w x (i + 1)) depth
  advance x i some end old more over =
      record {
        search = record {
          room = omega (arith, S.room, R.long);
          few_edges = S.few_edges;
          few = omega (arith, S.few, raised_begun R begun);
          seen = seen' S within R (λ k h before new. over k before (omega arith));
          inside = inside' S within R;
          begun = begun' S within R;
          unfinished = λ k h. unfinished' k h (ℕ_discrete (on_path D w k) x);
          linked = λ k h. linked' S within R k h (other k h);
          distinct = distinct' S within R;
          whole = λ z h b u. whole' z h b u (ℕ_discrete z x);
        };
        grown = raised_grown R;
        at_most = raised_at_most R;
      }
    where
      w' : List ℕ
      w' = set w x (i + 1)

      within : depth ≤ depth
      within = omega arith

      inside : x < D.size
      inside = omega (arith, S.inside (depth - 1) (omega arith))

      begun : 0 < mark w x
      begun = omega (arith, S.begun (depth - 1) (omega arith), ap (mark w) end)

      R : Raised D depth x (i + 1) w w'
      R = raised_mark D depth x w inside S.room (i + 1) old

      other : (k : ℕ) → k + 1 < depth → on_path D w k ≡ x → ⊥
      other k h e = S.distinct k (depth - 1) (omega arith) (omega arith) (e ∙ sym end)

      unfinished' : (k : ℕ) → k < depth → Dec (on_path D w k ≡ x) → mark w' (on_path D w' k) < finished_mark
      unfinished' k h (yes e) =
          let here : on_path D w' k ≡ x = R.path k h ∙ e in
          omega (arith, R.new, ap (mark w') here, S.few_edges x)
      unfinished' k h (no e) =
          omega (arith, marks_on_path S within R k h e, S.unfinished k h)

      still : {z : ℕ} → (k : ℕ) × (k < depth) × (on_path D w k ≡ z) → (k : ℕ) × (k < depth) × (on_path D w' k ≡ z)
      still p = (p.0, p.1, R.path p.0 p.1 ∙ p.2)

      whole' : (z : ℕ) → z < D.size → 0 < mark w' z → (mark w' z ≡ finished_mark → ⊥) → Dec (z ≡ x)
          → (k : ℕ) × (k < depth) × (on_path D w' k ≡ z)
      whole' z h b u (yes e) = still (depth - 1, omega arith, end ∙ sym e)
      whole' z h b u (no e) = still (S.whole z h (omega (arith, R.others z h e)) (λ f. u (R.others z h e ∙ f)))

  -- the path has room for a new vertex
  pub path_room : (y : ℕ) → y < D.size → mark w y ≡ 0 → depth < D.size
  path_room y inside fresh = omega (arith, total_part (λ x m. 1 - m) w y D.size inside, S.few)

  -- A new vertex, to which the end of the path leads if there is one, is begun.
  pub begin : (y : ℕ) → y < D.size → mark w y ≡ 0 → (0 < depth → Follows D w (on_path D w (depth - 1)) y)
      → SearchMoved D w (set (set w y 1) (D.size + depth) y) (depth + 1)
  begin y inside fresh follows =
      record {
        search = record {
          room = omega (arith, S.room, R.long);
          few_edges = S.few_edges;
          few = omega (arith, S.few, raised_new R fresh (omega arith));
          seen = seen' S within R (λ i h old new. absurd (omega arith));
          inside = λ k h. inside'' k (dec_lt k depth) h;
          begun = λ k h. begun'' k (dec_lt k depth) h;
          unfinished = λ k h. unfinished'' k (dec_lt k depth) h;
          linked = λ k h. linked'' k (dec_lt (k + 1) depth) h;
          distinct = λ j k h i e. distinct'' j k h i e (dec_lt k depth);
          whole = λ z h b u. whole'' z h b u (ℕ_discrete z y);
        };
        grown = raised_grown R;
        less = raised_less R (omega arith) (omega arith);
      }
    where
      w' : List ℕ
      w' = set (set w y 1) (D.size + depth) y

      within : depth ≤ depth
      within = omega arith

      R : Raised D depth y 1 w w'
      R = raised_push D depth y w inside S.room (path_room y inside fresh) fresh

      last : on_path D w' depth ≡ y
      last = pushed D depth y w inside S.room (path_room y inside fresh)

      at_last : (k : ℕ) → (k < depth → ⊥) → k < depth + 1 → on_path D w' k ≡ y
      at_last k n h = ap (on_path D w') (omega arith) ∙ last

      other : (k : ℕ) → k < depth → on_path D w k ≡ y → ⊥
      other k h e = omega (arith, S.begun k h, ap (mark w) e)

      inside'' : (k : ℕ) → Dec (k < depth) → k < depth + 1 → on_path D w' k < D.size
      inside'' k (yes l) h = inside' S within R k l
      inside'' k (no l) h = omega (arith, at_last k l h)

      begun'' : (k : ℕ) → Dec (k < depth) → k < depth + 1 → 0 < mark w' (on_path D w' k)
      begun'' k (yes l) h = begun' S within R k l
      begun'' k (no l) h = omega (arith, ap (mark w') (at_last k l h), R.new)

      unfinished'' : (k : ℕ) → Dec (k < depth) → k < depth + 1 → mark w' (on_path D w' k) < finished_mark
      unfinished'' k (yes l) h = omega (arith, marks_on_path S within R k l (other k l), S.unfinished k l)
      unfinished'' k (no l) h = omega (arith, ap (mark w') (at_last k l h), R.new)

      linked'' : (k : ℕ) → Dec (k + 1 < depth) → k + 1 < depth + 1 → Follows D w' (on_path D w' k) (on_path D w' (k + 1))
      linked'' k (yes l) h = linked' S within R k l (other k (omega arith))
      linked'' k (no l) h =
          let end : on_path D w k ≡ on_path D w (depth - 1) = ap (on_path D w) (omega arith) in
          follows_at (R.others (on_path D w (depth - 1)) (S.inside (depth - 1) (omega arith)) (other (depth - 1) (omega arith)))
          (R.path k (omega arith) ∙ end) (at_last (k + 1) l h) (follows (omega arith))

      distinct'' : (j k : ℕ) → j < k → k < depth + 1 → on_path D w' j ≡ on_path D w' k → Dec (k < depth) → ⊥
      distinct'' j k h i e (yes l) = distinct' S within R j k h l e
      distinct'' j k h i e (no l) = other j (omega arith) (sym (R.path j (omega arith)) ∙ e ∙ at_last k l i)

      whole'' : (z : ℕ) → z < D.size → 0 < mark w' z → (mark w' z ≡ finished_mark → ⊥) → Dec (z ≡ y)
          → (k : ℕ) × (k < depth + 1) × (on_path D w' k ≡ z)
      whole'' z h b u (yes e) = (depth, omega arith, last ∙ sym e)
      whole'' z h b u (no e) = longer (S.whole z h (omega (arith, R.others z h e)) (λ f. u (R.others z h e ∙ f)))
        where
          longer : (k : ℕ) × (k < depth) × (on_path D w k ≡ z) → (k : ℕ) × (k < depth + 1) × (on_path D w' k ≡ z)
          longer p = (p.0, omega (arith, p.1), R.path p.0 p.1 ∙ p.2)
