-- Two functions with one symbol go down: their children meet place by place.
--
-- In order: the pairs of children (`child_pairs_next`); the meetings one after the other (`Going`); the last waiting pair
-- leaves the work row (`popped`); until none waits (`Settling`). Assumes nothing.
use mathlib.Core.Path.{◌≡◌, refl, sym, ap, ◌∙◌, subst}
use mathlib.Core.Logic.{⊎_elim}
use mathlib.Core.List.Memᴰ
use mathlib.Core.List.{List, [], ◌∷◌, ◌++◌}
use Prim.Native.Nat.{ℕ, zero, suc, ◌+◌, ◌-◌, ◌*◌, ◌≤◌, ◌<◌}
use native.Mathlib.Decide.{ℕ_discrete}
use native.Mathlib.Omega.{arith}
use Rattle.std.specs.Prelude.{Result, Ok, Err}
use Rattle.graphs.specs.Partition.{Pair, ◌∈◌, Same, classes}
use Rattle.table.specs.Readable.{PassedCheck}
use Rattle.table.specs.Table.{graph_of, degree, child_of}
use Rattle.classes.specs.Steps.Meeting.{OneSymbol, waiting_left, waiting_right, State, Within, Agrees, Complete, Moved, Stopped, Turned, went_on, Meets, GoesDown, child_pairs, Settled, all_joined}
use Rattle.classes.specs.declared.meet.Clash.{Clash as ClashMet}
use Rattle.classes.proofs.Symbols.{one_symbol_children}
use Rattle.classes.proofs.Moves.{moved_none, moved_join, stopped_after, waiting_moved, clash_stops}

-- ---- the pairs of children

abbrev child_pair : List ℕ → ℕ → ℕ → ℕ → Pair
child_pair t f g i = record { left = child_of t f i; right = child_of t g i }

module _ (t : List ℕ) (f g : ℕ) where
  child_pairs_next : (d i : ℕ) → i < d → child_pairs t f g i (d - i) ≡ child_pair t f g i ∷ child_pairs t f g (i + 1) (d - (i + 1))
  unfolding child_pairs
  child_pairs_next d i h =
      ap (child_pairs t f g i) (let e : d - i ≡ suc (d - (i + 1)) = omega arith in e)
      ∙ ap (λ (j : ℕ). child_pair t f g i ∷ child_pairs t f g j (d - (i + 1))) (let e : suc i ≡ i + 1 = omega arith in e)

  child_pairs_none : (i : ℕ) → child_pairs t f g i (i - i) ≡ []
  unfolding child_pairs
  child_pairs_none i = ap (child_pairs t f g i) (let e : i - i ≡ 0 = omega arith in e)

  -- each pair of children is among them
  child_among : (i k j : ℕ) (rest : List Pair) → j < k → child_pair t f g (i + j) ∈ (child_pairs t f g i k ++ rest)
  unfolding child_pairs
  child_among i zero j rest h = absurd (omega arith)
  child_among i (suc k) zero rest h = Memᴰ.head (ap (child_pair t f g) (let e : i + 0 ≡ i = omega arith in e))
  child_among i (suc k) (suc j) rest h =
      Memᴰ.tail (subst (λ (z : ℕ). child_pair t f g z ∈ (child_pairs t f g (suc i) k ++ rest)) (let e : suc i + j ≡ i + suc j = omega arith in e) (child_among (suc i) k j rest (omega arith)))

  -- what holds of each pair of children and of each other pair holds of all
  child_each : (P : Pair → Type 0) (i k : ℕ) (rest : List Pair) → ((j : ℕ) → i ≤ j → j < i + k → P (child_pair t f g j)) → ((p : Pair) → p ∈ rest → P p)
      → (p : Pair) → p ∈ (child_pairs t f g i k ++ rest) → P p
  unfolding child_pairs
  child_each P i zero rest each others p m = others p m
  child_each P i (suc k) rest each others p m =
      ⊎_elim (λ e. subst P (sym e) (each i (omega arith) (omega arith)))
      (λ r. child_each P (suc i) k rest (λ j l h. each j (omega arith) (omega arith)) others p r)
      (Memᴰ.cases_cons m)

-- ---- the meetings one after the other

-- The children before place i have met.
pub record Going (t row₀ work₀ : List ℕ) (waiting₀ f g d : ℕ) (row work : List ℕ) (waiting i : ℕ) : Type 0 where
  pub within : i ≤ d
  pub moved : (owed : List Pair)
      → Moved t (record { row = row₀; work = work₀; waiting = waiting₀; owed = child_pairs t f g 0 d ++ owed }) (record { row = row; work = work; waiting = waiting; owed = child_pairs t f g i (d - i) ++ owed })

pub going_starts : {t row work : List ℕ} {waiting : ℕ} (f g d : ℕ) → State t row work waiting → Going t row work waiting f g d row work waiting 0
going_starts {t} {row} {work} {waiting} f g d s =
    record {
      within = omega arith;
      moved = λ owed.
          subst (λ (k : ℕ). Moved t (record { row = row; work = work; waiting = waiting; owed = child_pairs t f g 0 d ++ owed }) (record { row = row; work = work; waiting = waiting; owed = child_pairs t f g 0 k ++ owed }))
          (let e : d ≡ d - 0 = omega arith in e) (moved_none s);
    }

module _ {t row₀ work₀ : List ℕ} {waiting₀ f g d : ℕ} {row work : List ℕ} {waiting i : ℕ} (going : Going t row₀ work₀ waiting₀ f g d row work waiting i) where
  -- the state is there, whatever else is to meet
  pub going_state : State t row work waiting
  going_state = (going.moved []).state

  next_met : i < d → {row_after work_after : List ℕ} {turn : Result ℕ ClashMet} {l r : ℕ} → l ≡ child_of t f i → r ≡ child_of t g i → Meets t row work waiting l r row_after work_after turn
      → (owed : List Pair) → Turned t (record { row = row; work = work; waiting = waiting; owed = child_pairs t f g i (d - i) ++ owed }) row_after work_after (child_pairs t f g (i + 1) (d - (i + 1)) ++ owed) turn
  next_met h {row_after} {work_after} {turn} {l} {r} el er m owed =
      subst (λ (o : List Pair). Turned t (record { row = row; work = work; waiting = waiting; owed = o }) row_after work_after (child_pairs t f g (i + 1) (d - (i + 1)) ++ owed) turn)
      (
      ap (λ (p : Pair). p ∷ (child_pairs t f g (i + 1) (d - (i + 1)) ++ owed)) (let e : ◌≡◌ {A = Pair} (record { left = l; right = r }) (child_pair t f g i) = (λ j. record { left = el j; right = er j }) in e)
      ∙ ap (λ (o : List Pair). o ++ owed) (sym (child_pairs_next t f g d i h))
      )
      (m (child_pairs t f g (i + 1) (d - (i + 1)) ++ owed))

  module _ {row_after work_after : List ℕ} {turn : Result ℕ ClashMet} {l r : ℕ} (h : i < d) (el : l ≡ child_of t f i) (er : r ≡ child_of t g i) (m : Meets t row work waiting l r row_after work_after turn) where
    pub going_on : {more : ℕ} → turn ≡ Ok more → Going t row₀ work₀ waiting₀ f g d row_after work_after more (i + 1)
    going_on e = record { within = omega arith; moved = λ owed. moved_join (going.moved owed) (waiting_moved (next_met h el er m owed) e) }

    pub going_stops : {met : ClashMet} → turn ≡ Err met → (owed : List Pair) → Stopped t (record { row = row₀; work = work₀; waiting = waiting₀; owed = child_pairs t f g 0 d ++ owed }) row_after work_after
    going_stops e owed = stopped_after (going.moved owed) (clash_stops (next_met h el er m owed) e)

  pub going_ends : d ≤ i → (owed : List Pair) → Turned t (record { row = row₀; work = work₀; waiting = waiting₀; owed = child_pairs t f g 0 d ++ owed }) row work owed (Ok waiting)
  going_ends h owed =
      went_on (subst (λ (o : List Pair). Moved t (record { row = row₀; work = work₀; waiting = waiting₀; owed = child_pairs t f g 0 d ++ owed }) (record { row = row; work = work; waiting = waiting; owed = o }))
      (ap (λ (o : List Pair). o ++ owed) (ap (λ (z : ℕ). child_pairs t f g i (z - i)) (let e : d ≡ i = omega (arith, going.within) in e) ∙ child_pairs_none t f g i)) (going.moved owed))

-- ---- the last waiting pair leaves the work row

module _ {t row work : List ℕ} {waiting : ℕ} (checked : PassedCheck t) (state : State t row work waiting) (some : 0 < waiting) where
  abbrev f : ℕ
  f = waiting_left work (waiting - 1)

  abbrev g : ℕ
  g = waiting_right work (waiting - 1)

  pub last_symbol : OneSymbol t (waiting_left work (waiting - 1)) (waiting_right work (waiting - 1))
  last_symbol = state.waits (waiting - 1) (omega arith)

  pub last_state : State t row work (waiting - 1)
  last_state =
      record {
        forest = state.forest;
        node_up = state.node_up;
        empty = state.empty;
        symbol_up = λ x e. state.symbol_up x e;
        work_room = state.work_room;
        few = omega (arith, state.few);
        waits = λ k h. state.waits k (omega arith);
      }

  module _ (owed : List Pair) where
    popped_within : (pairs : List Pair) → Within t pairs (record { row = row; work = work; waiting = waiting; owed = owed })
        → Within t pairs (record { row = row; work = work; waiting = waiting - 1; owed = child_pairs t f g 0 (degree t f) ++ owed })
    popped_within pairs i =
        record {
          links = i.links;
          waiting = λ k h. i.waiting k (omega arith);
          owed =
              child_each t f g (λ (p : Pair). Same (graph_of t) pairs p.left p.right) 0 (degree t f) owed
              (λ j l h. one_symbol_children t checked.well_formed last_symbol j (omega arith) (i.waiting (waiting - 1) (omega arith))) i.owed;
        }

    popped_agrees : (q : ℕ → ℕ) → Agrees t (record { row = row; work = work; waiting = waiting - 1; owed = child_pairs t f g 0 (degree t f) ++ owed }) q
        → Agrees t (record { row = row; work = work; waiting = waiting; owed = owed }) q
    popped_agrees q a =
        record {
          links = a.links;
          waiting = λ k i h b. at k i b (ℕ_discrete k (waiting - 1)) h;
          owed = λ p m. a.owed p (Memᴰ.append_right (child_pairs t f g 0 (degree t f)) m);
        }
      where
        at : (k i : ℕ) → i < degree t (waiting_left work k) → Dec (k ≡ waiting - 1) → k < waiting → q (child_of t (waiting_left work k) i) ≡ q (child_of t (waiting_right work k) i)
        at k i b (yes e) h =
            subst (λ (z : ℕ). q (child_of t (waiting_left work z) i) ≡ q (child_of t (waiting_right work z) i)) (sym e)
            (a.owed (child_pair t f g i) (subst (λ (z : ℕ). child_pair t f g z ∈ (child_pairs t f g 0 (degree t f) ++ owed)) (let p : 0 + i ≡ i = omega arith in p)
            (child_among t f g 0 (degree t f) i owed (subst (λ (z : ℕ). i < degree t (waiting_left work z)) e b))))
        at k i b (no d) h = a.waiting k i (omega arith) b

    popped_complete : (done : List Pair) → Complete t done (record { row = row; work = work; waiting = waiting; owed = owed })
        → Complete t done (record { row = row; work = work; waiting = waiting - 1; owed = child_pairs t f g 0 (degree t f) ++ owed })
    popped_complete done c = record { pairs = λ q a. c.pairs q (popped_agrees q a); children = λ q a. c.children q (popped_agrees q a) }

    pub popped : Moved t (record { row = row; work = work; waiting = waiting; owed = owed }) (record { row = row; work = work; waiting = waiting - 1; owed = child_pairs t f g 0 (degree t f) ++ owed })
    popped =
        record {
          state = last_state;
          within = popped_within;
          complete = popped_complete;
          less = omega arith;
          kept = record { row_long = refl; work_long = refl; row_behind = refl; work_behind = refl };
        }

-- ---- until none waits

-- So far so good: what waited at first has gone down, or what it left waits.
pub record Settling (t row₀ work₀ : List ℕ) (waiting₀ : ℕ) (row work : List ℕ) (waiting : ℕ) : Type 0 where
  pub moved : (owed : List Pair) → Moved t (record { row = row₀; work = work₀; waiting = waiting₀; owed = owed }) (record { row = row; work = work; waiting = waiting; owed = owed })

module _ {t row₀ work₀ row work row_after work_after : List ℕ} {waiting₀ waiting : ℕ} {turn : Result ℕ ClashMet} (checked : PassedCheck t) (settling : Settling t row₀ work₀ waiting₀ row work waiting) (some : 0 < waiting)
    (down : GoesDown t row work (waiting - 1) (waiting_left work (waiting - 1)) (waiting_right work (waiting - 1)) row_after work_after turn) where
  last_popped : (owed : List Pair) → Moved t (record { row = row₀; work = work₀; waiting = waiting₀; owed = owed })
      (record { row = row; work = work; waiting = waiting - 1; owed = child_pairs t (waiting_left work (waiting - 1)) (waiting_right work (waiting - 1)) 0 (degree t (waiting_left work (waiting - 1))) ++ owed })
  last_popped owed = moved_join (settling.moved owed) (popped checked (settling.moved []).state some owed)

  pub settling_on : {more : ℕ} → turn ≡ Ok more → Settling t row₀ work₀ waiting₀ row_after work_after more
  settling_on e = record { moved = λ owed. moved_join (last_popped owed) (waiting_moved (down owed) e) }

  -- each pair that goes down leaves less to do
  pub settling_less : {more : ℕ} → turn ≡ Ok more → 2 * classes (graph_of t) row_after + more < 2 * classes (graph_of t) row + waiting
  settling_less e = omega (arith, (waiting_moved (down []) e).less)

  pub settling_stops : {met : ClashMet} → turn ≡ Err met → (owed : List Pair) → Stopped t (record { row = row₀; work = work₀; waiting = waiting₀; owed = owed }) row_after work_after
  settling_stops e owed = stopped_after (last_popped owed) (clash_stops (down owed) e)

pub settling_ends : {t row₀ work₀ row work : List ℕ} {waiting₀ waiting : ℕ} → Settling t row₀ work₀ waiting₀ row work waiting → waiting ≤ 0
    → (owed : List Pair) → Settled t (record { row = row₀; work = work₀; waiting = waiting₀; owed = owed }) row work owed (Ok tt)
settling_ends {t} {row₀} {work₀} {row} {work} {waiting₀} {waiting} settling h owed =
    all_joined (subst (λ (k : ℕ). Moved t (record { row = row₀; work = work₀; waiting = waiting₀; owed = owed }) (record { row = row; work = work; waiting = k; owed = owed }))
    (let e : waiting ≡ 0 = omega arith in e) (settling.moved owed))
