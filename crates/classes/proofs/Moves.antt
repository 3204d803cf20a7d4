-- Steps one after the other. Assumes nothing.
use mathlib.Core.Path.{◌≡◌, refl, ◌∙◌, subst}
use mathlib.Core.List.{List}
use Prim.Native.Nat.{ℕ}
use native.Mathlib.Omega.{arith}
use Rattle.std.specs.Prelude.{true, false, Result, Ok, Err, is_err, IsErr}
use Rattle.graphs.specs.Partition.{Pair}
use Rattle.graphs.proofs.Classes.{never}
use Rattle.classes.specs.Steps.Meeting.{State, Config, RestKept, Moved, Stopped, Turned, went_on, clashed, Settled, all_joined, clash_met}
use Rattle.classes.specs.declared.meet.Clash.{Clash as ClashMet}

pub kept_none : {t : List ℕ} {c : Config} → RestKept t c c
kept_none = record { row_long = refl; work_long = refl; row_behind = refl; work_behind = refl }

pub kept_join : {t : List ℕ} {a b c : Config} → RestKept t a b → RestKept t b c → RestKept t a c
kept_join k l =
    record {
      row_long = l.row_long ∙ k.row_long;
      work_long = l.work_long ∙ k.work_long;
      row_behind = l.row_behind ∙ k.row_behind;
      work_behind = l.work_behind ∙ k.work_behind;
    }

pub moved_none : {t : List ℕ} {c : Config} → State t c.row c.work c.waiting → Moved t c c
moved_none s = record { state = s; within = λ pairs i. i; complete = λ done i. i; less = omega arith; kept = kept_none }

pub moved_join : {t : List ℕ} {a b c : Config} → Moved t a b → Moved t b c → Moved t a c
moved_join m n =
    record {
      state = n.state;
      within = λ pairs i. n.within pairs (m.within pairs i);
      complete = λ done i. n.complete done (m.complete done i);
      less = omega (arith, m.less, n.less);
      kept = kept_join m.kept n.kept;
    }

pub stopped_after : {t : List ℕ} {a b : Config} {row work : List ℕ} → Moved t a b → Stopped t b row work → Stopped t a row work
stopped_after m s = record { clash = λ pairs i. s.clash pairs (m.within pairs i); kept = kept_join m.kept s.kept }

pub turned_after : {t : List ℕ} {a b : Config} {row work : List ℕ} {owed : List Pair} {turn : Result ℕ ClashMet} → Moved t a b → Turned t b row work owed turn → Turned t a row work owed turn
turned_after m (went_on n) = went_on (moved_join m n)
turned_after m (clashed s) = clashed (stopped_after m s)

pub settled_after : {t : List ℕ} {a b : Config} {row work : List ℕ} {owed : List Pair} {answer : Result (Unit {0}) ClashMet} → Moved t a b → Settled t b row work owed answer → Settled t a row work owed answer
settled_after m (all_joined n) = all_joined (moved_join m n)
settled_after m (clash_met s) = clash_met (stopped_after m s)

-- ---- what a step came to, where that is known

pub waiting_moved : {t : List ℕ} {a : Config} {row work : List ℕ} {owed : List Pair} {turn : Result ℕ ClashMet} {waiting : ℕ} → Turned t a row work owed turn → turn ≡ Ok waiting
    → Moved t a (record { row = row; work = work; waiting = waiting; owed = owed })
waiting_moved {t} {a} {row} {work} {owed} {waiting} (went_on {waiting = w} n) e =
    subst (λ (k : ℕ). Moved t a (record { row = row; work = work; waiting = k; owed = owed })) (let p : w ≡ waiting = cc in p) n
waiting_moved (clashed s) e = never (cc)

pub clash_stops : {t : List ℕ} {a : Config} {row work : List ℕ} {owed : List Pair} {turn : Result ℕ ClashMet} {met : ClashMet} → Turned t a row work owed turn → turn ≡ Err met → Stopped t a row work
clash_stops (went_on n) e = never (cc)
clash_stops (clashed s) e = s

pub err_turned : {t : List ℕ} {a : Config} {row work : List ℕ} {owed : List Pair} (turn : Result ℕ ClashMet) → IsErr turn → Stopped t a row work → Turned t a row work owed turn
err_turned (Ok waiting) e s = never (cc)
err_turned (Err met) e s = clashed s

pub err_settled : {t : List ℕ} {a : Config} {row work : List ℕ} {owed : List Pair} (answer : Result (Unit {0}) ClashMet) → IsErr answer → Stopped t a row work → Settled t a row work owed answer
err_settled (Ok done) e s = never (cc)
err_settled (Err met) e s = clash_met s

pub all_done : {t : List ℕ} {a : Config} {row work : List ℕ} {owed : List Pair} {answer : Result (Unit {0}) ClashMet} → Settled t a row work owed answer → is_err answer ≡ false
    → Moved t a (record { row = row; work = work; waiting = 0; owed = owed })
all_done (all_joined n) e = n
all_done (clash_met s) e = never (cc)

pub clash_done : {t : List ℕ} {a : Config} {row work : List ℕ} {owed : List Pair} {answer : Result (Unit {0}) ClashMet} → Settled t a row work owed answer → is_err answer ≡ true → Stopped t a row work
clash_done (all_joined n) e = never (cc)
clash_done (clash_met s) e = s
