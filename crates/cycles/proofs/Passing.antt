-- Edges passed over: the marks of a search are enough to do it (`sure`), what the tests of a vertex say
-- (`no_function_no_edges`), no edges (`over_none`), edges passed over twice in a row (`over_join`) and one more (`over_next`), and what is found behind them
-- (`passed`). Assumes nothing.
use mathlib.Core.Path.{◌≡◌, sym, ap, ◌∙◌, subst}
use mathlib.Core.Bool.{Bool, true, false, not}
use mathlib.Core.List.{List}
use mathlib.Core.Logic.{⊎_elim}
use Prim.Native.Nat.{ℕ, ◌+◌, ◌≤◌, ◌<◌}
use native.Mathlib.Decide.{dec_lt}
use native.Mathlib.Omega.{arith}
use borrow.Author.Tests.{not-true}
use Rattle.std.specs.Prelude.{Option, None, Some, MatchOption}
use Rattle.words.specs.Word.{same_kind}
use Rattle.words.specs.declared.kind.Kind.TheVariants.{Function}
use Rattle.table.specs.Table.{choose, kind_at, content_at, degree}
use Rattle.cycles.specs.Digraph.{Digraph, digraph_of, Searchable}
use Rattle.cycles.specs.Steps.Marks.{mark, Safe, Search, Open, Sure, Over, Passed}
use Rattle.cycles.proofs.Moves.{finished_safe}
use Rattle.cycles.proofs.Answers.{no_edges_safe}

pub sure : {D : Digraph} {w : List ℕ} {depth : ℕ} → Search D w depth → Sure D w
sure S = record { room = omega (arith, S.room); finished = finished_safe S }

-- what is no function has no edges
pub no_function_no_edges : (t : List ℕ) (x : ℕ) {function : Bool} → function ≡ same_kind (kind_at t x) Function → not function ≡ true → degree t x ≡ 0
unfolding degree choose
no_function_no_edges t x {function} read none = ap (λ (b : Bool). choose b (content_at t (x + 1)) 0) (sym read ∙ not-true function none)

pub not_open_safe : {D : Digraph} {w : List ℕ} → Sure D w → (y : ℕ) → y < D.size → Open (D.count y) (mark w y) false → Safe D y
not_open_safe {D} known y inside = ⊎_elim (no_edges_safe D y) (known.finished y inside)

pub over_none : {D : Digraph} {x i : ℕ} → i ≤ D.count x → Over D x i i
over_none within = record { from = omega arith; within = within; ends = λ k h l. absurd (omega arith) }

pub over_join : {D : Digraph} {x i j k : ℕ} → Over D x i j → Over D x j k → Over D x i k
over_join {D} {x} {i} {j} {k} p q =
    record { from = omega (arith, p.from, q.from); within = q.within; ends = λ z h l. go z h l (dec_lt z j) }
  where
    go : (z : ℕ) → i ≤ z → z < k → Dec (z < j) → Safe D (D.next x z)
    go z h l (yes m) = p.ends z h m
    go z h l (no m) = q.ends z (omega arith) l

-- one edge more, by what was read of it: the vertex y to which edge j leads, which is not open
module _ {t row w : List ℕ} {x i j y : ℕ} {answer : Bool} (ready : Searchable t row) (known : Sure (digraph_of t row) w) (over : Over (digraph_of t row) x i j)
    (more : j < degree t x) (leads : y ≡ (digraph_of t row).next x j) (told : Open (degree t y) (mark w y) answer) where
  pub over_next : answer ≡ false → Over (digraph_of t row) x i (j + 1)
  over_next e =
      let safe : Safe (digraph_of t row) ((digraph_of t row).next x j) =
      subst (Safe (digraph_of t row)) leads (not_open_safe known y (omega (arith, ready.name_inside x j more)) (subst (Open (degree t y) (mark w y)) e told)) in
      over_join over (record { from = omega arith; within = omega arith; ends = λ k h l. subst (λ (z : ℕ). Safe (digraph_of t row) ((digraph_of t row).next x z)) (let same : j ≡ k = omega arith in same) safe })

-- whether the vertex to which an edge leads is open, from what was read of it
pub open_there :
    (t row w : List ℕ) (x k : ℕ) (answer : Bool) {y : ℕ} {b : Bool} →
    y ≡ (digraph_of t row).next x k →
    Open (degree t y) (mark w y) b →
    b ≡ answer →
    Open (degree t ((digraph_of t row).next x k)) (mark w ((digraph_of t row).next x k)) answer
open_there t row w x k answer leads told e = subst (λ (z : ℕ). Open (degree t z) (mark w z) answer) leads (subst (Open (degree t _) (mark w _)) e told)

-- what a search for the first edge that leads to an open vertex finds
module _ {t row w : List ℕ} (ready : Searchable t row) (known : Sure (digraph_of t row) w) (x : ℕ) {i count : ℕ} (counted : count ≡ degree t x) (within : i ≤ degree t x) where
  abbrev D : Digraph
  D = digraph_of t row

  safe_there : (k : ℕ) → k < degree t x → Open (degree t (D.next x k)) (mark w (D.next x k)) false → Safe D (D.next x k)
  safe_there k more = not_open_safe known (D.next x k) (ready.name_inside x k more)

  pub passed :
      (r : Option ℕ) →
      MatchOption r ((k : ℕ) → i ≤ k → k < count → Open (degree t (D.next x k)) (mark w (D.next x k)) false)
      (λ j. (i ≤ j) × (j < count) × Open (degree t (D.next x j)) (mark w (D.next x j)) true × ((k : ℕ) → i ≤ k → k < j → Open (degree t (D.next x k)) (mark w (D.next x k)) false)) →
      Passed D w x i r
  passed None ends = record { from = within; within = omega arith; ends = λ k h l. safe_there k l (ends k h (omega arith)) }
  passed (Some j) (from, more, leads_on, ends) =
      record {
        over = record { from = from; within = omega arith; ends = λ k h l. safe_there k (omega arith) (ends k h l) };
        more = omega arith;
        leads_on = leads_on;
      }
