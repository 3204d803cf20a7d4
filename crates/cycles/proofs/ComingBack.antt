-- A turn of the search with no edge left to follow (`Leaving`): the end of the path is finished, and the search comes back to the
-- vertex before it (`coming_back`), or to none (`coming_out`). Assumes nothing.
use mathlib.Core.Path.{◌≡◌, sym, ap, ◌∙◌, subst}
use mathlib.Core.List.{List}
use Prim.Native.Nat.{ℕ, ◌+◌, ◌-◌, ◌≤◌, ◌<◌}
use native.Mathlib.Omega.{arith}
use lib.ListN.{set}
use lib.Seq.{get_or-set_same, get_or-set_other}
use Rattle.cycles.specs.Digraph.{Digraph}
use Rattle.cycles.specs.Steps.Marks.{mark, finished_mark, on_path, Safe, Follows, Over}
use Rattle.cycles.proofs.Moves.{SearchMoved, finish, finished_safe}
use Rattle.cycles.proofs.Turns.{SearchTurned, Turning, end_inside}

-- All edges of x are passed over, and w' has x as finished.
pub record Leaving (D : Digraph) (w w' : List ℕ) (depth x : ℕ) : Type 0 where
  pub turning : Turning D w depth x (D.count x)
  pub stored : w' ≡ set w x finished_mark

module _ {D : Digraph} {w w' : List ℕ} {depth x : ℕ} (L : Leaving D w w' depth x) where
  T : Turning D w depth x (D.count x)
  T = L.turning

  left_path : SearchMoved D w w' (depth - 1)
  left_path =
      subst (λ (v : List ℕ). SearchMoved D w v (depth - 1)) (sym L.stored)
      (finish T.search x T.some T.end (λ k h old. T.over.ends k (omega arith) h))

  pub coming_out : (x' i' : ℕ) → depth - 1 ≤ 0 → SearchTurned D w w' (depth - 1) x' i'
  coming_out x' i' empty =
      record {
        going = record { search = left_path.search; end = λ some. absurd (omega arith); over = λ some. absurd (omega arith) };
        grown = left_path.grown;
        less = left_path.less;
      }

  module _ {x' : ℕ} (some : 0 < depth - 1) (end : x' ≡ on_path D w' (depth - 1 - 1)) where
    pub back_inside : x' < D.size
    back_inside = omega (arith, left_path.search.inside (depth - 1 - 1) (omega arith))

    pub coming_back : {i' : ℕ} → i' ≡ mark w' x' → SearchTurned D w w' (depth - 1) x' i'
    coming_back {i'} from =
        record {
          going = record { search = left_path.search; end = λ some. sym end; over = λ some. over };
          grown = left_path.grown;
          less = left_path.less;
        }
      where
        x_inside : x < D.size
        x_inside = end_inside T.search T.some T.end

        -- x is finished
        x_safe : Safe D x
        x_safe =
            finished_safe left_path.search x x_inside
            (ap (λ (v : List ℕ). mark v x) L.stored ∙ get_or-set_same w x finished_mark 0 (omega (arith, x_inside, T.search.room)))

        -- the path is as it was
        before : x' ≡ on_path D w (depth - 1 - 1)
        before =
            end ∙ ap (λ (v : List ℕ). on_path D v (depth - 1 - 1)) L.stored
            ∙ get_or-set_other w x (D.size + (depth - 1 - 1)) finished_mark 0 (λ e. omega (arith, x_inside))

        last : on_path D w (depth - 1 - 1 + 1) ≡ x
        last = ap (on_path D w) (omega arith) ∙ T.end

        same_mark : mark w' x' ≡ mark w x'
        same_mark =
            ap (λ (v : List ℕ). mark v x') L.stored
            ∙ get_or-set_other w x x' finished_mark 0
            (λ e. T.search.distinct (depth - 1 - 1) (depth - 1) (omega arith) (omega arith) (sym before ∙ e ∙ sym T.end))

        follows : Follows D w x' x
        follows =
            subst (λ (z : ℕ). Follows D w z x) (sym before)
            (subst (λ (z : ℕ). Follows D w (on_path D w (depth - 1 - 1)) z) last (T.search.linked (depth - 1 - 1) (omega arith)))

        begun : 0 < mark w x'
        begun = omega (arith, T.search.begun (depth - 1 - 1) (omega arith), ap (mark w) before)

        -- the edge that was followed is passed over
        over : Over D x' (mark w' x' - 1) i'
        over =
            record {
              from = omega arith;
              within = omega (arith, same_mark, begun, follows.more);
              ends = λ k h l. subst (Safe D) (sym (ap (D.next x') (omega (arith, same_mark)) ∙ follows.leads)) x_safe;
            }
