-- A turn of the search that must follow an edge (`Facing`): it meets a vertex of the path (`closing`) or goes down to a new one
-- (`going_down`). Assumes nothing.
use mathlib.Core.Path.{◌≡◌, refl, sym, ap, ◌∙◌, subst}
use mathlib.Core.List.{List}
use Prim.Native.Nat.{ℕ, ◌+◌, ◌-◌, ◌<◌}
use native.Mathlib.Omega.{arith}
use lib.ListN.{set}
use lib.Seq.{get_or-set_same, get_or-set_other}
use Rattle.cycles.specs.Digraph.{Digraph}
use Rattle.cycles.specs.Steps.Marks.{mark, finished_mark, on_path, Follows, FoundCycle}
use Rattle.cycles.proofs.Stores.{grown_join}
use Rattle.cycles.proofs.Moves.{Advanced, advance, path_room}
use Rattle.cycles.proofs.Answers.{closed}
use Rattle.cycles.proofs.Turns.{SearchTurned, Turning, started_at, end_inside, end_begun}

-- The edge of x at place j leads to y, which is open: it must be followed.
pub record Facing (D : Digraph) (w : List ℕ) (depth x j y : ℕ) : Type 0 where
  pub turning : Turning D w depth x j
  pub more : j < D.count x
  pub leads : D.next x j ≡ y
  pub inside : y < D.size
  pub unfinished : mark w y ≡ finished_mark → ⊥

module _ {D : Digraph} {w : List ℕ} {depth x j y : ℕ} (F : Facing D w depth x j y) where
  T : Turning D w depth x j
  T = F.turning

  pub room_there : mark w y ≡ 0 → depth < D.size
  room_there fresh = path_room T.search y F.inside fresh

  pub closing : (mark w y ≡ 0 → ⊥) → FoundCycle D w w
  closing begun =
      record {
        cycle = closed T.search x y T.some T.end (j, F.more, F.leads) F.inside begun F.unfinished;
        behind = refl;
      }

  pub going_down : {w'' : List ℕ} → mark w y ≡ 0 → w'' ≡ set (set (set w x (j + 1)) y 1) (D.size + depth) y → SearchTurned D w w'' (depth + 1) y 0
  going_down {w''} fresh stored =
      subst (λ (v : List ℕ). SearchTurned D w v (depth + 1) y 0) (sym stored)
      (record { going = M.going; grown = grown_join A.grown M.grown; less = omega (arith, A.at_most, M.less) })
    where
      w' : List ℕ
      w' = set w x (j + 1)

      x_inside : x < D.size
      x_inside = end_inside T.search T.some T.end

      A : Advanced D w w' depth
      A =
          advance T.search x j T.some T.end (omega (arith, T.over.from)) F.more
          (λ k old h. T.over.ends k (omega arith) h)

      -- the mark of x does not touch that of a new vertex
      still_new : mark w' y ≡ 0
      still_new =
          get_or-set_other w x y (j + 1) 0 (λ e. omega (arith, end_begun T.search T.some T.end, ap (mark w) e)) ∙ fresh

      end : on_path D w' (depth - 1) ≡ x
      end = get_or-set_other w x (D.size + (depth - 1)) (j + 1) 0 (λ e. omega (arith, x_inside)) ∙ T.end

      raised : mark w' x ≡ j + 1
      raised = get_or-set_same w x (j + 1) 0 (omega (arith, x_inside, T.search.room))

      follows : Follows D w' (on_path D w' (depth - 1)) y
      follows =
          subst (λ (z : ℕ). Follows D w' z y) (sym end)
          (record { more = omega (arith, raised, F.more); leads = ap (D.next x) (omega (arith, raised)) ∙ F.leads })

      M : SearchTurned D w' (set (set w' y 1) (D.size + depth) y) (depth + 1) y 0
      M = started_at A.search y F.inside still_new (λ some. follows)
