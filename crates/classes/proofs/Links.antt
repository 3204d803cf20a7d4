-- Links, and what shortening them keeps. A walk along links ends at a root, which is the only one that it leads to; where links
-- are shortened every node keeps its root. Assumes nothing.
use mathlib.Core.Path.{◌≡◌, refl, sym, ap, ◌∙◌, subst}
use mathlib.Core.Logic.{◌⊎◌, inl, inr}
use mathlib.Core.List.{List}
use Prim.Native.Nat.{ℕ, zero, suc, ◌<◌}
use native.Mathlib.Decide.{ℕ_discrete}
use native.Mathlib.Omega.{arith}
use lib.ListN.{length, set, length-set}
use lib.Seq.{get_or-set_same, get_or-set_other, drop-set-lt}
use Rattle.graphs.specs.Partition.{entry, key}
use Rattle.table.specs.Table.{graph_of}
use Rattle.classes.specs.Steps.Forest.{Up, here, up, Forest, Shorter}

-- ---- links

pub up_join : {row : List ℕ} {x y z : ℕ} → Up row x y → Up row y z → Up row x z
up_join here v = v
up_join (up u) v = up (up_join u v)

module _ {row : List ℕ} {r : ℕ} (own : entry row r ≡ r) where
  stops : {x y : ℕ} → x ≡ r → Up row x y → y ≡ r
  stops e here = e
  stops e (up u) = stops (ap (entry row) e ∙ own) u

  -- from a root there is no way on
  pub root_stops : {y : ℕ} → Up row r y → y ≡ r
  root_stops u = stops refl u

  next : {x : ℕ} → Up row x r → Up row (entry row x) r
  next u = go u refl
    where
      go : {x y : ℕ} → Up row x y → y ≡ r → Up row (entry row x) r
      go (here {x}) e = subst (λ (z : ℕ). Up row z r) (sym (ap (entry row) e ∙ own)) here
      go (up u) e = subst (Up row _) e u

-- two roots that are reached from one node are one
pub root_only : {row : List ℕ} {x r q : ℕ} → entry row r ≡ r → entry row q ≡ q → Up row x r → Up row x q → r ≡ q
root_only own_r own_q here v = sym (root_stops own_r v)
root_only own_r own_q (up u) v = root_only own_r own_q u (next own_q v)

module _ {t row : List ℕ} (forest : Forest t row) where
  pub up_inside : {x y : ℕ} → x < length t → Up row x y → y < length t
  up_inside h here = h
  up_inside h (up {x} u) = up_inside (forest.inside x h) u

  pub up_key : {x y : ℕ} → x < length t → Up row x y → (y ≡ x) ⊎ (key (graph_of t) y < key (graph_of t) x)
  up_key h here = inl refl
  up_key h (up {x} {y} u) = go (up_key (forest.inside x h) u) (forest.falls x h)
    where
      go : (y ≡ entry row x) ⊎ (key (graph_of t) y < key (graph_of t) (entry row x)) → (entry row x ≡ x) ⊎ (key (graph_of t) (entry row x) < key (graph_of t) x)
          → (y ≡ x) ⊎ (key (graph_of t) y < key (graph_of t) x)
      go (inl e) (inl f) = inl (e ∙ f)
      go (inl e) (inr l) = inr (omega (arith, ap (key (graph_of t)) e))
      go (inr k) (inl f) = inr (omega (arith, ap (key (graph_of t)) f))
      go (inr k) (inr l) = inr (omega arith)

  -- links do not lead back to where they start, but from a root to itself
  pub up_back : {x : ℕ} → x < length t → Up row (entry row x) x → entry row x ≡ x
  up_back {x} h u = go (up_key (forest.inside x h) u) (forest.falls x h)
    where
      go : (x ≡ entry row x) ⊎ (key (graph_of t) x < key (graph_of t) (entry row x)) → (entry row x ≡ x) ⊎ (key (graph_of t) (entry row x) < key (graph_of t) x)
          → entry row x ≡ x
      go a (inl f) = f
      go (inl e) (inr l) = sym e
      go (inr k) (inr l) = absurd (omega arith)

  walk : (fuel x : ℕ) → key (graph_of t) x < fuel → x < length t → (r : ℕ) × Up row x r × (entry row r ≡ r) × (r < length t)
  walk zero x k h = absurd (omega arith)
  walk (suc fuel) x k h = go (forest.falls x h) (λ l. walk fuel (entry row x) (omega arith) (forest.inside x h))
    where
      go : (entry row x ≡ x) ⊎ (key (graph_of t) (entry row x) < key (graph_of t) x)
          → (key (graph_of t) (entry row x) < key (graph_of t) x → (r : ℕ) × Up row (entry row x) r × (entry row r ≡ r) × (r < length t))
          → (r : ℕ) × Up row x r × (entry row r ≡ r) × (r < length t)
      go (inl e) rest = (x, here, e, h)
      go (inr l) rest = let w = rest l in (w.0, up w.1, w.2, w.3)

  -- every walk ends
  pub root_exists : (x : ℕ) → x < length t → (r : ℕ) × Up row x r × (entry row r ≡ r) × (r < length t)
  root_exists x h = walk (suc (key (graph_of t) x)) x (omega arith) h

-- ---- shorter links

pub shorter_none : {t row : List ℕ} → Shorter t row row
shorter_none = record { long = refl; reached = λ x h. up here; own = λ x h e. e; behind = refl }

-- one link is set to where its links led
pub set_up : {t row : List ℕ} {x y : ℕ} → Forest t row → x < length t → Up row x y → (y ≡ x → entry row x ≡ x) → Shorter t row (set row x y)
set_up {t} {row} {x} {y} forest h u root =
    record {
      long = length-set row x y;
      reached = λ z i. reached z (ℕ_discrete z x);
      own = λ z i. own z (ℕ_discrete z x);
      behind = drop-set-lt (length t) row x y h;
    }
  where
    same : entry (set row x y) x ≡ y
    same = get_or-set_same row x y 0 (omega (arith, forest.long))

    reached : (z : ℕ) → Dec (z ≡ x) → Up row z (entry (set row x y) z)
    reached z (yes e) = subst (λ (w : ℕ). Up row w (entry (set row x y) w)) (sym e) (subst (Up row x) (sym same) u)
    reached z (no d) = subst (Up row z) (sym (get_or-set_other row x z y 0 d)) (up here)

    own : (z : ℕ) → Dec (z ≡ x) → entry (set row x y) z ≡ z → entry row z ≡ z
    own z (yes e) f = subst (λ (w : ℕ). entry row w ≡ w) (sym e) (root (sym same ∙ subst (λ (w : ℕ). entry (set row x y) w ≡ w) e f))
    own z (no d) f = sym (get_or-set_other row x z y 0 d) ∙ f

pub halved : {t row : List ℕ} {x : ℕ} → Forest t row → x < length t → Shorter t row (set row x (entry row (entry row x)))
halved {t} {row} {x} forest h =
    set_up forest h (up (up here)) (λ e. up_back forest h (subst (Up row (entry row x)) e (up here)))

pub set_root : {t row : List ℕ} {x r : ℕ} → Forest t row → x < length t → Up row x r → entry row r ≡ r → Shorter t row (set row x r)
set_root {t} {row} {x} {r} forest h u own = set_up forest h u (λ e. subst (λ (w : ℕ). entry row w ≡ w) e own)

module _ {t row after : List ℕ} (forest : Forest t row) (shorter : Shorter t row after) where
  -- what is reached now was reached before
  pub shorter_up : {x y : ℕ} → x < length t → Up after x y → Up row x y
  shorter_up h here = here
  shorter_up h (up {x} u) = up_join (shorter.reached x h) (shorter_up (up_inside forest h (shorter.reached x h)) u)

  pub shorter_forest : Forest t after
  shorter_forest =
      record {
        long = omega (arith, forest.long, shorter.long);
        inside = λ x h. up_inside forest h (shorter.reached x h);
        falls = λ x h. up_key forest h (shorter.reached x h);
      }

  pub shorter_own : {r : ℕ} → r < length t → entry row r ≡ r → entry after r ≡ r
  shorter_own {r} h own = root_stops own (shorter.reached r h)

  -- each node keeps its root
  pub shorter_root : {x r : ℕ} → x < length t → entry row r ≡ r → Up row x r → Up after x r × (entry after r ≡ r)
  shorter_root {x} {r} h own u =
      let w : (q : ℕ) × Up after x q × (entry after q ≡ q) × (q < length t) = root_exists shorter_forest x h in
      let same : w.0 ≡ r = root_only (shorter.own w.0 w.3 w.2) own (shorter_up h w.1) u in
      (subst (Up after x) same w.1, shorter_own (up_inside forest h u) own)

pub shorter_join : {t row mid after : List ℕ} → Forest t row → Shorter t row mid → Shorter t mid after → Shorter t row after
shorter_join forest one two =
    record {
      long = two.long ∙ one.long;
      reached = λ x h. shorter_up forest one h (two.reached x h);
      own = λ x h e. one.own x h (two.own x h e);
      behind = two.behind ∙ one.behind;
    }
