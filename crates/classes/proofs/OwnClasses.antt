-- Each node its own class: what the row `apart` has, and that it is the class table of no pairs. Assumes nothing.
use mathlib.Core.Path.{◌≡◌, sym, ap, ◌∙◌, subst}
use mathlib.Core.Bool.{Bool, cond}
use mathlib.Core.List.Memᴰ
use mathlib.Core.List.{List, [], ◌++◌}
use Prim.Native.Nat.{ℕ, ◌+◌, ◌<◌}
use native.Mathlib.Omega.{arith}
use lib.ListN.{length, get_or, set, take}
use lib.Seq.{take_at}
use Rattle.rows.proofs.Laws.{Built, built_more}
use Rattle.graphs.specs.Graph.{Symbols, Graph, WellFormed}
use Rattle.graphs.specs.Partition.{Sides, Same, ClassTable, is_node, apart, key}
use Rattle.graphs.proofs.Classes.{same_labels}
use Rattle.graphs.proofs.Replay.{apart_length, apart_entry, apart_sound, Sound}
use Rattle.graphs.proofs.Certificates.{first_names}
use Rattle.table.specs.Table.{kind_at, node_kind, graph_of}
use Rattle.table.proofs.Children.{node_test}

-- ---- the row

pub apart_long : (t : List ℕ) → length (apart (graph_of t)) ≡ length t
unfolding apart
apart_long t = apart_length (graph_of t) 0 (length t)

apart_at : (t : List ℕ) (x : ℕ) → x < length t → get_or (apart (graph_of t)) x 0 ≡ cond (node_kind (kind_at t x)) x 0
unfolding apart
apart_at t x h =
    apart_entry (graph_of t) 0 (length t) x h
    ∙ ap (λ (y : ℕ). cond (is_node ((graph_of t).head y)) y 0) (let e : 0 + x ≡ x = omega arith in e)
    ∙ ap (λ (b : Bool). cond b x 0) (node_test t x)

-- a turn of the loop that makes it
pub apart_more : (t : List ℕ) {before row after : List ℕ} {x v : ℕ} {b : Bool} → Built (apart (graph_of t)) before (length t) x row → x < length t
    → b ≡ node_kind (kind_at t x) → v ≡ cond b x 0 → after ≡ set row x v → Built (apart (graph_of t)) before (length t) (x + 1) after
apart_more t {before} {row} {after} {x} {v} {b} built h e f g =
    subst (Built (apart (graph_of t)) before (length t) (x + 1)) (sym g)
    (built_more 0 built h (f ∙ ap (λ (c : Bool). cond c x 0) e ∙ sym (apart_at t x h)))

-- ---- no pairs

module _ {S : Symbols} (G : Graph S) where
  none_sides : Sides G []
  none_sides p m = absurd (Memᴰ.not-nil m)

  none_same : {x y : ℕ} → Same G [] x y → x ≡ y
  none_same =
      same_labels {G = G} (λ (x : ℕ). x) (λ p m. absurd (Memᴰ.not-nil m))
      (λ x y s xs ys e ex ey i hx hy.
      let heads : G.head x ≡ G.head y = ap G.head e in
      let children : xs ≡ ys = cc in
      ap (λ (zs : List ℕ). get_or zs i 0) children)

  pub apart_class_table : WellFormed G → ClassTable G [] (apart G)
  apart_class_table wf =
      let sound : Sound G [] (apart G) = apart_sound G wf [] in
      record {
        long = sound.long;
        named = λ x n. first_names wf none_sides (sound.with_entry x n) (λ y s. omega (arith, sound.first x n, ap (key G) (none_same s)));
        empty = sound.empty;
      }

pub apart_front : (t row rest : List ℕ) → WellFormed (graph_of t) → row ≡ apart (graph_of t) ++ rest → ClassTable (graph_of t) [] (take (length t) row)
apart_front t row rest wf e =
    subst (ClassTable (graph_of t) []) (sym (ap (take (length t)) e ∙ take_at (apart (graph_of t)) rest (length t) (apart_long t)))
    (apart_class_table (graph_of t) wf)
