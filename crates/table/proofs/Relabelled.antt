-- Tables that differ in the labels of their variables alone have one graph: `relabelled_graph`. Assumes nothing.
use mathlib.Core.Path.{◌≡◌, refl, ap, ◌∙◌}
use mathlib.Core.Bool.{Bool, true, false}
use mathlib.Core.List.{List, []}
use Prim.Native.Nat.{ℕ, zero, suc, ◌+◌}
use Rattle.words.specs.Head.{symbol_with}
use Rattle.words.specs.Word.{same_kind}
use Rattle.words.specs.declared.kind.Kind.{Kind}
use Rattle.words.specs.declared.kind.Kind.TheVariants.{Variable, Constant, Function, Pointer, Count, NoWord}
use Rattle.words.proofs.WordLaws.{same_kind_exactly}
use Rattle.words.proofs.KindLaws.{not_both}
use Rattle.graphs.specs.Graph.{symbol}
use Rattle.table.specs.Table.{kind_at, content_at, choose, named, named_from, children_at, head_of, graph_of}
use Rattle.table.specs.Readable.{Readable}
use Rattle.table.specs.Relabelled.{Relabelled}
use Rattle.table.proofs.Readable.{block_count}

module _ {t u : List ℕ} (c : Readable t) (s : Relabelled t u) where
  named_same : (a : ℕ) → named t a ≡ named u a
  unfolding named choose
  named_same a = go (same_kind (kind_at t a) Pointer) refl ∙ ap (λ (k : Kind). choose (same_kind k Pointer) (content_at u a) a) (s.same_kinds a)
    where
      go : (b : Bool) → same_kind (kind_at t a) Pointer ≡ b → choose b (content_at t a) a ≡ choose b (content_at u a) a
      go true e = s.same_contents a (not_both ((same_kind_exactly (kind_at t a) Pointer).0 e) refl)
      go false e = refl

  children_same : (a k : ℕ) → named_from t a k ≡ named_from u a k
  unfolding named_from
  children_same a zero = refl
  children_same a (suc k) = cc (named_same a, children_same (a + 1) k)

  -- Only a variable's content may differ, and the head of a variable does not look at it.
  head_same : (x : ℕ) (k : Kind) → kind_at t x ≡ k → head_of k t x ≡ head_of k u x
  unfolding head_of
  head_same x Variable e = refl
  head_same x Constant e = λ i. symbol (symbol_with (record { 0 = s.same_contents x (not_both e refl) i }) 0) []
  head_same x Function e =
      let label : content_at t x ≡ content_at u x = s.same_contents x (not_both e refl) in
      let count : content_at t (x + 1) ≡ content_at u (x + 1) = s.same_contents (x + 1) (not_both (block_count c x e) refl) in
      let children : children_at t x ≡ children_at u x = ap (named_from t (x + 2)) count ∙ children_same (x + 2) (content_at u (x + 1)) in
      λ i. symbol (symbol_with (record { 0 = label i }) (count i)) (children i)
  head_same x Pointer e = refl
  head_same x Count e = refl
  head_same x NoWord e = refl

  pub relabelled_graph : graph_of t ≡ graph_of u
  relabelled_graph i = record {
    size = s.same_length i;
    head = λ x. (head_same x (kind_at t x) refl ∙ ap (λ (k : Kind). head_of k u x) (s.same_kinds x)) i;
  }
