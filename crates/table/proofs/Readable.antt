-- A table that can be read: its words, layout and pointers have no fault.
--
-- In order: word 0 and the words behind it; the block of a function (`block_arguments`, `block_count`), which ends
-- inside the table (`block_inside`), with each of its arguments (`argument_inside`); what an argument word names is a node
-- (`child_is_node`) and so inside too (`child_inside`); counts are small (`degree_small`). Assumes nothing.
use mathlib.Core.Path.{◌≡◌, refl, sym, ap, ◌∙◌}
use mathlib.Core.Bool.{Bool, true, false, not, ◌&&◌, ◌||◌}
use mathlib.Core.List.{List, [], ◌∷◌}
use Prim.Native.Nat.{ℕ, zero, suc, ◌+◌, ◌≤◌, ◌<◌}
use native.Mathlib.Omega.{arith}
use borrow.Author.Tests.{eqb-true, eqb-false, leb-true, leb-false}
use lib.Dec.{eqb, leb, ltb}
use lib.ListN.{length, drop}
use lib.Seq.{get_or-drop}
use Rattle.words.specs.Limits.{most_arguments}
use Rattle.words.specs.Word.{same_kind, argument_kinds, is_one_of, kind_of, content_of}
use Rattle.words.specs.declared.kind.Kind.{Kind}
use Rattle.words.specs.declared.kind.Kind.TheVariants.{Function, Pointer, Count, NoWord}
use Rattle.words.proofs.Tests.{false_exactly, or_false}
use Rattle.words.proofs.WordLaws.{same_kind_exactly}
use Rattle.words.proofs.KindLaws.{not_both, one_of, every_kind_lem}
use Rattle.graphs.proofs.Classes.{never}
use Rattle.table.specs.Table.{word_at, kind_at, content_at, node_kind, choose, named, degree, child_of}
use Rattle.table.specs.Layout.{item}
use Rattle.table.specs.Faults.{bad_kind, bad_word, bad_target}
use Rattle.table.specs.Readable.{Readable}
use Rattle.table.proofs.Leaves.{past_end}
use Rattle.table.proofs.Blocks.{Arguments, CountAndArguments, Blocks, whole_begins}
use Rattle.table.proofs.Children.{degree_function}

fails : (test : Bool) → (test ≡ true → ⊥) → test ≡ false
fails test = (false_exactly test (λ e. e, λ e. e)).1

pub inside_kind : (t : List ℕ) (x : ℕ) (test : Kind → Bool) → test NoWord ≡ false → test (kind_at t x) ≡ true → x < length t
inside_kind t x test fails e = go (leb (length t) x) refl
  where
    go : (b : Bool) → leb (length t) x ≡ b → x < length t
    go false q = leb-false (length t) x q
    go true q = let k : kind_at t x ≡ NoWord = past_end t x (leb-true (length t) x q) in let f : test (kind_at t x) ≡ false = ap test k ∙ fails in never (cc)

module _ {t : List ℕ} (c : Readable t) where
  pub word_0 : word_at t 0 ≡ 0
  unfolding bad_word
  word_0 = go (eqb (word_at t 0) 0) refl
    where
      go : (b : Bool) → eqb (word_at t 0) 0 ≡ b → word_at t 0 ≡ 0
      go true q = eqb-true (word_at t 0) 0 q
      go false q = absurd (c.words 0 c.some_word (ap not q))

  pub kind_0 : kind_at t 0 ≡ NoWord
  unfolding kind_of
  kind_0 = ap kind_of word_0

  -- what stands behind word 0
  blocks : Blocks (drop 1 t)
  blocks = (whole_begins (drop 1 t) item 1 c.whole).1

  behind : (x : ℕ) → word_at (drop 1 t) x ≡ word_at t (x + 1)
  behind x = get_or-drop 1 t x 0 ∙ ap (word_at t) (let e : 1 + x ≡ x + 1 = omega arith in e)

  drop-length : length (drop 1 t) + 1 ≡ length t
  drop-length = go t c.some_word
    where
      go : (r : List ℕ) → 0 < length r → length (drop 1 r) + 1 ≡ length r
      go [] h = absurd (omega arith)
      go (w ∷ r) h = omega arith

  -- the block of a function
  pub block_arguments : (x : ℕ) → kind_at t x ≡ Function → Arguments t (x + 2) (content_at t (x + 1))
  block_arguments zero f = absurd (not_both kind_0 refl f)
  block_arguments (suc x) f =
      let e : word_at (drop 1 t) x ≡ word_at t (suc x) = behind x ∙ ap (word_at t) (let q : x + 1 ≡ suc x = omega arith in q) in
      let b : CountAndArguments (drop 1 t) (x + 1) = blocks x (ap kind_of e ∙ f) in
      let n : word_at (drop 1 t) (x + 1) ≡ word_at t (suc x + 1) = behind (x + 1) ∙ ap (word_at t) (let q : x + 1 + 1 ≡ suc x + 1 = omega arith in q) in
      let k : content_at (drop 1 t) (x + 1) ≡ content_at t (suc x + 1) = ap content_of n in
      record {
        fit = omega (arith, b.arguments_follow.fit, drop-length, k);
        stand = λ i h.
            ap (λ (w : ℕ). is_one_of argument_kinds (kind_of w))
            (sym (behind (x + 1 + 1 + i) ∙ ap (word_at t) (let q : x + 1 + 1 + i + 1 ≡ suc x + 2 + i = omega arith in q)))
            ∙ b.arguments_follow.stand i (omega (arith, k));
      }

  pub block_count : (x : ℕ) → kind_at t x ≡ Function → kind_at t (x + 1) ≡ Count
  block_count zero f = absurd (not_both kind_0 refl f)
  block_count (suc x) f =
      let e : word_at (drop 1 t) x ≡ word_at t (suc x) = behind x ∙ ap (word_at t) (let q : x + 1 ≡ suc x = omega arith in q) in
      let n : word_at (drop 1 t) (x + 1) ≡ word_at t (suc x + 1) = behind (x + 1) ∙ ap (word_at t) (let q : x + 1 + 1 ≡ suc x + 1 = omega arith in q) in
      ap kind_of (sym n) ∙ (blocks x (ap kind_of e ∙ f)).counts

  pub block_inside : (x : ℕ) → kind_at t x ≡ Function → x + 1 + content_at t (x + 1) < length t
  block_inside x f = omega (arith, (block_arguments x f).fit)

  -- a function that has a child at place i has its argument word there
  pub argument_inside : (x i : ℕ) → i < degree t x → x + 2 + i < length t
  argument_inside x i h = let f = degree_function t x i h in omega (arith, block_inside x f.0, f.1)

  -- what is above 0 and inside the table is a word
  is_word : (a : ℕ) → 0 < a → a < length t → kind_at t a ≡ NoWord → ⊥
  unfolding bad_word bad_kind
  is_word zero h k e = absurd (omega arith)
  is_word (suc a) h k e = c.words (suc a) k (ap (λ (q : Kind). bad_kind q (content_at t (suc a))) e)

  pointer_node : (a : ℕ) → a < length t → kind_at t a ≡ Pointer → node_kind (kind_at t (content_at t a)) ≡ true
  unfolding bad_target
  pointer_node a h e =
      let b = content_at t a in
      let other : Kind → Bool = is_one_of (Pointer ∷ Count ∷ []) in
      let one = or_false (eqb b 0) (leb (length t) b || other (kind_at t b)) (fails _ (λ q. c.pointers a h (ap (λ (k : Kind). same_kind k Pointer && bad_target t b) e ∙ q))) in
      let two = or_false (leb (length t) b) (other (kind_at t b)) one.1 in
      let z : b ≡ 0 → ⊥ = eqb-false b 0 one.0 in
      every_kind_lem (λ k. (k ≡ NoWord → ⊥) → other k ≡ false → node_kind k ≡ true) (λ w n. refl) (λ w n. refl) (λ w n. refl) (λ w n. sym n) (λ w n. sym n) (λ w n. absurd (w refl))
      (kind_at t b) (is_word b (omega arith) (leb-false (length t) b two.0)) two.1

  -- the node that an argument word names
  argument_node : (a : ℕ) → a < length t → is_one_of argument_kinds (kind_at t a) ≡ true → node_kind (kind_at t (named t a)) ≡ true
  unfolding named choose
  argument_node a h e =
      one_of (λ k. kind_at t a ≡ k → node_kind (kind_at t (named t a)) ≡ true) argument_kinds
      ((λ q. at q (ap node_kind q)), ((λ q. at q (ap node_kind q)), ((λ q. at q (pointer_node a h q)), tt))) (kind_at t a) e refl
    where
      at : {k : Kind} → kind_at t a ≡ k → node_kind (kind_at t (choose (same_kind k Pointer) (content_at t a) a)) ≡ true → node_kind (kind_at t (named t a)) ≡ true
      at q s = ap (λ (k : Kind). node_kind (kind_at t (choose (same_kind k Pointer) (content_at t a) a))) q ∙ s

  pub child_is_node : (x i : ℕ) → i < degree t x → node_kind (kind_at t (child_of t x i)) ≡ true
  child_is_node x i h =
      let f : (kind_at t x ≡ Function) × (i < content_at t (x + 1)) = degree_function t x i h in
      argument_node (x + 2 + i) (argument_inside x i h) ((block_arguments x f.0).stand i f.1)

  pub child_inside : (x i : ℕ) → i < degree t x → child_of t x i < length t
  child_inside x i h = inside_kind t (child_of t x i) node_kind refl (child_is_node x i h)

  pub degree_small : (x : ℕ) → degree t x ≤ most_arguments
  unfolding degree choose bad_word bad_kind
  degree_small x = go (same_kind (kind_at t x) Function) refl
    where
      small_count : (a : ℕ) → 0 < a → a < length t → kind_at t a ≡ Count → content_at t a ≤ most_arguments
      small_count zero l u e = absurd (omega arith)
      small_count (suc a) l u e =
          omega (
            arith,
            leb-false 256 (content_at t (suc a))
                (or_false (eqb (content_at t (suc a)) 0) (ltb most_arguments (content_at t (suc a))) (fails _ (λ r. c.words (suc a) u (ap (λ (k : Kind). bad_kind k (content_at t (suc a))) e ∙ r)))).1,
          )

      go : (b : Bool) → same_kind (kind_at t x) Function ≡ b → choose b (content_at t (x + 1)) 0 ≤ most_arguments
      go true e =
          let f : kind_at t x ≡ Function = (same_kind_exactly (kind_at t x) Function).0 e in
          small_count (x + 1) (omega arith) (omega (arith, block_inside x f)) (block_count x f)
      go false e = omega arith
