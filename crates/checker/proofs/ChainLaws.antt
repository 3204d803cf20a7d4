-- Chains of variables, over any two functions: where each chain begins, and what comes after an address. In order:
--   spread_below, start_below    a label is spread over the chains' starts
--   chains_none    before address 1 there are none
--   chains_pass    an address that is no variable with a name is passed by
--   chains_more    a variable is put in front of its chain
--   Walk           a walk down the chain of a label: what is left of the chain has each variable of that label
--   walk_begins, walk_goes_on, walk_falls    its steps
--   walk_hits      where it finds the label, the name is repeated
--   walk_misses    where it comes to 0, the name is not
-- Assumes nothing.
use mathlib.Core.Path.{◌≡◌, sym, ap, subst, ◌∙◌}
use mathlib.Core.List.{List}
use Prim.Native.Nat.{ℕ, ◌+◌, ◌*◌, ◌%◌, ◌<◌}
use native.Mathlib.Decide.{ℕ_discrete}
use native.Mathlib.Nat.{mod-lt, mul_comm, mul-lt-mul_of_pos_left, div-lt_iff_lt-mul}
use native.Mathlib.Omega.{arith}
use borrow.Author.Count.{below_more}
use Rattle.words.specs.declared.kind.Kind.TheVariants.{NoWord}
use Rattle.table.specs.Table.{kind_at, content_at}
use Rattle.table.specs.Faults.{Repeats}
use Rattle.checker.specs.Steps.Names.{start_of, Reach, here, further, NamedVariable, InChain, Chains}

-- a 16-bit number times m
times_below : (x m : ℕ) → x < 65536 → 0 < m → x * m < m * 65536
times_below x m h pos = omega (arith, mul_comm x m, mul-lt-mul_of_pos_left h pos)

pub spread_below : (label m : ℕ) → 0 < m → label * 40503 % 65536 * m < m * 65536
spread_below label m pos = times_below (label * 40503 % 65536) m (mod-lt _ (omega arith)) pos

pub start_below : (label : ℕ) {m : ℕ} → 0 < m → start_of label m < m
unfolding start_of
start_below label {m} pos = (div-lt_iff_lt-mul {k = 65536} {y = m} (omega arith)).1 (spread_below label m pos)

kept_later : {t : List ℕ} {a x : ℕ} → InChain t a x → InChain t (a + 1) x
kept_later k = record { below = omega arith; named_there = k.named_there }

pub chains_none : (t : List ℕ) (m : ℕ) (head next : ℕ → ℕ) → ((h : ℕ) → h < m → head h ≡ 0) → Chains t m 1 head next
chains_none t m head next zero_there = record {
  heads = λ h i. subst (InChain t 1) (sym (zero_there h i)) (record { below = omega arith; named_there = λ p. absurd (omega arith) });
  links = λ v p q k. absurd (omega arith);
  all = λ b p q k. absurd (omega arith);
}

pub chains_pass : {t : List ℕ} {m a : ℕ} {head next : ℕ → ℕ} → Chains t m a head next → (NamedVariable t a → ⊥) → Chains t m (a + 1) head next
chains_pass {t} {m} {a} {head} {next} s other = record {
  heads = λ h i. kept_later (s.heads h i);
  links = λ v p q.
      below_more (λ u. 0 < u → NamedVariable t u → InChain t u (next u)) a (λ u i j. s.links u j i) (λ j k. absurd (other k)) v q p;
  all = λ b p q.
      below_more (λ u. 0 < u → NamedVariable t u → Reach next (head (start_of (content_at t u) m)) u) a (λ u i j. s.all u j i) (λ j k. absurd (other k)) b q p;
}

-- A variable at a is put in front of the chain that begins at h.
pub record InFront (m a h : ℕ) (head next head' next' : ℕ → ℕ) : Type 0 where
  pub first : head' h ≡ a
  pub other_heads : (g : ℕ) → g < m → (g ≡ h → ⊥) → head' g ≡ head g
  pub then : next' a ≡ head h
  pub other_links : (v : ℕ) → (v ≡ a → ⊥) → next' v ≡ next v

module _ {t : List ℕ} {m a h : ℕ} {head next head' next' : ℕ → ℕ} (s : Chains t m a head next) (f : InFront m a h head next head' next') where
  -- a way among older addresses stays
  reach_stays : {v b : ℕ} → Reach next v b → InChain t a v → Reach next' v b
  reach_stays here k = here
  reach_stays {v} {b} (further p r) k =
      further p (
      subst (λ x. Reach next' x b) (sym (f.other_links v (λ e. omega arith))) (
      reach_stays r (
      let l : InChain t v (next v) = s.links v p k.below (k.named_there p) in
      record { below = omega arith; named_there = l.named_there }
      )
      )
      )

  pub chains_more : 0 < a → h ≡ start_of (content_at t a) m → h < m → NamedVariable t a → Chains t m (a + 1) head' next'
  chains_more pos here_slot small named_here = record {
    heads = λ g i. heads_at g i (ℕ_discrete g h);
    links = λ v p q.
        below_more (λ u. 0 < u → NamedVariable t u → InChain t u (next' u)) a
        (λ u i j k. subst (InChain t u) (sym (f.other_links u (λ e. omega arith))) (s.links u j i k))
        (λ j k. subst (InChain t a) (sym f.then) (s.heads h small)) v q p;
    all = λ b p q.
        below_more (λ u. 0 < u → NamedVariable t u → Reach next' (head' (start_of (content_at t u) m)) u) a
        (λ u i j k. older u i j k (ℕ_discrete (start_of (content_at t u) m) h))
        (λ j k. subst (λ x. Reach next' x a) (sym (ap head' (sym here_slot) ∙ f.first)) here) b q p;
  }
    where
      heads_at : (g : ℕ) → g < m → Dec (g ≡ h) → InChain t (a + 1) (head' g)
      heads_at g i (yes e) =
          subst (InChain t (a + 1)) (sym (ap head' e ∙ f.first)) (record { below = omega arith; named_there = λ p. named_here })
      heads_at g i (no e) = subst (InChain t (a + 1)) (sym (f.other_heads g i e)) (kept_later (s.heads g i))

      older : (u : ℕ) → u < a → 0 < u → NamedVariable t u → Dec (start_of (content_at t u) m ≡ h) → Reach next' (head' (start_of (content_at t u) m)) u
      older u i j k (yes e) =
          subst (λ x. Reach next' x u) (sym (ap head' e ∙ f.first)) (
          further pos (
          subst (λ x. Reach next' x u) (sym f.then) (
          reach_stays (subst (λ x. Reach next (head x) u) e (s.all u j i k)) (s.heads h small)
          )
          )
          )
      older u i j k (no e) =
          subst (λ x. Reach next' x u) (sym (f.other_heads _ slot_small e)) (reach_stays (s.all u j i k) (s.heads _ slot_small))
        where
          slot_small : start_of (content_at t u) m < m
          slot_small = start_below _ (omega arith)

-- ---- a walk

pub record Walk (t : List ℕ) (a label : ℕ) (next : ℕ → ℕ) (v : ℕ) : Type 0 where
  pub kept : InChain t a v
  pub left : (b : ℕ) → 0 < b → b < a → NamedVariable t b → content_at t b ≡ label → Reach next v b

module _ {t : List ℕ} {m a : ℕ} {head next : ℕ → ℕ} (s : Chains t m a head next) where
  pub walk_begins : {label h v : ℕ} → h ≡ start_of label m → h < m → v ≡ head h → Walk t a label next v
  walk_begins {label} {h} {v} slot small e = record {
    kept = subst (InChain t a) (sym e) (s.heads h small);
    left = λ b p q k l. subst (λ x. Reach next x b) (ap (λ x. head (start_of x m)) l ∙ ap head (sym slot) ∙ sym e) (s.all b p q k);
  }

  link : {label v : ℕ} → Walk t a label next v → (v ≡ 0 → ⊥) → InChain t v (next v)
  link {label} {v} w other = s.links v (omega (arith, other)) w.kept.below (w.kept.named_there (omega (arith, other)))

  pub walk_falls : {label v u : ℕ} → Walk t a label next v → (v ≡ 0 → ⊥) → u ≡ next v → u < v
  walk_falls w other e = omega (arith, (link w other).below)

  pub walk_goes_on :
      {label v u : ℕ} → Walk t a label next v → (v ≡ 0 → ⊥) → (content_at t v ≡ label → ⊥) → u ≡ next v → Walk t a label next u
  walk_goes_on {label} {v} {u} w other differs e = record {
    kept = subst (InChain t a) (sym e) (let l = link w other in record { below = omega arith; named_there = l.named_there });
    left = λ b p q k l. subst (λ x. Reach next x b) (sym e) (past (w.left b p q k l) differs l);
  }
    where
      past : {x b : ℕ} → Reach next x b → (content_at t x ≡ label → ⊥) → content_at t b ≡ label → Reach next (next x) b
      past here d l = absurd (d l)
      past (further p r) d l = r

pub walk_hits :
    {t : List ℕ} {a label : ℕ} {next : ℕ → ℕ} {v : ℕ} →
    Walk t a label next v →
    (v ≡ 0 → ⊥) →
    NamedVariable t a →
    content_at t v ≡ content_at t a →
    Repeats t a
walk_hits {t} {a} {label} {next} {v} w other k e = record {
  stood = record {
    later = k.variable_here;
    earlier = v;
    before = w.kept.below;
    variable_there = (w.kept.named_there (omega (arith, other))).variable_here;
    same_label = e;
  };
  other_label = k.other_label;
}

nothing_left : {next : ℕ → ℕ} {v b : ℕ} → Reach next v b → v ≡ 0 → 0 < b → ⊥
nothing_left here e p = omega arith
nothing_left (further q r) e p = omega arith

-- what is repeated has a name too
earlier_named : {t : List ℕ} {a : ℕ} (r : Repeats t a) → NamedVariable t r.stood.earlier
earlier_named r = record { variable_here = r.stood.variable_there; other_label = λ e. r.other_label (sym r.stood.same_label ∙ e) }

pub walk_misses :
    {t : List ℕ} {a label : ℕ} {next : ℕ → ℕ} {v : ℕ} →
    kind_at t 0 ≡ NoWord →
    Walk t a label next v →
    label ≡ content_at t a →
    v ≡ 0 →
    Repeats t a →
    ⊥
walk_misses {t} {a} none w l e r = go (ℕ_discrete r.stood.earlier 0)
  where
    go : Dec (r.stood.earlier ≡ 0) → ⊥
    go (yes z) = let c : ◌≡◌ {A = ℕ} 0 1 = cc (none, r.stood.variable_there, ap (kind_at t) z) in omega arith
    go (no z) = nothing_left (w.left r.stood.earlier (omega (arith, z)) r.stood.before (earlier_named r) (r.stood.same_label ∙ sym l)) e (omega (arith, z))
