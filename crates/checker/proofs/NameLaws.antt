-- The chains in the work row, and what the scan for repeated names knows at each address. In order:
--   repeats_inside   a repeated name stands in the table
--   put_front      two stores put a variable in front of its chain
--   stays_same, stays_on     what of the work row stays
--   chained_unnamed, chained_pass   an address that has no name, or no variable, is passed by
--   judged-..      the three ways in which an address is judged
--   chained_none   a cleared row has empty chains
--   NoneYet        no address passed repeats a name; none_first, none_more
--   answer_here, answer_nowhere    the scan's two answers
-- Assumes nothing.
use mathlib.Core.Path.{◌≡◌, refl, sym, ap, subst, ◌∙◌}
use mathlib.Core.Bool.{Bool, true, false}
use mathlib.Core.List.{List}
use Prim.Native.Nat.{ℕ, ◌+◌, ◌*◌, ◌≤◌, ◌<◌}
use native.Mathlib.Omega.{arith}
use lib.ListN.{length, get_or, set, drop, length-set, length-append, length-replicate, length-drop}
use lib.Seq.{get_or-set_same, get_or-set_other, drop-set-lt}
use borrow.Author.Count.{below_more}
use Rattle.std.specs.Prelude.{None, Some}
use Rattle.rows.specs.Placed.{zeroed}
use Rattle.rows.proofs.Laws.{behind_cleared, cleared_zero}
use Rattle.words.specs.Limits.{most_words}
use Rattle.words.specs.Word.{kind_of}
use Rattle.words.specs.declared.kind.Kind.TheVariants.{Variable}
use Rattle.table.specs.Table.{word_at, kind_at, content_at, node_kind}
use Rattle.table.proofs.Readable.{inside_kind}
use Rattle.table.specs.Faults.{Repeats}
use Rattle.checker.specs.Steps.Names.{Either, start_of, NamedVariable, head_in, next_in, RestStays, Chained, ChainedOn, NameJudged, FirstRepeated}
use Rattle.checker.proofs.ChainLaws.{chains_none, chains_pass, chains_more, InFront}

pub repeats_inside : {t : List ℕ} {a : ℕ} → Repeats t a → a < length t
repeats_inside {t} {a} r = inside_kind t a node_kind refl (ap node_kind r.stood.later)

-- no variable stands at address 0
past_first : {t work : List ℕ} {a : ℕ} → Chained t work a → NamedVariable t a → a ≡ 0 → ⊥
past_first {t} c k e = let z : ◌≡◌ {A = ℕ} 0 1 = cc (c.no_variable, k.variable_here, ap (kind_at t) e) in omega arith

-- the link of the variable at a is stored, and then the start of its chain
abbrev pub linked : List ℕ → List ℕ → ℕ → ℕ → List ℕ
linked t work a h = set work (3 * length t + a) (get_or work h 0)

abbrev pub fronted : List ℕ → List ℕ → ℕ → ℕ → List ℕ
fronted t work a h = set (linked t work a h) h a

module _ (t work : List ℕ) (a h : ℕ) (room : 4 * length t ≤ length work) (inside : a < length t) (start : h < 3 * length t) where
  in_front : InFront (3 * length t) a h (head_in work) (next_in t work) (head_in (fronted t work a h)) (next_in t (fronted t work a h))
  in_front = record {
    first = get_or-set_same (linked t work a h) h a 0 (simp length-set (omega arith));
    other_heads = λ g i e.
        get_or-set_other (linked t work a h) h g a 0 e
        ∙ get_or-set_other work (3 * length t + a) g (get_or work h 0) 0 (λ q. omega arith);
    then =
        get_or-set_other (linked t work a h) h (3 * length t + a) a 0 (λ q. omega arith)
        ∙ get_or-set_same work (3 * length t + a) (get_or work h 0) 0 (omega arith);
    other_links = λ v e.
        get_or-set_other (linked t work a h) h (3 * length t + v) a 0 (λ q. omega arith)
        ∙ get_or-set_other work (3 * length t + a) (3 * length t + v) (get_or work h 0) 0 (λ q. e (omega arith));
  }

  pub put_front : Chained t work a → h ≡ start_of (content_at t a) (3 * length t) → NamedVariable t a → ChainedOn t work (fronted t work a h) (a + 1)
  put_front c slot k = record {
    chained = record {
      no_variable = c.no_variable;
      small = c.small;
      room = simp length-set room;
      chains = chains_more c.chains in_front (omega (arith, past_first c k)) slot start k;
    };
    stays = record {
      rest =
          drop-set-lt (4 * length t) (linked t work a h) h a (omega arith)
          ∙ drop-set-lt (4 * length t) work (3 * length t + a) (get_or work h 0) (omega arith);
      same_length = simp length-set;
    };
  }

-- ---- one address

-- the work row is not written
pub stays_same : (t work : List ℕ) → RestStays t work work
stays_same t work = record { rest = refl; same_length = refl }

pub stays_on : {t x y z : List ℕ} → RestStays t x y → RestStays t y z → RestStays t x z
stays_on p q = record { rest = q.rest ∙ p.rest; same_length = q.same_length ∙ p.same_length }

chained_unnamed : {t work : List ℕ} {a : ℕ} → Chained t work a → (NamedVariable t a → ⊥) → Chained t work (a + 1)
chained_unnamed c other = record { no_variable = c.no_variable; small = c.small; room = c.room; chains = chains_pass c.chains other }

pub chained_pass : {t work : List ℕ} {a : ℕ} → Chained t work a → (kind_at t a ≡ Variable → ⊥) → Chained t work (a + 1)
chained_pass c other = chained_unnamed c (λ n. other n.variable_here)

pub judged_other : {t work : List ℕ} {a : ℕ} → Chained t work a → (NamedVariable t a → ⊥) → NameJudged t work work a false
judged_other {t} {work} c other = record {
  verdict = λ r. other (record { variable_here = r.stood.later; other_label = r.other_label });
  goes_on = record { chained = chained_unnamed c other; stays = stays_same t work };
}

module _ {b : Bool} (t work : List ℕ) (a : ℕ) (told : Either b (Repeats t a) (Repeats t a → ⊥)) where
  pub judged_repeated : b ≡ true → NameJudged t work work a true
  judged_repeated e = record { verdict = subst (λ c. Either c (Repeats t a) (Repeats t a → ⊥)) e told; goes_on = refl }

  pub judged_new : {exit : List ℕ} → b ≡ false → ChainedOn t work exit (a + 1) → NameJudged t work exit a false
  judged_new e on = record { verdict = subst (λ c. Either c (Repeats t a) (Repeats t a → ⊥)) e told; goes_on = on }

-- the work row, whatever the verdict
pub judged_stays : {t work exit : List ℕ} {a : ℕ} (b : Bool) → NameJudged t work exit a b → RestStays t work exit
judged_stays {t} {work} true j = subst (RestStays t work) (sym j.goes_on) (stays_same t work)
judged_stays false j = j.goes_on.stays

-- ---- no chains

-- the first n entries of a row were set to 0
pub record Cleared (n : ℕ) (entry cleared : List ℕ) : Type 0 where
  pub fits : n ≤ length entry
  pub row : cleared ≡ zeroed n entry

module _ {n : ℕ} {entry cleared : List ℕ} (c : Cleared n entry cleared) where
  cleared-length : length cleared ≡ length entry
  cleared-length = ap length c.row ∙ simp (length-append, length-replicate, length-drop) (omega (arith, c.fits))

  cleared_rest : (m : ℕ) → n ≤ m → drop m cleared ≡ drop m entry
  cleared_rest m h = ap (drop m) c.row ∙ behind_cleared entry n m h

  zero_below : (h : ℕ) → h < n → get_or cleared h 0 ≡ 0
  zero_below h i = ap (λ l. get_or l h 0) c.row ∙ cleared_zero entry n h i

pub chained_none :
    {t entry cleared : List ℕ} →
    length t ≤ most_words →
    4 * length t ≤ length entry →
    word_at t 0 ≡ 0 →
    cleared ≡ zeroed (3 * length t) entry →
    ChainedOn t entry cleared 1
unfolding kind_of
chained_none {t} {entry} {cleared} small room first e =
    let c : Cleared (3 * length t) entry cleared = record { fits = omega arith; row = e } in
    record {
      chained = record {
        no_variable = ap kind_of first;
        small = small;
        room = omega (arith, cleared-length c);
        chains = chains_none t (3 * length t) (head_in cleared) (next_in t cleared) (zero_below c);
      };
      stays = record { rest = cleared_rest c (4 * length t) (omega arith); same_length = cleared-length c };
    }

-- ---- the scan

-- The scan has come to a, and no address below a repeats a name.
pub record NoneYet (t entry work : List ℕ) (a : ℕ) : Type 0 where
  pub row : ChainedOn t entry work a
  pub within : a ≤ length t
  pub none_before : (j : ℕ) → j < a → Repeats t j → ⊥

pub none_first : {t work : List ℕ} → Chained t work 1 → 0 < length t → NoneYet t work work 1
none_first {t} {work} c some = record {
  row = record { chained = c; stays = stays_same t work };
  within = some;
  none_before = λ j i r. omega (arith, r.stood.before);
}

pub none_more :
    {t entry work exit : List ℕ} {a : ℕ} {b : Bool} →
    NoneYet t entry work a →
    a < length t →
    NameJudged t work exit a b →
    b ≡ false →
    NoneYet t entry exit (a + 1)
none_more {t} {entry} {work} {exit} {a} s h j e =
    let d : NameJudged t work exit a false = subst (λ c. NameJudged t work exit a c) e j in
    record {
      row = record { chained = d.goes_on.chained; stays = stays_on s.row.stays d.goes_on.stays };
      within = omega arith;
      none_before = below_more (λ k. Repeats t k → ⊥) a s.none_before d.verdict;
    }

module _ {t entry cleared work : List ℕ} {a : ℕ} (c : RestStays t entry cleared) (s : NoneYet t cleared work a) where
  pub answer_here : {exit : List ℕ} {b : Bool} → NameJudged t work exit a b → b ≡ true → FirstRepeated t entry exit (Some a)
  answer_here {exit} {b} j e = record {
    lowest = let d : NameJudged t work exit a true = subst (λ c. NameJudged t work exit a c) e j in record { has = d.verdict; none_below = s.none_before };
    stays = stays_on c (stays_on s.row.stays (judged_stays b j));
  }

  pub answer_nowhere : length t ≤ a → FirstRepeated t entry work None
  answer_nowhere h = record {
    lowest = λ j r. s.none_before j (omega (arith, repeats_inside r)) r;
    stays = stays_on c s.row.stays;
  }
