-- The reader's answers, from its tests.
--
-- In order:
--     the bodies        EntriesWalked, walked_none, walked_more: what a walk along the entries knows
--                       bodies_wrong, bodies_past, bodies_follow: how it ends
--     the whole         judged_file, judged_contents
--     one answer        read_once, answered_once, fault_refuses, judged_only, read_only, bodies_only
--     a good file       body_inside, good_judged, not_good, judged_good
-- Assumes nothing.
use mathlib.Core.Path.{◌≡◌, refl, sym, ap, ap₂, ◌∙◌, subst}
use mathlib.Core.HLevel.{is_prop→PathP}
use mathlib.Core.Bool.{cond}
use Rattle.std.specs.Prelude.{Ok, Err}
use mathlib.Core.Logic.{◌⊎◌, inl, inr}
use mathlib.Core.List.{List}
use Prim.Native.Nat.{ℕ, zero, suc, ◌+◌, ◌-◌, ◌*◌, ◌≤◌, ◌<◌}
use native.Mathlib.Numerals.{add-one}
use native.Mathlib.Decide.{dec_lt, dec_le, ℕ_discrete}
use native.Mathlib.Bridge.{le_prop}
use native.Mathlib.Omega.{arith}
use lib.Dec.{eqb}
use lib.ListN.{length}
use borrow.Author.Count.{below_more}
use Rattle.words.specs.Limits.{most_bytes, most_jobs, most_sizes}
use Rattle.answering.specs.Answers.{Answered, Lowest}
use Rattle.answering.proofs.LowestLaws.{lowest_only}
use Rattle.answering.proofs.Orders.{answered_only, passed_none}
use Rattle.jobfile.specs.File.{body_size, contents_end, count_in, offset_in, words_in, pairs_in, body_start, GoodFile}
use Rattle.jobfile.specs.Faults.{FileRow, FILE, CONTENTS, BODY, file_number, BodyFault, wrong_offset, past_end, bytes_follow, ReadFault, file_fault, contents_fault, body_fault, read_order}
use Rattle.jobfile.specs.Reader.{FileAnswer, fault_number, number_of, place_of, Judged, yielded_sizes, yielded_bodies, in_row, Holds, ReadOf, BodiesOf}
use Rattle.jobfile.specs.Steps.Reading.{Opened, BodiesJudged}
use Rattle.jobfile.specs.declared.answers.FileFault.{FileFault}
use Rattle.jobfile.specs.declared.answers.FileFault.TheVariants.{File, Contents, Body}
use Rattle.jobfile.specs.declared.sizes.Sizes.{Sizes}
use Rattle.jobfile.proofs.FileLaws.{next_start}

-- ---- the bodies

-- an entry whose offset is right and whose body ends within the file
pub record Fine (bytes : List ℕ) (j : ℕ) : Type 0 where
  pub offset : offset_in bytes j ≡ body_start bytes j
  pub inside : body_start bytes (suc j) ≤ length bytes

-- the entries below k are fine, and the next body starts at `start`
pub record EntriesWalked (bytes : List ℕ) (k start : ℕ) : Type 0 where
  pub here : start ≡ body_start bytes k
  pub within : start ≤ length bytes
  pub below : k ≤ count_in bytes
  pub fine : (j : ℕ) → j < k → Fine bytes j

pub walked_none : {bytes : List ℕ} {jobs : ℕ} → Opened bytes jobs → EntriesWalked bytes 0 (2 + 6 * jobs)
unfolding body_start
walked_none opened =
    record { here = omega (arith, opened.counted); within = omega (arith, opened.counted, opened.contents_inside); below = omega arith; fine = λ j h. absurd (omega arith) }

module _ {bytes : List ℕ} {k start : ℕ} (walked : EntriesWalked bytes k start) where
  pub walked_more : {size : ℕ} → k < count_in bytes → offset_in bytes k ≡ start → size ≡ body_size (words_in bytes k) (pairs_in bytes k) → start + size ≤ length bytes
      → EntriesWalked bytes (k + 1) (start + size)
  walked_more {size} h right e inside =
      let next : start + size ≡ body_start bytes (suc k) = ap (λ (x : ℕ). start + x) e ∙ next_start bytes k walked.here refl refl in
      record {
        here = next ∙ ap (body_start bytes) (sym (add-one k));
        within = inside;
        below = omega arith;
        fine = below_more (Fine bytes) k walked.fine (record { offset = right ∙ walked.here; inside = omega arith });
      }

  none_before : (p : ℕ) → p < k + 1 → BodyFault bytes p → ⊥
  none_before p h (wrong_offset {k = j} l other) = other (walked.fine j (omega arith)).offset
  none_before p h (past_end {k = j} l over) = omega (arith, (walked.fine j (omega arith)).inside)
  none_before p h (bytes_follow over) = omega (arith, walked.below)

  lowest_wrong : k < count_in bytes → (offset_in bytes k ≡ start → ⊥) → Lowest (BodyFault bytes) (k + 1)
  lowest_wrong h other = record { has = wrong_offset h (λ e. other (e ∙ sym walked.here)); none_below = none_before }

  lowest_past : {size : ℕ} → k < count_in bytes → size ≡ body_size (words_in bytes k) (pairs_in bytes k) → length bytes < start + size → Lowest (BodyFault bytes) (k + 1)
  lowest_past {size} h e over =
      let next : start + size ≡ body_start bytes (suc k) = ap (λ (x : ℕ). start + x) e ∙ next_start bytes k walked.here refl refl in
      record { has = past_end h (omega arith); none_below = none_before }

  all_walked : count_in bytes ≤ k → start ≡ body_start bytes (count_in bytes)
  all_walked h = let all : k ≡ count_in bytes = omega (arith, walked.below) in walked.here ∙ ap (body_start bytes) all

  lowest_follow : count_in bytes ≤ k → start < length bytes → Lowest (BodyFault bytes) (count_in bytes + 1)
  lowest_follow h over = record { has = bytes_follow (omega (arith, all_walked h)); none_below = λ p l. none_before p (omega arith) }

  pub bodies_wrong : k < count_in bytes → (offset_in bytes k ≡ start → ⊥) → BodiesJudged bytes (Err (Body (record { 0 = k + 1 })))
  unfolding file_number
  bodies_wrong h other = inl (refl, body_fault (lowest_wrong h other))

  pub bodies_past : {size : ℕ} → k < count_in bytes → size ≡ body_size (words_in bytes k) (pairs_in bytes k) → length bytes < start + size → BodiesJudged bytes (Err (Body (record { 0 = k + 1 })))
  unfolding file_number
  bodies_past h e over = inl (refl, body_fault (lowest_past h e over))

  pub bodies_follow : {jobs : ℕ} → jobs ≡ count_in bytes → count_in bytes ≤ k → start < length bytes → BodiesJudged bytes (Err (Body (record { 0 = jobs + 1 })))
  unfolding file_number
  bodies_follow {jobs} e h over = inl (refl, body_fault {p = jobs + 1} (rw e (lowest_follow h over)))

  no_body : count_in bytes ≤ k → length bytes ≤ start → (p : ℕ) → BodyFault bytes p → ⊥
  no_body h ends p (wrong_offset {k = j} l other) = other (walked.fine j (omega arith)).offset
  no_body h ends p (past_end {k = j} l over) = omega (arith, (walked.fine j (omega arith)).inside)
  no_body h ends p (bytes_follow over) = omega (arith, all_walked h)

-- ---- the whole

module _ {bytes : List ℕ} where
  pub judged_file : (length bytes < 2) ⊎ (most_bytes < length bytes) → Judged bytes (Err File)
  unfolding file_number
  judged_file why = inl (refl, file_fault why)

  no_file : 2 ≤ length bytes → length bytes ≤ most_bytes → (p : ℕ) → ReadFault bytes FILE p → ⊥
  no_file least most p (file_fault (inl few)) = omega arith
  no_file least most p (file_fault (inr many)) = omega arith

  no_contents : 1 ≤ count_in bytes → count_in bytes ≤ most_jobs → contents_end (count_in bytes) ≤ length bytes → (p : ℕ) → ReadFault bytes CONTENTS p → ⊥
  no_contents some_job few_jobs inside p (contents_fault (inl none_there)) = omega arith
  no_contents some_job few_jobs inside p (contents_fault (inr (inl many))) = omega arith
  no_contents some_job few_jobs inside p (contents_fault (inr (inr over))) = omega arith

  pub judged_contents : 2 ≤ length bytes → length bytes ≤ most_bytes → (count_in bytes ≡ 0) ⊎ ((most_jobs < count_in bytes) ⊎ (length bytes < contents_end (count_in bytes))) → Judged bytes (Err Contents)
  unfolding file_number
  judged_contents least most why = inr (no_file least most, inl (refl, contents_fault why))

-- ---- one answer

pub read_once : {bytes : List ℕ} (row : FileRow) (p q : ℕ) → ReadFault bytes row p → ReadFault bytes row q → p ≡ q
read_once row p q (file_fault a) (file_fault b) = refl
read_once row p q (contents_fault a) (contents_fault b) = refl
read_once row p q (body_fault a) (body_fault b) = lowest_only a b

-- the answer that has a number and a place
answer_with : ℕ → ℕ → FileAnswer
answer_with n p =
    cond (eqb n 0) (Ok tt)
    (cond (eqb n 12) (Err File)
    (cond (eqb n 13) (Err Contents)
    (Err (Body (record { 0 = p })))))

answer_by_numbers : (r : FileAnswer) → answer_with (number_of r) (place_of r) ≡ r
unfolding answer_with
answer_by_numbers (Ok good) = refl
answer_by_numbers (Err File) = refl
answer_by_numbers (Err Contents) = refl
answer_by_numbers (Err (Body entry)) = refl

-- A file has one answer, by its numbers ..
-- what refuses a file has a number
pub fault_refuses : (fault : FileFault) → fault_number fault ≡ 0 → ⊥
fault_refuses File z = omega (arith, z)
fault_refuses Contents z = omega (arith, z)
fault_refuses (Body entry) z = omega (arith, z)

pub answered_once : {bytes : List ℕ} {a p b q : ℕ} → Answered file_number (ReadFault bytes) read_order a p → Answered file_number (ReadFault bytes) read_order b q → (a ≡ b) × (p ≡ q)
answered_once {bytes} {a} {p} {b} {q} x y = answered_only file_number (ReadFault bytes) read_once read_order a p b q x y

-- .. and as it is.
pub judged_only : {bytes : List ℕ} (r s : FileAnswer) → Judged bytes r → Judged bytes s → r ≡ s
judged_only r s a b =
    let same : (number_of r ≡ number_of s) × (place_of r ≡ place_of s) = answered_once a b in
    sym (answer_by_numbers r) ∙ ap₂ answer_with same.0 same.1 ∙ answer_by_numbers s

holds_only : {xs ys : List ℕ} {a b : Sizes} → xs ≡ ys → Holds a xs → Holds b ys → a ≡ b
holds_only {a = a} {b = b} e h k =
    let rows : a.row ≡ b.row = h.numbers ∙ ap in_row e ∙ sym k.numbers in
    let counts : a.count ≡ b.count = h.counted ∙ ap length e ∙ sym k.counted in
    λ i. record { row = rows i; count = counts i; within = is_prop→PathP (λ j. counts j ≤ most_sizes) (λ j. le_prop) a.within b.within i }

-- Two results that the contract of read allows are equal ..
pub read_only : {bytes : List ℕ} {r s : FileAnswer} {a b : Sizes} → ReadOf bytes r a → ReadOf bytes s b → (r ≡ s) × (a ≡ b)
read_only {bytes} {r} {s} x y =
    let e : r ≡ s = judged_only r s x.judged y.judged in (e, holds_only (ap (λ (q : FileAnswer). yielded_sizes q bytes) e) x.yielded y.yielded)

-- .. and two that the contract of bodies allows.
pub bodies_only : {bytes part₁ part₂ : List ℕ} → BodiesOf bytes part₁ → BodiesOf bytes part₂ → part₁ ≡ part₂
bodies_only {bytes} x y =
    let e : x.answer ≡ y.answer = judged_only x.answer y.answer x.judged y.judged in
    x.yielded ∙ ap (λ (q : FileAnswer). yielded_bodies q bytes) e ∙ sym y.yielded

-- ---- a good file

-- starts do not fall
starts_grow : (bytes : List ℕ) (k m : ℕ) → body_start bytes k ≤ body_start bytes (k + m)
unfolding body_start
starts_grow bytes k zero = let way : k ≡ k + 0 = omega arith in omega (arith, ap (body_start bytes) way)
starts_grow bytes k (suc m) = let way : suc (k + m) ≡ k + suc m = omega arith in omega (arith, starts_grow bytes k m, ap (body_start bytes) way)

pub body_inside : {bytes : List ℕ} → GoodFile bytes → (k : ℕ) → k < count_in bytes → body_start bytes (suc k) ≤ length bytes
body_inside {bytes} good k h =
    let way : suc k + (count_in bytes - suc k) ≡ count_in bytes = omega arith in
    omega (arith, starts_grow bytes (suc k) (count_in bytes - suc k), ap (body_start bytes) way, good.ends)

pub good_judged : {bytes : List ℕ} → GoodFile bytes → Judged bytes (Ok tt)
good_judged {bytes} good = inr (no_file good.at_least good.at_most, inr (no_contents good.some_job good.few_jobs good.contents_inside, inr (no_bodies, (refl, refl))))
  where
    no_fault : (p : ℕ) → BodyFault bytes p → ⊥
    no_fault p (wrong_offset {k = j} l other) = other (good.offsets j l)
    no_fault p (past_end {k = j} l over) = omega (arith, body_inside good j l)
    no_fault p (bytes_follow over) = omega (arith, good.ends)

    no_bodies : (p : ℕ) → ReadFault bytes BODY p → ⊥
    no_bodies p (body_fault lowest) = no_fault p lowest.has

-- a file that is answered by another number than 0 is not good
pub not_good : {bytes : List ℕ} {a p : ℕ} → Answered file_number (ReadFault bytes) read_order a p → (a ≡ 0 → ⊥) → GoodFile bytes → ⊥
not_good x other good = other (answered_once x (good_judged good)).0

-- Where no fault is the lowest, every entry is fine.
module _ {bytes : List ℕ} {jobs : ℕ} (opened : Opened bytes jobs) (none_lowest : (p : ℕ) → Lowest (BodyFault bytes) p → ⊥) where
  walk_all : (k : ℕ) → k ≤ count_in bytes → EntriesWalked bytes k (body_start bytes k)
  unfolding body_start
  walk_all zero h = subst (EntriesWalked bytes 0) (walked_none opened).here (walked_none opened)
  walk_all (suc k) h = go (walk_all k (omega arith)) (ℕ_discrete (offset_in bytes k) (body_start bytes k)) (dec_le (body_start bytes (suc k)) (length bytes))
    where
      go : EntriesWalked bytes k (body_start bytes k) → Dec (offset_in bytes k ≡ body_start bytes k) → Dec (body_start bytes (suc k) ≤ length bytes) → EntriesWalked bytes (suc k) (body_start bytes (suc k))
      go w (yes right) (yes inside) = subst (λ (i : ℕ). EntriesWalked bytes i (body_start bytes (suc k))) (add-one k) (walked_more w (omega arith) right refl inside)
      go w (yes right) (no over) = absurd (none_lowest (k + 1) (lowest_past w (omega arith) refl (omega arith)))
      go w (no other) d = absurd (none_lowest (k + 1) (lowest_wrong w (omega arith) other))

  all_good : GoodFile bytes
  all_good =
      let w : EntriesWalked bytes (count_in bytes) (body_start bytes (count_in bytes)) = walk_all (count_in bytes) (omega arith) in
      record {
        at_least = opened.at_least;
        at_most = opened.at_most;
        some_job = opened.some_job;
        few_jobs = opened.few_jobs;
        contents_inside = opened.contents_inside;
        offsets = λ k h. (w.fine k h).offset;
        ends = last w (dec_lt (body_start bytes (count_in bytes)) (length bytes));
      }
    where
      last : EntriesWalked bytes (count_in bytes) (body_start bytes (count_in bytes)) → Dec (body_start bytes (count_in bytes) < length bytes) → body_start bytes (count_in bytes) ≡ length bytes
      last w (yes follow) = absurd (none_lowest (count_in bytes + 1) (lowest_follow w (omega arith) follow))
      last w (no end) = omega (arith, w.within)

module _ {bytes : List ℕ} where
  not_file : ((p : ℕ) → ReadFault bytes FILE p → ⊥) → (2 ≤ length bytes) × (length bytes ≤ most_bytes)
  not_file none_applies = go (dec_le 2 (length bytes)) (dec_le (length bytes) most_bytes)
    where
      go : Dec (2 ≤ length bytes) → Dec (length bytes ≤ most_bytes) → (2 ≤ length bytes) × (length bytes ≤ most_bytes)
      go (yes least) (yes most) = (least, most)
      go (yes least) (no most) = absurd (none_applies 0 (file_fault (inr (omega arith))))
      go (no least) d = absurd (none_applies 0 (file_fault (inl (omega arith))))

  not_contents : (2 ≤ length bytes) × (length bytes ≤ most_bytes) → ((p : ℕ) → ReadFault bytes CONTENTS p → ⊥) → Opened bytes (count_in bytes)
  not_contents sized none_applies = go (dec_le 1 (count_in bytes)) (dec_le (count_in bytes) most_jobs) (dec_le (contents_end (count_in bytes)) (length bytes))
    where
      go : Dec (1 ≤ count_in bytes) → Dec (count_in bytes ≤ most_jobs) → Dec (contents_end (count_in bytes) ≤ length bytes) → Opened bytes (count_in bytes)
      go (yes l) (yes m) (yes e) = record { counted = refl; at_least = sized.0; at_most = sized.1; some_job = l; few_jobs = m; contents_inside = e }
      go (yes l) (yes m) (no e) = absurd (none_applies 0 (contents_fault (inr (inr (omega arith)))))
      go (yes l) (no m) d = absurd (none_applies 0 (contents_fault (inr (inl (omega arith)))))
      go (no l) c d = absurd (none_applies 0 (contents_fault (inl (omega arith))))

  pub judged_good : Judged bytes (Ok tt) → GoodFile bytes
  unfolding file_number
  judged_good judged =
      let rows = (passed_none file_number (ReadFault bytes) read_order 0 0 refl refl judged).0 in
      all_good (not_contents (not_file rows.0) rows.1.0) (λ p lowest. rows.1.1.0 p (body_fault lowest))
