-- Three numbers in one, and taken out again. Each has 16 bits, since places and joins go no further than a table and a list do;
-- so what STATION_ANSWER_OF, STATION_PLACE_OF and STATION_JOINS_OF take out of what an entry returns is what was put in.
--
-- In order: places (`check_place_lem`, `match_place`), joins (`match_joins`), and the three entries that return such a number
-- (`check_unpacked`, `match_unpacked`, `sizes_unpacked`). Assumes nothing.
use mathlib.Core.Path.{◌≡◌, refl, ap}
use mathlib.Core.Bool.{true}
use mathlib.Core.Logic.{◌⊎◌, inl, inr}
use mathlib.Core.List.{List, [], ◌∷◌, ◌++◌}
use Prim.Native.Nat.{ℕ, ◌+◌, ◌≤◌, ◌<◌}
use native.Mathlib.Decide.{ℕ_discrete}
use native.Mathlib.Omega.{arith}
use borrow.Author.Tests.{ltb-true}
use lib.Dec.{ltb}
use lib.ListN.{length}
use Rattle.words.specs.Limits.{most_words, most_entries, most_jobs}
use Rattle.words.specs.Word.{same_kind}
use Rattle.words.specs.declared.kind.Kind.{Kind}
use Rattle.words.specs.declared.kind.Kind.TheVariants.{Variable}
use Rattle.answering.specs.Answers.{Answered, NoneOf}
use Rattle.answering.proofs.Orders.{each, answered_tested, answered_parts, passed_none}
use Rattle.graphs.specs.Graph.{Symbols, Graph}
use Rattle.graphs.specs.Partition.{pairs_of, is_node, nodes, joins}
use Rattle.table.specs.Table.{graph_of}
use Rattle.table.specs.Faults.{Job, Fault, size_fault, room_fault, word_fault, layout_fault, pointer_fault, name_fault, loop_fault, list_fault, address_fault, clash_fault, cycle_fault, SIZE, LIST, number, check_order, list_rows, pair_rows, match_order}
use Rattle.table.proofs.Readable.{inside_kind}
use Rattle.classes.proofs.ClassTables.{count_below}
use Rattle.checker.specs.Check.{number_of as check_number, place_of as check_place, checked_job}
use Rattle.checker.proofs.Stages.{break_within}
use Rattle.matcher.specs.Match.{Matched, number_of, place_of, joins_of, MatchOf, job_of}
use Rattle.matcher.proofs.ListLaws.{half_entries}
use Rattle.matcher.proofs.OneMatch.{refused_joins}
use Rattle.matcher.proofs.Verdicts.{at_most}
use Rattle.jobfile.specs.File.{count_in}
use Rattle.jobfile.specs.Faults.{CONTENTS, ROOM, file_number, ReadFault, BodyFault, wrong_offset, past_end, bytes_follow, file_fault, contents_fault, body_fault, read_order}
use Rattle.host.specs.AsOne.{as_one, answer_in, place_in, joins_in}
use Rattle.host.specs.Sizes.{SizesFault, SizesOf}
use Rattle.station.specs.Entries.{LentOf, CheckedOf}

unpacked : (a p j : ℕ) {r : ℕ} → a < 65536 → p < 65536 → j < 65536 → r ≡ as_one a p j → (answer_in r ≡ a) × (place_in r ≡ p) × (joins_in r ≡ j)
unpacked a p j ha hp hj e = (omega (arith, ha, e), omega (arith, ha, hp, e), omega (arith, ha, hp, hj, e))

-- ---- places

module _ {job : Job} where
  few_words : ((p : ℕ) → Fault job SIZE p → ⊥) → length job.table ≤ most_words
  few_words none = at_most (λ h. none 0 (size_fault (inr h)))

  few_pairs : ((p : ℕ) → Fault job LIST p → ⊥) → length (pairs_of job.list) ≤ most_entries
  few_pairs none = omega (arith, half_entries job.list, at_most (λ h. none 0 (list_fault (inr h))))

  check_place_lem : (a p : ℕ) → Answered number (Fault job) check_order a p → p < 65536
  check_place_lem a p (inl (e, size_fault x)) = omega arith
  check_place_lem a p (inr (s, inl (e, room_fault x))) = omega arith
  check_place_lem a p (inr (s, inr (r, inl (e, word_fault l)))) = omega (arith, l.has.0, few_words s)
  check_place_lem a p (inr (s, inr (r, inr (w, inl (e, layout_fault b))))) = omega (arith, break_within job.table p b, few_words s)
  check_place_lem a p (inr (s, inr (r, inr (w, inr (l, inl (e, pointer_fault f)))))) = omega (arith, f.has.0, few_words s)
  check_place_lem a p (inr (s, inr (r, inr (w, inr (l, inr (q, inl (e, name_fault f))))))) =
      omega (arith, inside_kind job.table p (λ k. same_kind k Variable) refl (ap (λ (k : Kind). same_kind k Variable) f.has.stood.later), few_words s)
  check_place_lem a p (inr (s, inr (r, inr (w, inr (l, inr (q, inr (n, inl (e, loop_fault x y)))))))) = omega arith
  check_place_lem a p (inr (s, inr (r, inr (w, inr (l, inr (q, inr (n, inr (o, (z, e))))))))) = omega (arith, e)

  list_place : (a p : ℕ) → Answered number (Fault job) (list_rows ++ pair_rows) a p → p < 65536
  list_place a p (inl (e, list_fault x)) = omega arith
  list_place a p (inr (l, inl (e, address_fault f))) = omega (arith, f.has.0, few_pairs l)
  list_place a p (inr (l, inr (d, inl (e, clash_fault f)))) = omega (arith, f.within, few_pairs l)
  list_place a p (inr (l, inr (d, inr (c, inl (e, cycle_fault f))))) = omega (arith, f.within, few_pairs l)
  list_place a p (inr (l, inr (d, inr (c, inr (y, (z, e)))))) = omega (arith, e)

  match_place : (a p : ℕ) → Answered number (Fault job) match_order a p → p < 65536
  unfolding number
  match_place a p x = go (answered_parts number (Fault job) check_order (list_rows ++ pair_rows) a p refl x)
    where
      go : ((a ≡ 0 → ⊥) × Answered number (Fault job) check_order a p) ⊎ (NoneOf (Fault job) check_order × Answered number (Fault job) (list_rows ++ pair_rows) a p) → p < 65536
      go (inl (refused, y)) = check_place_lem a p y
      go (inr (none, y)) = list_place a p y

-- numbers of rows go up to 15
low_number : {Row : Type 0} (numbers : Row → ℕ) (Applies : Row → ℕ → Type 0) (rows : List Row) (a p : ℕ) → each (λ row. ltb (numbers row) 16) rows ≡ true → Answered numbers Applies rows a p → a < 65536
low_number numbers Applies rows a p t x = omega (arith, ltb-true a 16 (answered_tested numbers Applies (λ b. ltb b 16) rows a p t (λ z. ap (λ (b : ℕ). ltb b 16) z) x))

-- ---- joins

few_joins : {S : Symbols} (G : Graph S) (table : List ℕ) → joins G table ≤ G.size
unfolding joins nodes
few_joins G table = omega (arith, count_below (λ x. is_node (G.head x)) G.size)

module _ {t list class work : List ℕ} {r : Matched} {class_after work_after : List ℕ} (m : MatchOf t list class work r class_after work_after) where
  match_joins : Dec (number_of r ≡ 0) → joins_of r < 65536
  unfolding number
  match_joins (yes z) =
      let none = (passed_none number (Fault (job_of t list class work)) match_order (number_of r) (place_of r) refl z m.answered).0 in
      omega (arith, (m.bound z).joins_counted, few_joins (graph_of t) (m.bound z).table, few_words {job = job_of t list class work} none.0)
  match_joins (no z) = omega (arith, refused_joins r z)

-- ---- the entries

pub match_unpacked : {t list class work : List ℕ} {r : ℕ} {class_after work_after : List ℕ} (h : LentOf t list class work r class_after work_after)
    → (answer_in r ≡ number_of h.answer) × (place_in r ≡ place_of h.answer) × (joins_in r ≡ joins_of h.answer)
unfolding number
match_unpacked {t} {list} {class} {work} h =
    let a : ℕ = number_of h.answer in
    let p : ℕ = place_of h.answer in
    unpacked a p (joins_of h.answer) (low_number number (Fault (job_of t list class work)) match_order a p refl h.matched.answered) (match_place a p h.matched.answered)
    (match_joins h.matched (ℕ_discrete a 0))
    h.is

pub check_unpacked : {t class work : List ℕ} {r : ℕ} {class_after work_after : List ℕ} (h : CheckedOf t class work r class_after work_after)
    → (answer_in r ≡ check_number h.answer) × (place_in r ≡ check_place h.answer) × (joins_in r ≡ 0)
unfolding number
check_unpacked {t} {class} {work} h =
    let a : ℕ = check_number h.answer in
    let p : ℕ = check_place h.answer in
    unpacked a p 0 (low_number number (Fault (checked_job t class work)) check_order a p refl h.checked.answered) (check_place_lem a p h.checked.answered) (omega arith) h.is

module _ {bytes : List ℕ} where
  few_jobs : ((p : ℕ) → ReadFault bytes CONTENTS p → ⊥) → count_in bytes ≤ most_jobs
  few_jobs none = at_most (λ h. none 0 (contents_fault (inr (inl h))))

  body_place : (p : ℕ) → BodyFault bytes p → p ≤ count_in bytes + 1
  body_place p (wrong_offset h x) = omega (arith, h)
  body_place p (past_end h x) = omega (arith, h)
  body_place p (bytes_follow x) = omega arith

module _ (bytes sizes : List ℕ) where
  sizes_place : (a p : ℕ) → Answered file_number (SizesFault bytes sizes) (read_order ++ (ROOM ∷ [])) a p → p < 65536
  sizes_place a p (inl (e, file_fault x)) = omega arith
  sizes_place a p (inr (f, inl (e, contents_fault x))) = omega arith
  sizes_place a p (inr (f, inr (c, inl (e, body_fault l)))) = omega (arith, body_place p l.has, few_jobs c)
  sizes_place a p (inr (f, inr (c, inr (b, inl (e, (short, at_0)))))) = omega (arith, at_0)
  sizes_place a p (inr (f, inr (c, inr (b, inr (r, (z, at_0)))))) = omega (arith, at_0)

pub sizes_unpacked : {bytes sizes sizes_after : List ℕ} {r : ℕ} (h : SizesOf bytes sizes r sizes_after) → (answer_in r ≡ h.answer) × (place_in r ≡ h.place) × (joins_in r ≡ h.jobs)
unfolding file_number
sizes_unpacked {bytes} {sizes} h =
    unpacked h.answer h.place h.jobs (low_number file_number (SizesFault bytes sizes) (read_order ++ (ROOM ∷ [])) h.answer h.place refl h.answered)
    (sizes_place bytes sizes h.answer h.place h.answered)
    (jobs (ℕ_discrete h.answer 0))
    h.is
  where
    jobs : Dec (h.answer ≡ 0) → h.jobs < 65536
    jobs (yes z) =
        let none = (passed_none file_number (SizesFault bytes sizes) (read_order ++ (ROOM ∷ [])) h.answer h.place refl z h.answered).0 in
        omega (arith, (h.given z).0, few_jobs none.1.0)
    jobs (no z) = omega (arith, (h.refused z).0)
