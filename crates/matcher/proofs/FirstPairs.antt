-- The first pairs of a list, joined from each node its own class.
--
-- In order: rows after a step (`standing_after`); a join of the first k pairs (`joins_first`); where they have no clash
-- (`all_partitioned`); up to the first clash (`until_end`, `until_clash`). Assumes nothing.
use mathlib.Core.Path.{◌≡◌, refl, sym, ap, ◌∙◌, subst}
use mathlib.Core.List.Memᴰ
use mathlib.Core.List.{List, [], ◌++◌}
use Prim.Native.Nat.{ℕ, ◌+◌, ◌-◌, ◌*◌, ◌≤◌, ◌<◌}
use native.Mathlib.Omega.{arith}
use lib.ListN.{length, take, drop, length-take}
use lib.Seq.{take-take, length-take-le}
use Rattle.std.specs.Prelude.{Result, Ok, Err, IsOk}
use Rattle.words.specs.declared.numbers.PairNumber.{PairNumber}
use Rattle.rows.specs.Placed.{zeroed}
use Rattle.rows.proofs.Laws.{behind_stays, behind_cleared}
use Rattle.graphs.specs.Graph.{Symbols, Graph}
use Rattle.graphs.specs.Partition.{Pair, pairs_of, Sides, Clash, ClassTable, apart}
use Rattle.graphs.proofs.Theorems.{no_pairs_no_clash}
use Rattle.graphs.proofs.Classes.{never, clash_grows, first_pairs_grow}
use Rattle.table.specs.Table.{graph_of}
use Rattle.table.proofs.Pairs.{pairs_of-take}
use Rattle.classes.specs.Joining.{Joinable, ByOutcome, JoinOf}
use Rattle.classes.proofs.OwnClasses.{apart_front, apart_long}
use Rattle.classes.proofs.OneByOne.{first_in_whole}
use Rattle.matcher.specs.Steps.FirstFailure.{Standing, OnlyClassFront, Partitioned, FirstJoined, all_joined, clash_at, JoinsFirst, ClashesAt, UntilClash}

-- ---- rows after a step

pub lent_none : {t class work : List ℕ} → OnlyClassFront t class work class work
lent_none = record { class_long = refl; class_behind = refl; work_same = refl }

pub lent_join : {t class work class_mid work_mid class_after work_after : List ℕ} → OnlyClassFront t class work class_mid work_mid → OnlyClassFront t class_mid work_mid class_after work_after → OnlyClassFront t class work class_after work_after
lent_join k l =
    record { class_long = l.class_long ∙ k.class_long; class_behind = l.class_behind ∙ k.class_behind; work_same = l.work_same ∙ k.work_same }

pub standing_after : {t list class work class_after work_after : List ℕ} → Standing t list class work → OnlyClassFront t class work class_after work_after → Standing t list class_after work_after
standing_after {t} {list} {class} {work} s l =
    record {
      ready =
          record {
            passed = s.ready.passed;
            class_enough = omega (arith, s.ready.class_enough, l.class_long);
            work_enough = omega (arith, s.ready.work_enough, ap length l.work_same);
            even = s.ready.even;
            few = s.ready.few;
            sides = s.ready.sides;
          };
      clean = subst (λ (w : List ℕ). zeroed (2 * length t) w ≡ w) (sym l.work_same) s.clean;
    }

-- ---- the first pairs

pub first_sides : {S : Symbols} {G : Graph S} {pairs : List Pair} → Sides G pairs → (k : ℕ) → k ≤ length pairs → Sides G (take k pairs)
first_sides {pairs = pairs} sides k h p m = sides p (first_in_whole pairs k p h m)

module _ {t list class work class_apart : List ℕ} {k : ℕ} (s : Standing t list class work) (inside : k ≤ length (pairs_of list))
    (apart_row : class_apart ≡ apart (graph_of t) ++ drop (length t) class) (long : length class_apart ≡ length class) where
  pub first_joinable : Joinable t [] (take (2 * k) list) class_apart (length work)
  first_joinable =
      record {
        passed = s.ready.passed;
        class_room = omega (arith, s.ready.class_enough, long);
        work_enough = omega (arith, s.ready.work_enough);
        earlier_sides = λ p m. absurd (Memᴰ.not-nil m);
        class_table = apart_front t class_apart (drop (length t) class) s.ready.passed.well_formed apart_row;
        no_clash = no_pairs_no_clash s.ready.passed.well_formed;
        sides = subst (Sides (graph_of t)) (sym (pairs_of-take list k)) (first_sides s.ready.sides k inside);
        numbered = omega (arith, s.ready.few, length-take (2 * k) list);
      }

  module _ {answer : Result (Unit {0}) PairNumber} {class_after work_after : List ℕ} (joined : JoinOf t (take (2 * k) list) class_apart work answer class_after work_after) (long_after : length class_after ≡ length class_apart) where
    work_kept : work_after ≡ work
    work_kept = joined.cleared ∙ s.clean

    apart_behind : drop (length t) class_apart ≡ drop (length t) class
    apart_behind = ap (drop (length t)) apart_row ∙ behind_stays (apart (graph_of t)) class (length t) (length t) (apart_long t) (omega arith)

    lent_by : drop (length t) class_after ≡ drop (length t) class_apart → OnlyClassFront t class work class_after work_after
    lent_by e = record { class_long = long_after ∙ long; class_behind = e ∙ apart_behind; work_same = work_kept }

    pub joins_first : JoinsFirst t list class work k answer class_after work_after
    joins_first = go answer (joined.outcome [] first_joinable)
      where
        go : (a : Result (Unit {0}) PairNumber) → ByOutcome t [] (take (2 * k) list) class_apart a class_after → JoinsFirst t list class work k a class_after work_after
        go (Ok done) o =
            record {
              lent = lent_by o.behind;
              joined =
                  all_joined (record {
                    class_table = subst (λ (p : List Pair). ClassTable (graph_of t) p (take (length t) class_after)) (pairs_of-take list k) o.class_table;
                    no_clash = subst (λ (p : List Pair). Clash (graph_of t) p → ⊥) (pairs_of-take list k) o.no_clash;
                  });
            }
        go (Err at) o =
            let below : o.place < k = omega (arith, o.inside, ap length (pairs_of-take list k), length-take-le k (pairs_of list) inside) in
            record {
              lent = lent_by (ap (drop (length t)) o.cleared ∙ behind_cleared class_apart (length t) (length t) (omega arith));
              joined =
                  clash_at o.place o.numbers below
                  (subst (Clash (graph_of t)) (ap (take (o.place + 1)) (pairs_of-take list k) ∙ take-take (o.place + 1) k (pairs_of list) (omega arith)) o.clash)
                  (subst (λ (p : List Pair). Clash (graph_of t) p → ⊥) (ap (take o.place) (pairs_of-take list k) ∙ take-take o.place k (pairs_of list) (omega arith)) o.none_before);
            }

-- ---- no clash among them

pub all_partitioned : {t list class : List ℕ} {k : ℕ} {answer : Result (Unit {0}) PairNumber} → FirstJoined t list class k answer → (Clash (graph_of t) (take k (pairs_of list)) → ⊥) → Partitioned t list class k
all_partitioned (all_joined p) none_there = p
all_partitioned {t} {list} {class} {k} (clash_at i e h clash before) none_there =
    absurd (none_there (clash_grows (first_pairs_grow (i + 1) k (pairs_of list) (omega arith)) clash))

-- so joining them has no error
pub all_there : {t list class : List ℕ} {k : ℕ} {answer : Result (Unit {0}) PairNumber} → FirstJoined t list class k answer → (Clash (graph_of t) (take k (pairs_of list)) → ⊥) → IsOk answer
all_there (all_joined p) none_there = refl
all_there {list = list} {k = k} (clash_at i e h clash before) none_there =
    absurd (none_there (clash_grows (first_pairs_grow (i + 1) k (pairs_of list) (omega arith)) clash))

-- ---- up to the first clash

-- no pair clashes
pub until_end : {t list class work class_after work_after : List ℕ} {k : ℕ} {answer : Result (Unit {0}) PairNumber} {done : Unit {0}} → k ≡ length (pairs_of list)
    → JoinsFirst t list class work k answer class_after work_after → answer ≡ Ok done → UntilClash t list class work answer class_after work_after
until_end {t} {list} {class} {work} {class_after} {work_after} {k} {answer} {done} h j e =
    let p : Partitioned t list class_after (length (pairs_of list)) = subst (Partitioned t list class_after) h (go j.joined e) in
    subst (λ (a : Result (Unit {0}) PairNumber). UntilClash t list class work a class_after work_after) (sym e)
    (record { lent = j.lent; inside = omega arith; partitioned = p; next = λ at q. never (cc) })
  where
    go : {answer : Result (Unit {0}) PairNumber} {class_after : List ℕ} → FirstJoined t list class_after k answer → answer ≡ Ok done → Partitioned t list class_after k
    go (all_joined p) q = p
    go (clash_at i f l c b) q = never (cc)

-- the place of the clash, where there is one
pub record ClashPlace (t list : List ℕ) (at : PairNumber) (k : ℕ) : Type 0 where
  pub place : ℕ
  pub numbers : at.0 ≡ place + 1
  pub inside : place < k
  pub clash : Clash (graph_of t) (take (place + 1) (pairs_of list))
  pub none_before : Clash (graph_of t) (take place (pairs_of list)) → ⊥

pub clash_place : {t list class_after : List ℕ} {k : ℕ} {at : PairNumber} → FirstJoined t list class_after k (Err at) → ClashPlace t list at k
clash_place (clash_at i e h clash before) = record { place = i; numbers = e; inside = h; clash = clash; none_before = before }

module _ {t list class work class_mid work_mid : List ℕ} {at : PairNumber} {k : ℕ} (few : k ≤ length (pairs_of list)) (j : JoinsFirst t list class work k (Err at) class_mid work_mid) where
  abbrev clash_there : ClashPlace t list at k
  clash_there = clash_place j.joined

  -- the pairs before the clash
  pub before_clash : (1 ≤ at.0) × (at.0 - 1 ≤ length (pairs_of list)) × (Clash (graph_of t) (take (at.0 - 1) (pairs_of list)) → ⊥)
  before_clash = (
    omega (arith, clash_there.numbers),
    omega (arith, clash_there.numbers, clash_there.inside),
    subst (λ (i : ℕ). Clash (graph_of t) (take i (pairs_of list)) → ⊥) (let e : clash_there.place ≡ at.0 - 1 = omega (arith, clash_there.numbers) in e) clash_there.none_before,
  )

  -- they are joined afresh
  pub until_clash : {class_after work_after : List ℕ} {again : Result (Unit {0}) PairNumber} → JoinsFirst t list class_mid work_mid (at.0 - 1) again class_after work_after
      → UntilClash t list class work (Err at) class_after work_after
  until_clash l =
      record {
        lent = lent_join j.lent l.lent;
        inside = before_clash.1;
        partitioned = all_partitioned l.joined before_clash.2;
        next = λ b e.
            let same : at ≡ b = cc in
            subst (ClashesAt t list) same
            (record {
              from_1 = before_clash.0;
              within = omega (arith, clash_there.numbers, clash_there.inside);
              clash = subst (λ (i : ℕ). Clash (graph_of t) (take i (pairs_of list))) (sym clash_there.numbers) clash_there.clash;
            });
      }
