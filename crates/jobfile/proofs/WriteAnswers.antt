-- The writer's answers, from its tests. In order: a row of sizes that is not refused (`Allowed`); each refusal
-- (`write_contents`, `write_body`, `write_file`, `write_room`); the file (`write_all`); what is not refused
-- (`written_writable`); one answer (`write_once`, `write_only`, `writable_written`). Assumes nothing.
use mathlib.Core.Path.{◌≡◌, refl, sym, ap, ap₂, ◌∙◌}
use mathlib.Core.Bool.{cond}
use mathlib.Core.Logic.{◌⊎◌, inl, inr}
use mathlib.Core.List.{List, ◌++◌}
use Rattle.std.specs.Prelude.{Ok, Err}
use Prim.Native.Nat.{ℕ, ◌+◌, ◌%◌, ◌≤◌, ◌<◌}
use native.Mathlib.Decide.{dec_le, ℕ_discrete}
use native.Mathlib.Omega.{arith}
use lib.Dec.{eqb}
use lib.ListN.{length, take, drop}
use lib.Seq.{take_at}
use Rattle.rows.specs.Placed.{placed}
use Rattle.rows.proofs.Laws.{behind_stays}
use Rattle.words.specs.Limits.{most_bytes, most_jobs}
use Rattle.answering.proofs.Orders.{answered_alike, answered_only, passed_none}
use Rattle.jobfile.specs.File.{contents_end, job_count, bodies_size, file_of}
use Rattle.jobfile.specs.Faults.{FileRow, CONTENTS, BODY, FILE, ROOM, file_number, WriteFault, contents_refused, body_refused, file_refused, room_refused, write_order}
use Rattle.jobfile.specs.Writer.{WriteAnswer, number_of, place_of, room_written, WriteOf}
use Rattle.jobfile.specs.Steps.Writing.{front_of, Fitted}
use Rattle.jobfile.specs.declared.answers.WriteFault.TheVariants.{Contents, Body, File, Room}
use Rattle.jobfile.proofs.FileLaws.{length-file_of}
use Rattle.jobfile.proofs.WriterLaws.{length-front_of}
use Rattle.jobfile.proofs.Written.{Writable}

-- sizes that 13 does not refuse
pub record Allowed (sizes : List ℕ) : Type 0 where
  pub even : length sizes % 2 ≡ 0
  pub some_job : 0 < job_count sizes
  pub few_jobs : job_count sizes ≤ most_jobs

module _ (sizes bodies room : List ℕ) where
  no_contents : Allowed sizes → (p : ℕ) → WriteFault sizes bodies room CONTENTS p → ⊥
  no_contents ok p (contents_refused (inl odd)) = omega (arith, ok.even)
  no_contents ok p (contents_refused (inr (inl none_there))) = omega (arith, ok.some_job)
  no_contents ok p (contents_refused (inr (inr many))) = omega (arith, ok.few_jobs)

  no_body : length bodies ≡ bodies_size sizes → (p : ℕ) → WriteFault sizes bodies room BODY p → ⊥
  no_body e p (body_refused other) = other e

  no_file : length (file_of sizes bodies) ≤ most_bytes → (p : ℕ) → WriteFault sizes bodies room FILE p → ⊥
  no_file h p (file_refused over) = omega arith

  no_room : length (file_of sizes bodies) ≤ length room → (p : ℕ) → WriteFault sizes bodies room ROOM p → ⊥
  no_room h p (room_refused short) = omega arith

  pub write_contents : (length sizes % 2 ≡ 1) ⊎ ((job_count sizes ≡ 0) ⊎ (most_jobs < job_count sizes)) → WriteOf sizes bodies room (Err Contents) room
  unfolding file_number room_written
  write_contents why = record { answered = inl (refl, contents_refused why); room_left = refl }

  pub write_body : Allowed sizes → (length bodies ≡ bodies_size sizes → ⊥) → WriteOf sizes bodies room (Err Body) room
  unfolding file_number room_written
  write_body ok other = record { answered = inr (no_contents ok, inl (refl, body_refused other)); room_left = refl }

  module _ (ok : Allowed sizes) (sum : length bodies ≡ bodies_size sizes) where
    file_size : length (file_of sizes bodies) ≡ contents_end (job_count sizes) + length bodies
    file_size = length-file_of sizes bodies ok.even

    pub write_file : most_bytes < contents_end (job_count sizes) + length bodies → WriteOf sizes bodies room (Err File) room
    unfolding file_number room_written
    write_file over = record { answered = inr (no_contents ok, inr (no_body sum, inl (refl, file_refused (omega (arith, file_size))))); room_left = refl }

    module _ (within : contents_end (job_count sizes) + length bodies ≤ most_bytes) where
      pub write_room : length room < contents_end (job_count sizes) + length bodies → WriteOf sizes bodies room (Err Room) room
      unfolding file_number room_written
      write_room short =
          record {
            answered = inr (no_contents ok, inr (no_body sum, inr (no_file (omega (arith, file_size)), inl (refl, room_refused (omega (arith, file_size))))));
            room_left = refl;
          }

      module _ (enough : contents_end (job_count sizes) + length bodies ≤ length room) where
        pub fitted : Fitted sizes room
        fitted = record { even = omega (arith, ok.even); short = omega arith; enough = omega arith }

        -- the contents, and behind them the bodies, are the file
        pub write_all : {between after : List ℕ} → between ≡ front_of sizes ++ drop (length (front_of sizes)) room → after ≡ placed (contents_end (job_count sizes)) bodies between
            → WriteOf sizes bodies room (Ok tt) after
        unfolding room_written placed file_of
        write_all {between} {after} first second =
            let start : ℕ = contents_end (job_count sizes) in
            let front : length (front_of sizes) ≡ start = length-front_of sizes fitted.even in
            let first' : between ≡ front_of sizes ++ drop start room = first ∙ ap (λ (i : ℕ). front_of sizes ++ drop i room) front in
            let before : take start between ≡ front_of sizes = ap (take start) first' ∙ take_at (front_of sizes) (drop start room) start front in
            let behind : drop (start + length bodies) between ≡ drop (start + length bodies) room =
            ap (drop (start + length bodies)) first' ∙ behind_stays (front_of sizes) room start (start + length bodies) front (omega arith) in
            record {
              answered = inr (no_contents ok, inr (no_body sum, inr (no_file (omega (arith, file_size)), inr (no_room (omega (arith, file_size)), (refl, refl)))));
              room_left =
                  second
                  ∙ ap₂ (λ (f g : List ℕ). f ++ bodies ++ g) before behind
                  ∙ ap (λ (i : ℕ). front_of sizes ++ bodies ++ drop i room) (sym file_size);
            }

-- ---- what is not refused

-- what the writer writes, no row refuses
pub written_writable : {sizes bodies room after : List ℕ} → WriteOf sizes bodies room (Ok tt) after → Writable sizes bodies
unfolding file_number
written_writable {sizes} {bodies} {room} w =
    let rows = (passed_none file_number (WriteFault sizes bodies room) write_order 0 0 refl refl w.answered).0 in
    put
    (allowed (ℕ_discrete (length sizes % 2) 1) (dec_le 1 (job_count sizes)) (dec_le (job_count sizes) most_jobs) rows.0)
    (ℕ_discrete (length bodies) (bodies_size sizes))
    (dec_le (length (file_of sizes bodies)) most_bytes)
    rows.1.0
    rows.1.1.0
  where
    put : Allowed sizes → Dec (length bodies ≡ bodies_size sizes) → Dec (length (file_of sizes bodies) ≤ most_bytes)
        → ((p : ℕ) → WriteFault sizes bodies room BODY p → ⊥) → ((p : ℕ) → WriteFault sizes bodies room FILE p → ⊥) → Writable sizes bodies
    put ok (yes e) (yes h) b f = record { even = ok.even; some_job = ok.some_job; few_jobs = ok.few_jobs; sum = e; short = h }
    put ok (yes e) (no h) b f = absurd (f 0 (file_refused (omega arith)))
    put ok (no other) d b f = absurd (b 0 (body_refused other))

    allowed : Dec (length sizes % 2 ≡ 1) → Dec (1 ≤ job_count sizes) → Dec (job_count sizes ≤ most_jobs) → ((p : ℕ) → WriteFault sizes bodies room CONTENTS p → ⊥) → Allowed sizes
    allowed (no even) (yes l) (yes m) c = record { even = omega arith; some_job = l; few_jobs = m }
    allowed (no even) (yes l) (no m) c = absurd (c 0 (contents_refused (inr (inr (omega arith)))))
    allowed (no even) (no l) d c = absurd (c 0 (contents_refused (inr (inl (omega arith)))))
    allowed (yes odd) d e c = absurd (c 0 (contents_refused (inl odd)))

-- ---- one answer

pub write_once : {sizes bodies room : List ℕ} (row : FileRow) (p q : ℕ) → WriteFault sizes bodies room row p → WriteFault sizes bodies room row q → p ≡ q
write_once row p q (contents_refused a) (contents_refused b) = refl
write_once row p q (body_refused a) (body_refused b) = refl
write_once row p q (file_refused a) (file_refused b) = refl
write_once row p q (room_refused a) (room_refused b) = refl

-- the answer that has a number
answer_with : ℕ → WriteAnswer
answer_with n =
    cond (eqb n 0) (Ok tt)
    (cond (eqb n 13) (Err Contents)
    (cond (eqb n 14) (Err Body)
    (cond (eqb n 12) (Err File)
    (Err Room))))

answer_by_number : (r : WriteAnswer) → answer_with (number_of r) ≡ r
unfolding answer_with
answer_by_number (Ok written) = refl
answer_by_number (Err Contents) = refl
answer_by_number (Err Body) = refl
answer_by_number (Err File) = refl
answer_by_number (Err Room) = refl

-- What the room held before does not count: rooms of one length have one answer.
room_alike : {sizes bodies room other : List ℕ} → length room ≡ length other → (row : FileRow) (p : ℕ) → WriteFault sizes bodies room row p → WriteFault sizes bodies other row p
room_alike e row p (contents_refused x) = contents_refused x
room_alike e row p (body_refused x) = body_refused x
room_alike e row p (file_refused x) = file_refused x
room_alike e row p (room_refused x) = room_refused (omega (arith, e, x))

pub write_answer_only : {sizes bodies room other : List ℕ} {r s : WriteAnswer} {room₁ room₂ : List ℕ} → length room ≡ length other → WriteOf sizes bodies room r room₁
    → WriteOf sizes bodies other s room₂ → r ≡ s
write_answer_only {sizes} {bodies} {room} {other} {r} {s} long a b =
    let same : (number_of r ≡ number_of s) × (place_of r ≡ place_of s) =
    answered_only file_number (WriteFault sizes bodies room) write_once write_order (number_of r) (place_of r) (number_of s) (place_of s) a.answered
    (answered_alike file_number (room_alike (sym long)) (room_alike long) write_order (number_of s) (place_of s) b.answered) in
    sym (answer_by_number r) ∙ ap answer_with same.0 ∙ answer_by_number s

-- Two results that the writer's contract allows are equal.
pub write_only : {sizes bodies room : List ℕ} {r s : WriteAnswer} {room₁ room₂ : List ℕ} → WriteOf sizes bodies room r room₁ → WriteOf sizes bodies room s room₂
    → (r ≡ s) × (room₁ ≡ room₂)
write_only {sizes} {bodies} {room} {r} {s} a b =
    let e : r ≡ s = write_answer_only refl a b in
    (e, a.room_left ∙ ap (λ (q : WriteAnswer). room_written q (file_of sizes bodies) room) e ∙ sym b.room_left)

-- What no row refuses, the writer writes, where there is room.
pub writable_written : {sizes bodies room : List ℕ} {r : WriteAnswer} {after : List ℕ} → Writable sizes bodies → length (file_of sizes bodies) ≤ length room
    → WriteOf sizes bodies room r after → (r ≡ Ok tt) × (after ≡ file_of sizes bodies ++ drop (length (file_of sizes bodies)) room)
unfolding room_written
writable_written {sizes} {bodies} {room} {r} w enough given =
    let ok : Allowed sizes = record { even = w.even; some_job = w.some_job; few_jobs = w.few_jobs } in
    let size : length (file_of sizes bodies) ≡ contents_end (job_count sizes) + length bodies = length-file_of sizes bodies w.even in
    let e : r ≡ Ok tt = (write_only given (write_all sizes bodies room ok w.sum (omega (arith, w.short)) (omega arith) refl refl)).0 in
    (e, given.room_left ∙ ap (λ (q : WriteAnswer). room_written q (file_of sizes bodies) room) e)
