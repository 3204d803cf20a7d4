-- Laws of the job file's definitions.
--
-- In order:
--     sizes                  length-sizes_from, size_there, size_in, entry_in_sizes, sizes_end
--     lengths                length-contents_of, length-file_of
--     written, then read     ReadBack, read-back: entries that were written are read again
--     read, then written     contents_again
-- Assumes nothing.
use mathlib.Core.Path.{◌≡◌, refl, sym, ap, ◌∙◌}
use Prim.Native.Nat.{ℕ, zero, suc, ◌+◌, ◌*◌, ◌/◌, ◌%◌, ◌≤◌, ◌<◌}
use native.Mathlib.Decide.{dec_lt}
use native.Mathlib.Omega.{arith}
use mathlib.Core.List.{List, [], ◌∷◌, ◌++◌, append_assoc}
use lib.ListN.{length, drop, get_or, length-append}
use Rattle.rows.specs.LittleEndian.{bytes_of, number_at, AllBytes}
use Rattle.rows.proofs.Laws.{length-bytes_of}
use Rattle.jobfile.specs.File.{body_size, contents_end, count_in, offset_in, words_in, pairs_in, body_start, sizes_from, sizes_in, job_count, bodies_size, contents_of, file_of}
use Rattle.jobfile.proofs.NumberLaws.{number_there_lem, rest_there, bytes_there}

-- ---- sizes

pub length-sizes_from : (m k : ℕ) (bytes : List ℕ) → length (sizes_from m k bytes) ≡ 2 * m
unfolding sizes_from
length-sizes_from zero k bytes = refl
length-sizes_from (suc m) k bytes = omega (arith, length-sizes_from m (suc k) bytes)

-- size i stands in entry i / 2, at its second or its third number
pub size_there : (m k i : ℕ) (bytes : List ℕ) → i < 2 * m → get_or (sizes_from m k bytes) i 0 ≡ number_at 2 (2 + 6 * (k + i / 2) + 2 + 2 * (i % 2)) bytes
unfolding sizes_from
size_there zero k i bytes h = absurd (omega arith)
size_there (suc m) k zero bytes h =
    let way : 2 + 6 * k + 2 ≡ 2 + 6 * (k + 0 / 2) + 2 + 2 * (0 % 2) = omega arith in
    ap (λ (at : ℕ). number_at 2 at bytes) way
size_there (suc m) k (suc zero) bytes h =
    let way : 2 + 6 * k + 4 ≡ 2 + 6 * (k + 1 / 2) + 2 + 2 * (1 % 2) = omega arith in
    ap (λ (at : ℕ). number_at 2 at bytes) way
size_there (suc m) k (suc (suc i)) bytes h =
    let way : 2 + 6 * (suc k + i / 2) + 2 + 2 * (i % 2) ≡ 2 + 6 * (k + suc (suc i) / 2) + 2 + 2 * (suc (suc i) % 2) = omega arith in
    size_there m (suc k) i bytes (omega arith) ∙ ap (λ (at : ℕ). number_at 2 at bytes) way

pub size_in : (bytes : List ℕ) (i : ℕ) → i < 2 * count_in bytes → number_at 2 (2 + 6 * (i / 2) + 2 + 2 * (i % 2)) bytes ≡ get_or (sizes_in bytes) i 0
size_in bytes i h =
    let way : 2 + 6 * (i / 2) + 2 + 2 * (i % 2) ≡ 2 + 6 * (0 + i / 2) + 2 + 2 * (i % 2) = omega arith in
    ap (λ (at : ℕ). number_at 2 at bytes) way ∙ sym (size_there (count_in bytes) 0 i bytes h)

-- n and p of entry k, in the row of sizes
pub entry_in_sizes : (bytes : List ℕ) (k : ℕ) → k < count_in bytes → (get_or (sizes_in bytes) (2 * k) 0 ≡ words_in bytes k) × (get_or (sizes_in bytes) (2 * k + 1) 0 ≡ pairs_in bytes k)
entry_in_sizes bytes k h =
    let words : 2 + 6 * ((2 * k) / 2) + 2 + 2 * ((2 * k) % 2) ≡ 2 + 6 * k + 2 = omega arith in
    let pairs : 2 + 6 * ((2 * k + 1) / 2) + 2 + 2 * ((2 * k + 1) % 2) ≡ 2 + 6 * k + 4 = omega arith in (
      sym (size_in bytes (2 * k) (omega arith)) ∙ ap (λ (at : ℕ). number_at 2 at bytes) words,
      sym (size_in bytes (2 * k + 1) (omega arith)) ∙ ap (λ (at : ℕ). number_at 2 at bytes) pairs,
    )

-- the bodies of m entries end where the next body would start
pub sizes_end : (m k : ℕ) (bytes : List ℕ) → body_start bytes k + bodies_size (sizes_from m k bytes) ≡ body_start bytes (k + m)
unfolding sizes_from bodies_size body_start
sizes_end zero k bytes = let way : k ≡ k + 0 = omega arith in omega (arith, ap (body_start bytes) way)
sizes_end (suc m) k bytes =
    let way : suc k + m ≡ k + suc m = omega arith in
    omega (arith, sizes_end m (suc k) bytes, ap (body_start bytes) way)

-- the next body starts where this one ends
pub next_start : (bytes : List ℕ) (k : ℕ) {start n p : ℕ} → start ≡ body_start bytes k → words_in bytes k ≡ n → pairs_in bytes k ≡ p
    → start + body_size n p ≡ body_start bytes (suc k)
unfolding body_start
next_start bytes k b w q = omega arith

-- ---- lengths

pub length-contents_of : (m start : ℕ) (sizes : List ℕ) → length sizes ≡ 2 * m → length (contents_of start sizes) ≡ 6 * m
unfolding contents_of
length-contents_of zero start [] e = refl
length-contents_of zero start (n ∷ sizes) e = absurd (omega arith)
length-contents_of (suc m) start [] e = absurd (omega arith)
length-contents_of (suc m) start (n ∷ []) e = absurd (omega arith)
length-contents_of (suc m) start (n ∷ p ∷ sizes) e =
    simp (length-append, length-bytes_of) (omega (arith, length-contents_of m (start + body_size n p) sizes (omega arith)))

pub length-file_of : (sizes bodies : List ℕ) → length sizes % 2 ≡ 0 → length (file_of sizes bodies) ≡ contents_end (job_count sizes) + length bodies
unfolding file_of
length-file_of sizes bodies even =
    simp (length-append, length-bytes_of) (omega (arith, length-contents_of (job_count sizes) (contents_end (job_count sizes)) sizes (omega arith)))

-- ---- written, then read

-- From entry k on, bytes hold m entries that are those of sizes, with their bodies from start on, and then rest.
pub record ReadBack (bytes : List ℕ) (m k start : ℕ) (sizes rest : List ℕ) : Type 0 where
  pub same_sizes : sizes_from m k bytes ≡ sizes
  pub offsets : (j : ℕ) → k ≤ j → j < k + m → offset_in bytes j ≡ body_start bytes j
  pub after : drop (2 + 6 * (k + m)) bytes ≡ rest

module _ (bytes rest : List ℕ) where
  -- the three numbers of an entry that was written
  record EntryBack (k start n p : ℕ) (sizes : List ℕ) : Type 0 where
    offset : offset_in bytes k ≡ start
    words : words_in bytes k ≡ n
    pairs : pairs_in bytes k ≡ p
    next : drop (2 + 6 * suc k) bytes ≡ contents_of (start + body_size n p) sizes ++ rest

  entry_back : (k start n p : ℕ) (sizes : List ℕ) → drop (2 + 6 * k) bytes ≡ contents_of start (n ∷ p ∷ sizes) ++ rest → start < 65536 → n < 65536 → p < 65536
      → EntryBack k start n p sizes
  unfolding contents_of
  entry_back k start n p sizes here hs hn hp =
      let at : ℕ = 2 + 6 * k in
      let later : List ℕ = contents_of (start + body_size n p) sizes ++ rest in
      let first : drop at bytes ≡ bytes_of 2 start ++ (bytes_of 2 n ++ (bytes_of 2 p ++ later)) = here ∙ simp append_assoc in
      let second : drop (at + 2) bytes ≡ bytes_of 2 n ++ (bytes_of 2 p ++ later) = rest_there 2 start at bytes (bytes_of 2 n ++ (bytes_of 2 p ++ later)) first in
      let third' : drop (at + 2 + 2) bytes ≡ bytes_of 2 p ++ later = rest_there 2 n (at + 2) bytes (bytes_of 2 p ++ later) second in
      let way : at + 2 + 2 ≡ at + 4 = omega arith in
      let third : drop (at + 4) bytes ≡ bytes_of 2 p ++ later = ap (λ (i : ℕ). drop i bytes) (sym way) ∙ third' in
      let fourth : drop (at + 4 + 2) bytes ≡ later = rest_there 2 p (at + 4) bytes later third in
      let end : 2 + 6 * suc k ≡ at + 4 + 2 = omega arith in
      record {
        offset = number_there_lem 2 start at bytes (bytes_of 2 n ++ (bytes_of 2 p ++ later)) first hs;
        words = number_there_lem 2 n (at + 2) bytes (bytes_of 2 p ++ later) second hn;
        pairs = number_there_lem 2 p (at + 4) bytes later third hp;
        next = ap (λ (i : ℕ). drop i bytes) end ∙ fourth;
      }

  pub read_back : (m k start : ℕ) (sizes : List ℕ) → length sizes ≡ 2 * m → start + bodies_size sizes < 65536 → start ≡ body_start bytes k
      → drop (2 + 6 * k) bytes ≡ contents_of start sizes ++ rest → ReadBack bytes m k start sizes rest
  unfolding contents_of sizes_from bodies_size
  read_back zero k start [] e small begins here =
      let way : 2 + 6 * (k + 0) ≡ 2 + 6 * k = omega arith in
      record { same_sizes = refl; offsets = λ j l h. absurd (omega arith); after = ap (λ (i : ℕ). drop i bytes) way ∙ here }
  read_back zero k start (n ∷ sizes) e small begins here = absurd (omega arith)
  read_back (suc m) k start [] e small begins here = absurd (omega arith)
  read_back (suc m) k start (n ∷ []) e small begins here = absurd (omega arith)
  read_back (suc m) k start (n ∷ p ∷ sizes) e small begins here =
      let entry : EntryBack k start n p sizes = entry_back k start n p sizes here (omega arith) (omega arith) (omega arith) in
      let starts : start + body_size n p ≡ body_start bytes (suc k) = next_start bytes k begins entry.words entry.pairs in
      let later : ReadBack bytes m (suc k) (start + body_size n p) sizes rest =
      read_back m (suc k) (start + body_size n p) sizes (omega arith) (omega arith) starts entry.next in
      let way : 2 + 6 * (k + suc m) ≡ 2 + 6 * (suc k + m) = omega arith in
      record {
        same_sizes = rw (entry.words, entry.pairs, later.same_sizes);
        offsets = λ j l h. go (entry.offset ∙ begins) later.offsets j l h (dec_lt k j);
        after = ap (λ (i : ℕ). drop i bytes) way ∙ later.after;
      }
    where
      go : offset_in bytes k ≡ body_start bytes k → ((j : ℕ) → suc k ≤ j → j < suc k + m → offset_in bytes j ≡ body_start bytes j)
          → (j : ℕ) → k ≤ j → j < k + suc m → Dec (k < j) → offset_in bytes j ≡ body_start bytes j
      go here_right later_right j l h (yes lt) = later_right j (omega arith) (omega arith)
      go here_right later_right j l h (no ge) = let same : k ≡ j = omega arith in ap (offset_in bytes) (sym same) ∙ here_right ∙ ap (body_start bytes) same

-- ---- read, then written

-- m entries from entry k on, whose offsets are right, are what the writer makes of their sizes
pub contents_again : (m k : ℕ) (bytes : List ℕ) → AllBytes bytes → 2 + 6 * (k + m) ≤ length bytes
    → ((j : ℕ) → k ≤ j → j < k + m → offset_in bytes j ≡ body_start bytes j)
    → contents_of (body_start bytes k) (sizes_from m k bytes) ++ drop (2 + 6 * (k + m)) bytes ≡ drop (2 + 6 * k) bytes
unfolding contents_of sizes_from
contents_again zero k bytes all inside right = let way : 2 + 6 * (k + 0) ≡ 2 + 6 * k = omega arith in ap (λ (i : ℕ). drop i bytes) way
contents_again (suc m) k bytes all inside right =
    let at : ℕ = 2 + 6 * k in
    let offset : bytes_of 2 (body_start bytes k) ++ drop (at + 2) bytes ≡ drop at bytes =
    ap (λ (x : ℕ). bytes_of 2 x ++ drop (at + 2) bytes) (sym (right k (omega arith) (omega arith))) ∙ bytes_there 2 at bytes all (omega arith) in
    let two : at + 2 + 2 ≡ at + 4 = omega arith in
    let words : bytes_of 2 (words_in bytes k) ++ drop (at + 4) bytes ≡ drop (at + 2) bytes =
    ap (λ (i : ℕ). bytes_of 2 (words_in bytes k) ++ drop i bytes) (sym two) ∙ bytes_there 2 (at + 2) bytes all (omega arith) in
    let end : at + 4 + 2 ≡ 2 + 6 * suc k = omega arith in
    let pairs : bytes_of 2 (pairs_in bytes k) ++ drop (2 + 6 * suc k) bytes ≡ drop (at + 4) bytes =
    ap (λ (i : ℕ). bytes_of 2 (pairs_in bytes k) ++ drop i bytes) (sym end) ∙ bytes_there 2 (at + 4) bytes all (omega arith) in
    let way : 2 + 6 * (k + suc m) ≡ 2 + 6 * (suc k + m) = omega arith in
    let later : contents_of (body_start bytes (suc k)) (sizes_from m (suc k) bytes) ++ drop (2 + 6 * (k + suc m)) bytes ≡ drop (2 + 6 * suc k) bytes =
    ap (λ (i : ℕ). contents_of (body_start bytes (suc k)) (sizes_from m (suc k) bytes) ++ drop i bytes) way
    ∙ contents_again m (suc k) bytes all (omega arith) (λ j l h. right j (omega arith) (omega arith)) in
    let start : body_start bytes k + body_size (words_in bytes k) (pairs_in bytes k) ≡ body_start bytes (suc k) = next_start bytes k refl refl refl in
    simp append_assoc (rw (start, later, pairs, words) offset)
