-- A list that is cut off past 512 entries. The rows 1 to 7 do not look at the list, and 8 applies to every list of over 512
-- entries, so one such list is answered as any other: `long_lists`. Assumes nothing.
use mathlib.Core.Path.{◌≡◌, refl}
use mathlib.Core.Logic.{◌⊎◌, inl, inr}
use mathlib.Core.List.{List, ◌++◌}
use Prim.Native.Nat.{ℕ, ◌<◌}
use lib.ListN.{length}
use Rattle.words.specs.Limits.{most_entries}
use Rattle.answering.specs.Answers.{Answered, NoneOf}
use Rattle.answering.proofs.Orders.{refused_first, none_first, answered_parts}
use Rattle.table.specs.Faults.{sent, number, Fault, list_fault, check_order, list_rows, pair_rows, match_order}
use Rattle.table.proofs.OneAnswer.{check_off_list, none_off_list}

module _ (t list other : List ℕ) (c w : ℕ) (over : most_entries < length list) (too : most_entries < length other) where
  long_rows : (a p : ℕ) → ((a ≡ 0 → ⊥) × Answered number (Fault (sent t list c w)) check_order a p) ⊎ (NoneOf (Fault (sent t list c w)) check_order × Answered number (Fault (sent t list c w)) (list_rows ++ pair_rows) a p)
      → Answered number (Fault (sent t other c w)) match_order a p
  unfolding number
  long_rows a p (inl (refused, x)) = refused_first number (Fault (sent t other c w)) check_order (list_rows ++ pair_rows) a p refused (check_off_list t c w list other a p x)
  long_rows a p (inr (none_there, inl (e, list_fault x))) = none_first number (Fault (sent t other c w)) check_order (list_rows ++ pair_rows) a p (none_off_list t c w other list none_there) (inl (e, list_fault (inr too)))
  long_rows a p (inr (none_there, inr (none_applies, later))) = absurd (none_applies 0 (list_fault (inr over)))

  pub long_lists : (a p : ℕ) → Answered number (Fault (sent t list c w)) match_order a p → Answered number (Fault (sent t other c w)) match_order a p
  unfolding number
  long_lists a p x = long_rows a p (answered_parts number (Fault (sent t list c w)) check_order (list_rows ++ pair_rows) a p refl x)
