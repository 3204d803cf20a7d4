-- A table's fault is known by its number and its place, and its number is from 1 to 7: `known`. Assumes nothing.
use mathlib.Core.Path.{◌≡◌, refl}
use mathlib.Core.List.{[], ◌∷◌}
use Prim.Native.Nat.{ℕ, ◌≤◌, ◌<◌}
use native.Mathlib.Omega.{arith}
use lib.ListN.{get_or}
use Rattle.answering.specs.declared.fault.TableFault.{TableFault}
use Rattle.answering.specs.declared.fault.TableFault.TheVariants.{Size, Room, Word, Layout, Pointer, Name, Loop}
use Rattle.answering.specs.TableFaults.{number_of, place_of}

-- the fault that has a number and a place; no fault has number 0
pub fault_with : ℕ → ℕ → TableFault
fault_with n p =
    get_or (Size ∷ Size ∷ Room ∷ Word (record { 0 = p }) ∷ Layout (record { 0 = p }) ∷ Pointer (record { 0 = p }) ∷ Name (record { 0 = p }) ∷ []) n Loop

pub known : (fault : TableFault) → (fault_with (number_of fault) (place_of fault) ≡ fault) × (0 < number_of fault) × (number_of fault ≤ 7)
unfolding fault_with
known Size = (refl, omega arith, omega arith)
known Room = (refl, omega arith, omega arith)
known (Word a) = (refl, omega arith, omega arith)
known (Layout a) = (refl, omega arith, omega arith)
known (Pointer a) = (refl, omega arith, omega arith)
known (Name a) = (refl, omega arith, omega arith)
known Loop = (refl, omega arith, omega arith)
