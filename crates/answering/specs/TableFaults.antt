-- The numbers of a table's faults, from document 01's table of numbers. Assumes nothing.
use Rattle.std.specs.Prelude.{ℕ}
use Rattle.answering.specs.declared.fault.TableFault.{TableFault}
use Rattle.answering.specs.declared.fault.TableFault.TheVariants.{Size, Room, Word, Layout, Pointer, Name, Loop}

abbrev pub number_of : TableFault → ℕ
number_of Size = 1
number_of Room = 2
number_of (Word a) = 3
number_of (Layout a) = 4
number_of (Pointer a) = 5
number_of (Name a) = 6
number_of Loop = 7

abbrev pub place_of : TableFault → ℕ
place_of Size = 0
place_of Room = 0
place_of (Word a) = a.0
place_of (Layout a) = a.0
place_of (Pointer a) = a.0
place_of (Name a) = a.0
place_of Loop = 0
