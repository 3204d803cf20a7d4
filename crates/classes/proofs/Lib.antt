-- Laws of the forest, of meetings and of class tables.
pub mod ClassTables
pub mod Climbs
pub mod CountedJoins
pub mod Counts
pub mod Down
pub mod Flat
pub mod Heads
pub mod InOrder
pub mod Linked
pub mod Links
pub mod Moves
pub mod OneByOne
pub mod OneJoin
pub mod Outcomes
pub mod OwnClasses
pub mod Shortened
pub mod Symbols
