-- Laws of the lowest and the first, of ordered rows, of a table's faults, and of what an answer leaves.
pub mod LowestLaws
pub mod Orders
pub mod FaultLaws
pub mod BufferLaws
