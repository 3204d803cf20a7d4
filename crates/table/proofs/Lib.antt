-- Laws of a table: what the leaves read, the pairs of a list, its layout, what holds of one that can be read, its graph, which the
-- labels of variables are not in, and that the rows allow one answer.
pub mod Leaves
pub mod Pairs
pub mod Blocks
pub mod RowOfItems
pub mod Children
pub mod Readable
pub mod PassedCheck
pub mod Relabelled
pub mod OneAnswer
