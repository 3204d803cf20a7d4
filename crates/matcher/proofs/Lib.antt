-- The demands on a match are proved in Demands, and that its contract allows one result in OneMatch; the others are the laws that
-- its stages cite.
pub mod Demands
pub mod OneMatch
pub mod Verdicts
pub mod CycleSearch
pub mod ListLaws
pub mod FirstPairs
pub mod Halving
pub mod Whole
