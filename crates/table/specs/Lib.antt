-- What a reader must believe: the table and its graph, the row of items, document 01's table of numbers, what a check gives, and
-- when two tables differ in the labels of variables alone.
pub mod Table
pub mod Heads
pub mod Layout
pub mod Faults
pub mod Readable
pub mod Relabelled
