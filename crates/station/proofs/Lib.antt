-- The entries' contracts allow one result each.
pub mod Theorems
