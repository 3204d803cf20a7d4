-- Listing: the listing of a file, and the parts that it is written in. Steps has what the crate's own steps promise each other.
pub mod Listing
pub mod Parts
pub mod Steps
