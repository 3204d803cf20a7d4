-- What a reader must believe of the search for cycles (Digraph). Steps has what its private steps promise each other.
pub mod Digraph
pub mod Steps
