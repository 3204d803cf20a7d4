-- What the crate's own steps promise each other; nobody else need read it.
pub mod Choice
pub mod Copied
pub mod Rows
