-- Again: what the program writes. Steps has what the crate's own steps promise each other.
pub mod Again
pub mod Steps
