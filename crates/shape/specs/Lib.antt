-- Nothing here need be believed of this crate: its contracts speak in the words of the crates below. Steps has what its private steps
-- promise each other.
pub mod Steps
