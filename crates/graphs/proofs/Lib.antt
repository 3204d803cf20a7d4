-- The theorems are stated in Theorems; the other files prove them.
pub mod Theorems
pub mod Finite
pub mod Classes
pub mod Trees
pub mod Counts
pub mod Unifiers
pub mod Replay
pub mod Certificates
pub mod Existence
