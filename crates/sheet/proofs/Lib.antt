-- The theorems are stated in Theorems and WrongMatchers; the other files prove them.
pub mod Theorems
pub mod WrongMatchers
pub mod Certified
pub mod Laws
