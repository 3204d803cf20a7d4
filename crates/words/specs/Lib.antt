pub mod Head
pub mod Limits
pub mod Meeting
pub mod Word
