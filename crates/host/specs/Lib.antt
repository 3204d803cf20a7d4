-- What the host call promises (Host), and the call that reads a file's sizes (Sizes); an answer's numbers as one (AsOne). Steps
-- has what the private steps promise each other.
pub mod AsOne
pub mod Host
pub mod Sizes
pub mod Steps
