-- Demands is what the inspector reads, a file for each demand; the other files prove what it cites.
pub mod Demands
pub mod Buffers
pub mod Lengths
pub mod Room
pub mod OldContents
pub mod Packing
pub mod Entries
pub mod HostMatch
pub mod Labels
pub mod ThereAndBack
pub mod TwoJobs
