pub mod LittleEndian
pub mod Placed
