-- Laws of the scans, the stages of the check, and the whole.
pub mod ChainLaws
pub mod CheckLaws
pub mod LoopLaws
pub mod NameLaws
pub mod OneCheck
pub mod SoundLaws
pub mod Stages
pub mod WalkLaws
