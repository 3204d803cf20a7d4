-- The laws that the stages of the host call cite. That its contract allows one result is in crate station: proofs/Theorems.antt.
pub mod ReportLaws
pub mod ChoiceLaws
pub mod CutLaws
pub mod JobLaws
pub mod SizesLaws
