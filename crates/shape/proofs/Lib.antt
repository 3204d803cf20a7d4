-- Laws of the three scans.
pub mod LayoutLaws
pub mod Search
pub mod WordLaws
