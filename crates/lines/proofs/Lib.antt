-- Decimals: the digits of a number, and the number back from them. LineLaws: one part of a line after another.
-- InputLaws: one read after another.
pub mod Decimals
pub mod LineLaws
pub mod InputLaws
