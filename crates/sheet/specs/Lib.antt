-- The sheet as data, and what it says; what a matcher is, and when one meets the contract.
pub mod Sheet
pub mod Matcher
