-- Match is what a match promises, and Demands has the words of the demands on it. Steps has what its private steps promise
-- each other.
pub mod Match
pub mod Demands
pub mod Steps
