-- The laws of the search, from the bottom up. `Agree` is for other crates too.
mod Totals
mod Stores
mod Moves
mod Answers
mod Passing
mod Turns
mod GoingDown
mod ComingBack
mod Roots
pub mod Agree
