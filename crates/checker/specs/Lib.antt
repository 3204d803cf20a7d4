-- What a reader must believe of the table check (Check). Steps has what its private steps promise each other.
pub mod Check
pub mod Steps
