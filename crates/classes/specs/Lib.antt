-- What a reader must believe of a join (Joining) and of the count of joins (Counting). Steps has what the private steps of a
-- join promise each other.
pub mod Steps
pub mod Joining
pub mod Counting
