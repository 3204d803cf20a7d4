-- What the steps of a join promise each other: the class row as a forest (Forest), one meeting (Meeting), pair after pair
-- (Lists). Nobody else need read it.
pub mod Forest
pub mod Meeting
pub mod Lists
