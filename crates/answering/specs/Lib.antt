-- What a reader must believe of answers: how one is picked, that a result answers 0 unless it is refused, the numbers of a table's
-- faults, and what an answer leaves in a row.
pub mod Answers
pub mod Refused
pub mod TableFaults
pub mod Buffers
