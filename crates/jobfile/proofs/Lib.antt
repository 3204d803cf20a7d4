-- Laws of the definitions (NumberLaws, FileLaws, JobLaws), of the reader (ReaderLaws, Yields), of the writer (WriterLaws,
-- WriteAnswers, Written) and of the copies out of a body (TakenLaws); and the whole (Theorems).
pub mod FileLaws
pub mod JobLaws
pub mod NumberLaws
pub mod ReaderLaws
pub mod TakenLaws
pub mod Theorems
pub mod WriteAnswers
pub mod WriterLaws
pub mod Written
pub mod Yields
