-- What a job file is, by bytes (Numbers, File) and by jobs (Jobs, with what is copied out of one); which job has a number (Found);
-- which faults a file can have (Faults); what the reader and the writer promise (Reader, Writer). Steps has what the private steps
-- promise each other.
pub mod Faults
pub mod File
pub mod Found
pub mod Jobs
pub mod Numbers
pub mod Reader
pub mod Steps
pub mod Writer
