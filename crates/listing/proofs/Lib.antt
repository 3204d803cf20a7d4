-- PutLaws: lines put into a row one after the other. JobLaws: a job taken out of its file, matched and told. PartLaws: the
-- parts by the reader's answer. Theorems: the parts are the listing, and a file has one.
pub mod JobLaws
pub mod PartLaws
pub mod PutLaws
pub mod Theorems
