-- What a reader must believe: the term graph, the partition, terms and their replacement, and the log of joins.
pub mod Graph
pub mod Partition
pub mod Term
pub mod Log
