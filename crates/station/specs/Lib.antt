-- What the entries on lent buffers promise. The promises of the host call and of the reader are `HostOf` and `SizesOf` of crate
-- host.
pub mod Entries
