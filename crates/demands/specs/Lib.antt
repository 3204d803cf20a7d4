-- When a job of a file passes all checks; which labels two variables share.
pub mod HostPasses
pub mod SharedLabels
