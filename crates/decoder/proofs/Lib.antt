pub mod Decoder
pub mod Single
pub mod Limit
pub mod Metric
pub mod Examples
