pub mod WellFormed
pub mod Facts
pub mod Operations
pub mod TwoKinds
pub mod Room
