pub mod Node
pub mod Skipped
pub mod Claims
pub mod Clauses
