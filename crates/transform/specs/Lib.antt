pub mod Transform
pub mod Clauses
