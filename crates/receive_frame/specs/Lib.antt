pub mod Frame
pub mod Clauses
