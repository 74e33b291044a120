pub mod Claims
pub mod Clauses
