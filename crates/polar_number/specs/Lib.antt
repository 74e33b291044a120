pub mod Number
pub mod Claims
pub mod Clauses
