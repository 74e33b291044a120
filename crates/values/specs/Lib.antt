pub mod Claims
pub mod Values
pub mod Clauses
