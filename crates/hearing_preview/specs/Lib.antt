pub mod Preview
pub mod Clauses
pub mod Claims
