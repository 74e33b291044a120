pub mod Polynomial
pub mod Check
pub mod Claims
pub mod Clauses
