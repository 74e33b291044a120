pub mod Quantise
pub mod Claims
pub mod Clauses
