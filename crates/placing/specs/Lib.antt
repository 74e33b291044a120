pub mod Clauses
pub mod Place
