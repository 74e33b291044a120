pub mod Numbers
pub mod Clauses
