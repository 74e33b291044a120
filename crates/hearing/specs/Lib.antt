pub mod Hearing
pub mod Clauses
