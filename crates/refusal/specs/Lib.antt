pub mod Judge
pub mod Clauses
