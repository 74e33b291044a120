pub mod Trials
pub mod Claims
pub mod Clauses
