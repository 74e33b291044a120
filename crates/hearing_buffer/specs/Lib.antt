pub mod Lent
pub mod Claims
pub mod Clauses
