pub mod Text
pub mod Line
pub mod Claims
pub mod Clauses
