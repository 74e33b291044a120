pub mod Code
pub mod Description
pub mod Record
pub mod Claims
pub mod Clauses
