pub mod Order
pub mod Claims
pub mod Clauses
