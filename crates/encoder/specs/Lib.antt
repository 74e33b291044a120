pub mod Encode
pub mod Claims
pub mod Clauses
