pub mod Respond
pub mod Clauses
