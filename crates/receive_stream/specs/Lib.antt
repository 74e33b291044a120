pub mod Stream
pub mod Program
pub mod Claims
pub mod Clauses
