pub mod First
pub mod Clauses
pub mod Table
pub mod Insert
