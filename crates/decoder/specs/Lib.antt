pub mod Candidate
pub mod Tried
pub mod Decoder
pub mod Claims
pub mod Clauses
