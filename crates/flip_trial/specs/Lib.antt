pub mod Trial
pub mod Flips
pub mod FirstAfter
pub mod Claims
pub mod Clauses
