pub mod Repeats
pub mod Claims
