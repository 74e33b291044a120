pub mod Polynomial
pub mod Division
pub mod Register
pub mod Words
pub mod Message
pub mod Starts
pub mod CheckValues
