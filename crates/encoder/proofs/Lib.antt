pub mod Message
pub mod WellFormed
pub mod Codeword
