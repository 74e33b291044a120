pub mod Silence
pub mod Claims
