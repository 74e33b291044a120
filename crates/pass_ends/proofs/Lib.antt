pub mod Combined
pub mod Halves
pub mod Free
