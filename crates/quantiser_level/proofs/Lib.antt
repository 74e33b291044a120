pub mod Nearest
pub mod Pattern
pub mod Levels
