pub mod Sizes
pub mod Claims
pub mod Padded
