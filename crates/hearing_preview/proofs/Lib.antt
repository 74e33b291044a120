pub mod Sums
pub mod Copy
pub mod After
