pub mod Sums
pub mod Adding
pub mod Examples
pub mod Inside
