pub mod Longer
pub mod InnerBound
pub mod Claims
