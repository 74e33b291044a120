pub mod Longer
pub mod Inner
pub mod Instances
