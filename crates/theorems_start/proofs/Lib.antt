pub mod Silence
pub mod TwoKinds
pub mod Instances
pub mod StartOne
