pub mod Descriptions
pub mod HeldAfter
pub mod Refused
pub mod Buffer
pub mod Left
pub mod Instances
