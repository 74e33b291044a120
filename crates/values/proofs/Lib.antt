pub mod Bounds
pub mod Favours
pub mod Lengths
pub mod Rules
pub mod Signs
