pub mod Agreement
pub mod Demand3
pub mod Noiseless
pub mod Checked
pub mod Larger
pub mod Claims
