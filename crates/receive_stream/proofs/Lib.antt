pub mod Whole
pub mod Split
pub mod Printed
pub mod Says
pub mod Output
pub mod Steps
pub mod Program
