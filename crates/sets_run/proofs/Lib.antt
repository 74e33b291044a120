pub mod Leaves
pub mod Searching
pub mod Held
pub mod First
