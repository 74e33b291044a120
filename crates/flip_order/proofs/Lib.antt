pub mod Pairwise
pub mod Before
pub mod Information
pub mod Order
pub mod Least
pub mod Keys
