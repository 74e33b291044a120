pub mod Bit
pub mod Mask
pub mod Packing
pub mod Claims
