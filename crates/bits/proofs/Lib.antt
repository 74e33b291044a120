pub mod Bitwise
pub mod Number
pub mod BitsOf
pub mod Mask
pub mod Lists
pub mod Packing
