pub mod Bytes
pub mod InPlace
