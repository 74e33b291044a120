pub mod AllBits
