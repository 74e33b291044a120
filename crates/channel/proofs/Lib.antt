pub mod Bytes
pub mod Inside
pub mod Outside
pub mod Judge
