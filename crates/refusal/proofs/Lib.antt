pub mod Tests
pub mod Judge
pub mod Passed
