pub mod Resume
pub mod ResumeSteps
pub mod Claims
pub mod Clauses
