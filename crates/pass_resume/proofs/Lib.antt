pub mod WellFormed
pub mod ResumeSteps
pub mod Resuming
