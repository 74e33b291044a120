pub mod Answers
pub mod FlipOrder
pub mod LoopInvariant
pub mod LoopStep
pub mod Tallies
