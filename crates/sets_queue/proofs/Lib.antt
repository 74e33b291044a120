pub mod Inserting
pub mod InMemory
pub mod Walking
pub mod Extending
pub mod Keys
