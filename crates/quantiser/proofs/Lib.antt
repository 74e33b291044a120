pub mod Numbers
pub mod Totals
pub mod WellFormed
pub mod Accepted
pub mod Rows
pub mod InRange
