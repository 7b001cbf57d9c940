pub mod lemmas
pub mod Goals
pub mod Checking
pub mod Sums
pub mod Counts
pub mod Slacks
pub mod Losing
