-- Definitions about the code's own state: loop invariants, fields, measures. No report depends on them.
pub mod LeadsBack
pub mod Rests
pub mod Searched
pub mod Together
pub mod Iterations
