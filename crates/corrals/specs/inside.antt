-- Definitions about the code's own state: loop invariants, fields, measures. No report depends on them.
pub mod Views
pub mod Grounds
pub mod Checking
pub mod Freezing
