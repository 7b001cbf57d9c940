-- Definitions about the code's own state: loop invariants, fields, measures. No report depends on them.
pub mod Tables
pub mod Checks
pub mod Sums
pub mod Goals
pub mod Slacks
pub mod Matchings
pub mod Views
