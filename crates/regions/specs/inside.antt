-- Definitions about the code's own state: loop invariants, fields, measures. No report depends on them.
pub mod Tables
pub mod Views
pub mod Needs
pub mod Sound
pub mod Checks
pub mod Listing
