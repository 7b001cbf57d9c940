-- Definitions about the code's own state: loop invariants, fields, measures. No report depends on them.
pub mod Fields
pub mod Plays
pub mod Views
