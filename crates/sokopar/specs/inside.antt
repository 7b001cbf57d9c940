-- Definitions about the code's own state: loop invariants, fields, measures. No report depends on them.
pub mod Sending
pub mod Trail
pub mod Trailing
pub mod Parts
pub mod Explaining
pub mod Pages
