-- Definitions about the code's own state: loop invariants, fields, measures. No report depends on them.
pub mod Reading
pub mod Bytes
pub mod Gaps
pub mod Stretches
pub mod Progress
pub mod Cursors
pub mod Sources
pub mod Breaking
