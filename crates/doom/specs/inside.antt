-- Definitions about the code's own state: loop invariants, fields, measures. No report depends on them.
pub mod Holding
pub mod Pulling
pub mod Locking
pub mod LockedOn
pub mod Dangers
