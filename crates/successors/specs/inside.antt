-- Definitions about the code's own state: loop invariants, fields, measures. No report depends on them.
pub mod ParcelInside
pub mod Pruned
pub mod Sums
pub mod Dealt
pub mod Expanding
