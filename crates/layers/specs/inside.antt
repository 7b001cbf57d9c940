-- Definitions about the code's own state: loop invariants, fields, measures. No report depends on them.
pub mod BookInside
pub mod Insides
pub mod Merging
pub mod Bits
