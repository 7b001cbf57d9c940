-- Definitions about the code's own state: loop invariants, fields, measures. No report depends on them.
pub mod Packed
pub mod Placing
pub mod Offers
pub mod Copies
pub mod KeyRows
pub mod Indices
