-- Definitions about the code's own state: loop invariants, fields, measures. No report depends on them.
pub mod Filling
pub mod AroundView
pub mod BoardView
pub mod LevelView
pub mod Counting
pub mod MaskWords
