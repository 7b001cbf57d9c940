-- Definitions about the code's own state. No report depends on them.
pub mod Entries
