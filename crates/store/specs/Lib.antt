pub mod Entries
pub mod Entering
pub mod FoundView
pub mod Visited
pub mod Places
pub mod Earlier
pub mod Widths
pub mod inside
