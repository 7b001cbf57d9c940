-- Definitions for the code's own state. No outcome depends on them.
pub mod Listing
pub mod Resting
pub mod Nearby
