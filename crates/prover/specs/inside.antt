-- Definitions for the code's own state. No outcome depends on them.
pub mod Tickets
pub mod Working
pub mod SearchEnds
pub mod Waiting
pub mod Rounds
pub mod Turning
