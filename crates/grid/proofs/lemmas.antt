-- The lemmas that the proofs of upper crates cite.
pub mod Directions
pub mod Steps
pub mod Squares
pub mod Orders
pub mod Plays
pub mod Levels
pub mod Rooms
pub mod Places
pub mod Filling
