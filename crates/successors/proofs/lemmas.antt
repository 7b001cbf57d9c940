-- The lemmas that the proofs of upper crates cite.
pub mod Lists
pub mod Successors
pub mod Pushes
pub mod Dealt
pub mod LeastPlays
