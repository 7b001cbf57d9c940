-- The lemmas that the proofs of upper crates cite.
pub mod Solving
pub mod Goals
pub mod Prices
pub mod Solved
pub mod Helping
pub mod Tables
pub mod Looks
pub mod Lists
pub mod Slacks
