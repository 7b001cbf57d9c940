-- The lemmas that the proofs of upper crates cite.
pub mod Fewest
pub mod Outcomes
pub mod Parity
