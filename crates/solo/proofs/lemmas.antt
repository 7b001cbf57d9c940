-- The lemmas that the proofs of upper crates cite.
pub mod Iterations
pub mod Rests
pub mod Together
