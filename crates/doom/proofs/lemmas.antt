-- The lemmas that the proofs of upper crates cite.
pub mod Bounds
pub mod Loose
pub mod Soundness
