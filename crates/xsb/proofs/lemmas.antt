-- The lemmas that the proofs of upper crates cite.
pub mod Cutting
pub mod LevelsAgain
