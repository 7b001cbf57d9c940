-- The lemmas that the proofs of upper crates cite.
pub mod Origins
pub mod Offers
pub mod Closings
pub mod Copies
pub mod Fitting
