-- The lemmas that the proofs of upper crates cite.
pub mod WordSets
pub mod WordBits
pub mod Norms
pub mod Growing
pub mod Moving
pub mod Hanging
pub mod Flooding
pub mod PushOrder
