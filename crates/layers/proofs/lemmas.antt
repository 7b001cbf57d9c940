-- The lemmas that the proofs of upper crates cite.
pub mod Layers
pub mod Admissions
pub mod Exchange
pub mod Books
pub mod BookEvents
pub mod BookFields
pub mod Orders
pub mod Joins
pub mod Counting
pub mod Shares
pub mod Holdings
