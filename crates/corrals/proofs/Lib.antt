pub mod lemmas
pub mod Moves
pub mod Exchange
pub mod Looks
pub mod Frozen
