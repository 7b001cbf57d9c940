pub mod lemmas
pub mod Gathering
pub mod Appending
pub mod Bringing
pub mod Picking
pub mod Shifting
pub mod LeastPlays
