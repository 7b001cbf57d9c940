pub mod lemmas
pub mod Tolls
pub mod Bits
pub mod Passing
pub mod Sets
pub mod Each
pub mod Bounds
