pub mod Trying
pub mod Corrals
pub mod Sets
pub mod inside
