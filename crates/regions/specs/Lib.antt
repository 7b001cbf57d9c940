pub mod Regions
pub mod inside
