pub mod Configured
pub mod Lending
pub mod Solving
pub mod Work
pub mod inside
