pub mod lemmas
pub mod Layering
pub mod Onward
pub mod Ends
pub mod Better
