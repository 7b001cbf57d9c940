pub mod lemmas
pub mod Items
pub mod Replaying
pub mod Texts
pub mod Verdicts
pub mod Letters
pub mod Readings
pub mod Written
mod Examples
