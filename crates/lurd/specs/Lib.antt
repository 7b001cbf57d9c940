pub mod ExactlyOne
pub mod Text
pub mod Parsing
pub mod Verdict
pub mod Solving
pub mod inside
