pub mod Digits
pub mod Asking
pub mod Parsing
