pub mod Hands
pub mod Audit
pub mod Rule
pub mod inside
