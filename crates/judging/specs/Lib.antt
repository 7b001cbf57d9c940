pub mod Words
pub mod Kinds
pub mod Table
pub mod inside
