pub mod Bounds
pub mod Sums
pub mod Deadlocks
pub mod Lost
pub mod Loose
pub mod Pushed
pub mod inside
