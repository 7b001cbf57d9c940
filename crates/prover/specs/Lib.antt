pub mod Reachable
pub mod Parity
pub mod Frontier
pub mod Outcomes
pub mod inside
