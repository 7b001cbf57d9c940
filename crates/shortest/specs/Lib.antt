pub mod Shortest
pub mod Outcomes
pub mod Improving
pub mod inside
