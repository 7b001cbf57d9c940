pub mod Solving
pub mod Prices
pub mod Helping
pub mod Fewest
pub mod Searching
pub mod Timing
pub mod inside
