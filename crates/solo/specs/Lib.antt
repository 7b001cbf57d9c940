pub mod Leads
pub mod Answers
pub mod Fewest
pub mod Refusals
pub mod inside
