pub mod Batches
pub mod Dealing
pub mod Events
pub mod Handed
pub mod Iterations
pub mod Lending
pub mod Parts
