-- Definitions of the code's own state: what its loops keep, and what its functions state to each other.
pub mod Batches
pub mod Calls
pub mod Desks
pub mod Ends
pub mod Events
pub mod Handing
pub mod Iterations
pub mod Known
pub mod Sharing
pub mod States
