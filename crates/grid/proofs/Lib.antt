pub mod lemmas
pub mod Marked
pub mod Equality
pub mod Settle
pub mod Bits
pub mod RoomBits
pub mod Words
pub mod Columns
mod Examples
