-- Definitions about the code's own state: loop invariants, fields, measures. No report depends on them.
pub mod Descent
pub mod ScratchView
pub mod Spread
pub mod Detours
pub mod RingBits
pub mod Flooding
pub mod RoomFloods
pub mod Pushable
pub mod PushLists
pub mod Written
