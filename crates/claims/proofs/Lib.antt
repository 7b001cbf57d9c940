pub mod Counts
pub mod Totals
pub mod Fitting
pub mod Seats
pub mod Drawing
pub mod Enrolling
pub mod Opening
pub mod Auditing
