pub mod Steps
pub mod Seen
pub mod Passes
pub mod AtOnce
pub mod Arrivals
pub mod KeptHolds
pub mod Callers
