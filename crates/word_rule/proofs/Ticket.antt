-- The ticket lock.
pub mod Words
pub mod Turns
pub mod Tries
pub mod Laws
pub mod Served
pub mod Shown
pub mod Progress
