-- The ticket lock.
pub mod Acquire
pub mod Definition
pub mod Release
pub mod State
pub mod Steps
pub mod Try
