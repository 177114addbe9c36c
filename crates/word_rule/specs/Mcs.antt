-- The MCS lock (Mellor-Crummey and Scott 1991).
pub mod Acquire
pub mod Definition
pub mod Release
pub mod State
pub mod Steps
pub mod Try
