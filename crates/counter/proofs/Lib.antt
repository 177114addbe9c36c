pub mod Keeps
pub mod Sends
pub mod JudgedRuns
