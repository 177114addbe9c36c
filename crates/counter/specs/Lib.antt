pub mod State
pub mod Answer
pub mod Counting
pub mod JudgedRun
