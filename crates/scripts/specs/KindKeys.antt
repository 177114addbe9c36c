-- The keys of settings that are a kind's own, one line of each kind.
pub mod Definition
pub mod Queue
pub mod Pool
pub mod Console
pub mod Sched
pub mod All
