-- What is proved of each kind, and one line of each.
pub mod Laws
pub mod Queue
pub mod Pool
pub mod Console
pub mod Sched
pub mod All
