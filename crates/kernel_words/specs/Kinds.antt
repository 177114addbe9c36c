-- The kinds of objects: each as one record, and one line of each.
pub mod Definition
pub mod Queue
pub mod Pool
pub mod Console
pub mod Sched
pub mod All
