-- What is true of every cell at all times, and what makes a step on its words a turn of its lock.
pub mod Announced
pub mod AtOnce
pub mod Callers
pub mod CellInvariant
pub mod Definition
pub mod LockStates
pub mod Operations
pub mod Seats
