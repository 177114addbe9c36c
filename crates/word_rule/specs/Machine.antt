-- The step machine: many CPUs over many cells, under any schedule.
pub mod Opening
pub mod Orders
pub mod Rounds
pub mod Shown
pub mod SoundWorld
pub mod World
