pub mod AsBox
pub mod Moves
pub mod Sends
