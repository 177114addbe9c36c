pub mod Handles
pub mod Lent
