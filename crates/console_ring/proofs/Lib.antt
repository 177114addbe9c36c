pub mod Keeps
pub mod Orders
