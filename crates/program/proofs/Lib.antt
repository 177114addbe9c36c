pub mod Refused
pub mod Rows
