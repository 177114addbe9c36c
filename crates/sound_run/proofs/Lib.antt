pub mod Entries
pub mod OrderLists
pub mod Slices
