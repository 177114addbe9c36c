pub mod FileNames
pub mod Inputs
pub mod Printing
pub mod Refusals
pub mod Shell
pub mod Texts
