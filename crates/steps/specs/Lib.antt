pub mod Answers
pub mod Asked
pub mod Form
pub mod Lines
