pub mod Fields
pub mod Counting
pub mod LinesAt
