pub mod KernelModel
pub mod Quotas
pub mod Counts
pub mod Lines
