pub mod Kinds
pub mod KindWords
pub mod Kernel
pub mod KernelTypes
