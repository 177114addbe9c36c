pub mod Exports
pub mod CellExports
