pub mod McsRule
pub mod McsActing
pub mod McsAtOnce
pub mod McsPolls
