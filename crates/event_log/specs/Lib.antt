pub mod Distinct
pub mod Log
pub mod History
pub mod Limits
pub mod Stream
pub mod Entries
pub mod Chain
pub mod Links
