pub mod BatchCodes
pub mod Batches
pub mod Homes
pub mod Idle
pub mod Sends
pub mod Places
pub mod OneCalls
pub mod CallReports
