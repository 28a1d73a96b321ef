pub mod Reading
pub mod Trials
pub mod Contract
