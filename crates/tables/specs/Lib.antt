pub mod Records
pub mod Holding
pub mod Names
