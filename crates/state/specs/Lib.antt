pub mod State
pub mod Lined
