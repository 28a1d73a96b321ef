pub mod Pairs
pub mod Truths
pub mod Parts
pub mod Bounds
