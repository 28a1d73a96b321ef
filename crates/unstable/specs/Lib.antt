pub mod Joins
pub mod Fixing
pub mod Unstable
