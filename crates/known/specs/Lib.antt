pub mod Index
pub mod Known
pub mod Entering
