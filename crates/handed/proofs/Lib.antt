pub mod Zeros
pub mod Stored
pub mod Entering
pub mod Rows
