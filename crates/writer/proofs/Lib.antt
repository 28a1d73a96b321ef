pub mod Writing
mod Decimals
pub mod Spelled
