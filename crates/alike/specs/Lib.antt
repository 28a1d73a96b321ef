pub mod Blocks
pub mod Under
pub mod Truths
pub mod Survivors
pub mod Places
pub mod Alike
