pub mod Lent
pub mod Running
