pub mod Deciding
pub mod Members
pub mod Covering
pub mod Numbers
pub mod Merging
