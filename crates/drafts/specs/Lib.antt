pub mod Drafts
pub mod Storing
