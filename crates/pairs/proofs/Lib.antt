-- The laws of pairs and of counted parts, for the proofs of this crate and of the crates that link it.
pub mod Parts
pub mod PartWords
pub mod Pairs
pub mod Digits
pub mod Truths
