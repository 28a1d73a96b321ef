-- The laws of a word as a set, for the proofs of this crate and of the crates that link it.
pub mod Digits
pub mod Membership
pub mod Members
pub mod SetOf
