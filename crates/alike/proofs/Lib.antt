-- The laws of formulas that hold alike.
pub mod BlockDigits
pub mod Words
pub mod Stepping
pub mod TruthBits
pub mod Listing
pub mod Remaining
pub mod Surviving
pub mod Covering
pub mod Outside
pub mod Choosing
