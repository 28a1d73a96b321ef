-- The laws of candidates.
pub mod Seating
pub mod Grouping
pub mod Seeking
pub mod Numbers
