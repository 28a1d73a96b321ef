-- Laws of rows in words.
pub mod Reading
pub mod Formulas
pub mod Lists
pub mod Nodes
pub mod Unrolled
pub mod Meanings
pub mod Sentences
pub mod NoZero
pub mod Accepted
pub mod Call
pub mod LentText
pub mod Same
pub mod Examples
