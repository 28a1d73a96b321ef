pub mod Sentences
pub mod Books
