-- Sentences written one after the other, and those of a file that the tables hold.
mod Begun
pub mod Held
