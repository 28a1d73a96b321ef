-- Laws of what is noted of the formulas: of the index, of all of it, and of a formula that is entered.
pub mod Indexing
pub mod Knowing
pub mod Entries
