pub mod Formulas
pub mod Rows
pub mod Kinds
pub mod Sheets
