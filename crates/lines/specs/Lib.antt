pub mod Stepping
pub mod AtomLines
pub mod FormulaLines
pub mod RowLines
pub mod ModelLines
pub mod ClaimLines
