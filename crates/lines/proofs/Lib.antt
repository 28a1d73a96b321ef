-- Laws of lines: those of any kind, and those of each kind.
pub mod LineLaws
mod AtomLines
mod FormulaFields
mod FormulaLines
pub mod RowFields
pub mod RowPut
mod RowLines
mod ModelLines
mod ClaimLines
mod Dispatch
