-- The laws of the calculus: soundness, completeness and the main theorem; the decision of instances, and rows that show
-- the table of rules to be 01's; the rows by which a constraint joins.
pub mod Sides
pub mod Rising
pub mod RisingAtoms
pub mod Choices
pub mod Steps
pub mod RuleCodes
pub mod Derivable
pub mod Validity
pub mod TableSoundness
pub mod Soundness
pub mod Refutation
pub mod Completeness
pub mod Main
pub mod Equality
pub mod CommonSets
pub mod Parts
pub mod Entries
pub mod Exchanging
pub mod Decision
pub mod Rows
pub mod Faithful
pub mod Constraints
