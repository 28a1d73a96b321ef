-- Laws of the rule rcut.
pub mod CutRule
mod CutTests
