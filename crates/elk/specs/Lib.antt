pub mod Sequent
pub mod Rules
pub mod Instance
pub mod Derivation
pub mod Constraints
pub mod CommonSets
