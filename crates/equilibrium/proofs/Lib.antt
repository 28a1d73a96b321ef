-- The laws of sets, satisfaction, equal formulas, equilibrium models, entailment and constraints.
pub mod Sets
pub mod Satisfaction
pub mod EqualFormulas
pub mod Models
pub mod Examples
pub mod Constraints
