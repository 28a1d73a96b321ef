-- Laws of the rules of the table.
pub mod SchemaRule
mod Splitting
mod Counting
mod Apart
mod Standing
mod FormulaSides
