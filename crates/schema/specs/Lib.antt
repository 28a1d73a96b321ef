pub mod Principal
pub mod Additions
pub mod SchemaRows
