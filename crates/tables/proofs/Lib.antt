-- Laws of the tables that belong to no one function: of parts and writes, and of tables that hold a body.
pub mod Placed
pub mod Encoded
pub mod Reading
mod Turns
