-- Laws of open files: what goes through says of its parts, what a record tells, and that the walk finds the body of an open file exactly
-- if there is one.
pub mod Choices
pub mod Decoding
pub mod Fronts
pub mod GoodRows
pub mod Stepping
pub mod Walking
