-- Laws of sides: of numbers on them, of answers that decide, of the tests of the rules, and of the formulas that known numbers
-- stand for.
pub mod Sets
pub mod Deciding
pub mod SharedSides
pub mod NumberSides
pub mod DecodedSides
mod Either
mod Searching
mod Stretches
mod Cursors
