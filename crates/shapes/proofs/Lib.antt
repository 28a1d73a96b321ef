-- Laws of shapes: the formulas that they show, the arms of a `match` on them, and a pass over the formulas of a side.
pub mod Shown
pub mod Tags
pub mod Passes
