-- Laws of `unst`: the walks along K and E, the formulas that they join, the pass over the formulas that fix the choice, and the
-- rule itself.
mod Arms
mod Steps
mod Joined
mod ChoiceSets
mod FixingPass
mod Words
mod FixedSide
mod Instances
mod Tests
