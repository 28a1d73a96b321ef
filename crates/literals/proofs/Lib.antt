-- Laws of literals: the arms of a `match` on a shape, the literals of a side, and the rules on them.
mod Arms
mod Collected
mod LiteralRules
