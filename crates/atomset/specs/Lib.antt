-- What the contracts of `src/lib.rt` and the laws of `proofs/` cite.
pub mod AtomSet
pub mod Walk
