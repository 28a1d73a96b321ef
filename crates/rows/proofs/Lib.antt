-- Laws of a row's judgement: the tests before its rule, its premises, its instances by the sides, and its number.
pub mod EarlyTests
pub mod Numbering
mod PremiseKinds
mod Seen
mod Steps
mod Refetched
mod LastRow
