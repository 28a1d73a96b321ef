-- The laws of the model's tests.
pub mod Tested
pub mod Deciding
pub mod Passing
pub mod Judging
pub mod Answering
