pub mod SwapRule
