pub mod NumberLaws
pub mod ListLaws
mod ItemLaws
mod Listing
mod NameLaws
