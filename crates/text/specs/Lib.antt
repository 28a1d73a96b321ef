pub mod Numbers
pub mod Items
pub mod Lists
pub mod Names
