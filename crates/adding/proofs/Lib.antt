pub mod OpenFiles
mod RowTexts
mod Trying
