pub mod OpenFiles
mod Whole
