-- Laws of open files: what adding a row answers, what opening a beginning comes to, rows added to what was opened, and examples.
pub mod Adding
pub mod JoinedLines
pub mod Opened
pub mod RowsAdded
pub mod Examples
