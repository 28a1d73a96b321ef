-- Laws of the words of formulas, rows and sides, as tables tell them.
mod TableFormulas
mod TableRows
pub mod HeldFormulas
