pub mod Words
pub mod RuleWords
