pub mod RuleTable
pub mod Steps
