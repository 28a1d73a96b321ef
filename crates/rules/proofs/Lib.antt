-- Laws of the rule table as numbers.
pub mod RuleNumbers
