mod WordLaws
mod RuleWordLaws
