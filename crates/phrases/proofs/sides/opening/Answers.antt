-- `phrases::sides::opening` meets its contract, by calculus and side.
use mathlib.Core.Path.{sym, ap₂}
use Rattle.format.specs.Text.{bytes}
use Rattle.words.specs.Words.{side_opening}
use Rattle.phrases.specs.Kinds.{kind_of, side_of}
use Rattle.phrases.proofs.sides.opening.Goals as goal

pub returns-in-Elk-Left : goal.returns-in-Elk-Left
returns-in-Elk-Left c = sym (ap₂ (λ k s. bytes (side_opening (kind_of k) (side_of s))) c.in-Elk-Left.is-0 c.in-Elk-Left.is-1)

pub returns-in-Elk-Right : goal.returns-in-Elk-Right
returns-in-Elk-Right c = sym (ap₂ (λ k s. bytes (side_opening (kind_of k) (side_of s))) c.in-Elk-Right.is-0 c.in-Elk-Right.is-1)

pub returns-in-Refutation-Left : goal.returns-in-Refutation-Left
returns-in-Refutation-Left c = sym (ap₂ (λ k s. bytes (side_opening (kind_of k) (side_of s))) c.in-Refutation-Left.is-0 c.in-Refutation-Left.is-1)

pub returns-in-Refutation-Right : goal.returns-in-Refutation-Right
returns-in-Refutation-Right c = sym (ap₂ (λ k s. bytes (side_opening (kind_of k) (side_of s))) c.in-Refutation-Right.is-0 c.in-Refutation-Right.is-1)
