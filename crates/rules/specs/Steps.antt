-- How a rule is judged, by the first of its numbers.
use Rattle.std.specs.Prelude.{ℕ, ◌≡◌, ◌<◌, ◌≤◌}
use Rattle.rules.specs.declared.Step.{Step}
use Rattle.rules.specs.declared.Step.TheVariants.{Schema, Default, Cut, Unstable, Initial, Swap}

-- a rule with this number is judged so: 10 to 14 are those that are written out, in their order
abbrev pub Judged : ℕ → Step → Type 0
Judged n Schema = 10 ≤ n → 14 < n
Judged n Default = n ≡ 10
Judged n Cut = n ≡ 11
Judged n Unstable = n ≡ 12
Judged n Initial = n ≡ 13
Judged n Swap = n ≡ 14
