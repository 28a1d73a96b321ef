-- What it is for a row to pass its rule (numbers 10 and 11 of paper 01, and 18 of 02, M-104), in the calculus' own terms.
-- RowPasses proves `PassesExactly`, `TenExactly` and `EighteenExactly` of every row over every body.
use Rattle.std.specs.Prelude.{◌≡◌, map, ◌↔◌, false}
use Rattle.std.proofs.Math.Option.{none, some}
use Rattle.elk.specs.Sequent.{Sequent}
use Rattle.elk.specs.Rules.{entry, has_principal, premise_kinds}
use Rattle.elk.specs.Instance.{Instance, TooManyAtoms}
use Rattle.format.specs.Text.{◌<$>◌}
use Rattle.format.specs.File.{Row, Body, decoded_at, sequent_of}
use Rattle.format.specs.Tests.{first, present, premises_of, wrong_premises, rule_tests}

-- the row's two sides, taken as sets, make it an instance of the rule it names, with the premises it names
abbrev pub RowInstance : Body → Row → Type 0
RowInstance b r = Instance r.rule (decoded_at b.nodes <$> r.principal) (premises_of b r) (sequent_of b.nodes r)

-- a row passes the tests of its rule exactly when it is an instance: nothing looser, nothing stricter
abbrev pub PassesExactly : Body → Row → Type 0
PassesExactly b r = (first (rule_tests b r) ≡ none) ↔ RowInstance b r

-- a principal formula is named where the rule has one and only there; the premises' kinds are the rule's, in their order
pub record RightPremises (b : Body) (r : Row) : Type 0 where
  pub principal : present r.principal ≡ has_principal (entry r.rule)
  pub premises : map (λ (s : Sequent). s.kind) (premises_of b r) ≡ premise_kinds (entry r.rule)

-- number 10 is for rows that lack these, and for no others
abbrev pub TenExactly : Body → Row → Type 0
TenExactly b r = (wrong_premises b r ≡ false) ↔ RightPremises b r

-- it is a row of `swap`, no B with at most 8 atoms fits, and some B that leaves the sides right has more
abbrev pub RowTooWide : Body → Row → Type 0
RowTooWide b r = TooManyAtoms r.rule (decoded_at b.nodes <$> r.principal) (premises_of b r) (sequent_of b.nodes r)

-- number 18 is given to these rows, and to no others
abbrev pub EighteenExactly : Body → Row → Type 0
EighteenExactly b r = (first (rule_tests b r) ≡ some 18) ↔ RowTooWide b r
