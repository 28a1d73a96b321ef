-- `lines::claim::claim_line` meets its contract. Assumes nothing.
use mathlib.Core.Path.{refl, sym, ◌∙◌}
use lib.Dec.{lit≤}
use Rattle.lines.proofs.ClaimLines.{claim_miscounted, claim_left_bad, claim_right_bad, claim_read}
use Rattle.lines.proofs.claim.claim_line.Goals as goal

pub returns-then-line-ne3 : goal.returns-then-line-ne3
returns-then-line-ne3 c = claim_miscounted _ _ _ _ _ _ _ _ c.requires (λ e. c.if-line-ne3.true (c.args.line.fielded.counted ∙ e)) refl

pub returns-in_default : goal.returns-in_default
returns-in_default c =
    claim_left_bad _ _ _ _ _ _ _ _ c.requires (sym c.args.line.fielded.counted ∙ c.if-line-ne3.false)
    c.field.ensures c.field-2.ensures
    c.read_side-antecedent.ensures c.read_side-succedent.ensures c.in_default.is refl

pub returns-in_default-succedent : goal.returns-in_default-succedent
returns-in_default-succedent c =
    claim_right_bad _ _ _ _ _ _ _ _ c.requires (sym c.args.line.fielded.counted ∙ c.if-line-ne3.false)
    c.field.ensures c.field-2.ensures
    c.read_side-antecedent.ensures c.read_side-succedent.ensures c.in_default-succedent.is refl

pub returns : goal.returns
returns c =
    claim_read _ _ _ _ _ _ _ _ c.requires (sym c.args.line.fielded.counted ∙ c.if-line-ne3.false)
    c.field.ensures c.field-2.ensures
    c.read_side-antecedent.ensures c.read_side-succedent.ensures c.in-Some.is c.in-Some-succedent.is (lit≤ tt) (lit≤ tt) c.settle_claim.ensures
