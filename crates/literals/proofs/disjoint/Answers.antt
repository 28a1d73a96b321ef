-- `literals::disjoint` meets its contract: a is inside a without b where no member of a is one of b.
use Rattle.atomset.proofs.Membership.{member_difference}
use Rattle.literals.proofs.disjoint.Goals as goal

pub returns : goal.returns
returns c =
    let in_rest = member_difference _ _ _ c.difference.ensures in
    (λ e i m k. ((in_rest i).0 (c.is_subset.ensures.0 e i m)).1 k, λ n. c.is_subset.ensures.1 (λ i m. (in_rest i).1 (m, n i m)))
