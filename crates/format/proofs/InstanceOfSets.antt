-- Being an instance is a matter of sequents as sets: premises and conclusion may be given by other lists of the same formulas.
use mathlib.Core.List.{List, [], ◌∷◌}
use mathlib.Core.Option.{Option, none, some}
use Rattle.equilibrium.specs.Formula.{Formula}
use Rattle.elk.specs.Sequent.{Sequent, Same, AllSame}
use Rattle.elk.specs.Rules.{Entry, schema, default, cut, unstable, initial, exchange}
use Rattle.elk.specs.Instance.{InstanceOf}
use Rattle.elk.proofs.Steps.{same_trans}

all_same_trans : (ss ts us : List Sequent) → AllSame ss ts → AllSame ts us → AllSame ss us
all_same_trans [] [] us e f = f
all_same_trans [] (t ∷ ts) us e f = absurd e
all_same_trans (s ∷ ss) [] us e f = absurd e
all_same_trans (s ∷ ss) (t ∷ ts) [] e f = absurd f
all_same_trans (s ∷ ss) (t ∷ ts) (u ∷ us) e f = (same_trans e.0 f.0, all_same_trans ss ts us e.1 f.1)

-- the same premises and conclusion, as sets
pub instance_same : (e : Entry) (F : Option Formula) (ps qs : List Sequent) {s t : Sequent} → AllSame qs ps → Same t s
    → InstanceOf e F ps s → InstanceOf e F qs t
instance_same (schema x) (some F) ps qs a b i =
    record {
      first = i.first;
      second = i.second;
      fits = i.fits;
      L = i.L;
      R = i.R;
      above = all_same_trans qs ps _ a i.above;
      below = same_trans b i.below;
    }
instance_same (schema x) none ps qs a b i = absurd i
instance_same default (some F) ps qs a b i =
    record {
      p = i.p;
      principal = i.principal;
      L = i.L;
      R = i.R;
      only_atoms = i.only_atoms;
      not_left = i.not_left;
      above = all_same_trans qs ps _ a i.above;
      below = same_trans b i.below;
    }
instance_same default none ps qs a b i = absurd i
instance_same cut (some F) ps qs a b i = record { L = i.L; R = i.R; Q = i.Q; above = all_same_trans qs ps _ a i.above; below = same_trans b i.below }
instance_same cut none ps qs a b i = absurd i
instance_same unstable (some F) ps qs a b i = absurd i
instance_same unstable none ps qs a b i =
    record {
      L = i.L;
      R = i.R;
      choice = i.choice;
      rising = i.rising;
      atoms = i.atoms;
      member = i.member;
      not_empty = i.not_empty;
      above = all_same_trans qs ps _ a i.above;
      below = same_trans b i.below;
    }
instance_same initial (some F) ps qs a b i = absurd i
instance_same initial none ps qs a b i =
    record {
      L = i.L;
      R = i.R;
      lefts = i.lefts;
      rights = i.rights;
      apart = i.apart;
      consistent = i.consistent;
      above = all_same_trans qs ps _ a i.above;
      below = same_trans b i.below;
    }
instance_same exchange (some F) ps qs a b i =
    let e = i.sides in
    record {
      other = i.other;
      sides = record { L = e.L; R = e.R; above = all_same_trans qs ps _ a e.above; below = same_trans b e.below };
      narrow = i.narrow;
      equal = i.equal;
    }
instance_same exchange none ps qs a b i = absurd i
