-- The members of a set, gone through in rising order.
use Rattle.std.specs.Prelude.{ℕ, List}
use Rattle.atomset.specs.AtomSet.{members}
use Rattle.atomset.specs.declared.SetIter.{SetIter}

-- the members that are still to come
abbrev pub members_left : SetIter → List ℕ
members_left m = members m.rest
