-- Places given to atoms.
use Rattle.std.specs.Prelude.{ℕ, ◌<◌, Bool, true, List, ◌≡◌, length}
use Rattle.atomset.specs.AtomSet.{members}
use Rattle.alike.specs.Truths.{place_of}
use Rattle.alike.specs.Survivors.{most_places}
use Rattle.alike.specs.Places.{Seated}

-- the atoms of the set have places of their own, as many as they are
pub record SeatedAll (set : ℕ) (before after : List ℕ) : Type 0 where
  pub long : length after ≡ length before
  pub seated : Seated after (length (members set)) set

-- an atom that has a place keeps it
pub record PlacesKept (before after : List ℕ) : Type 0 where
  pub long : length after ≡ length before
  pub kept : (p : ℕ) → place_of before p < most_places → place_of after p ≡ place_of before p

-- so it is, and the answer is true only if the atoms of the set have places of their own below n
pub record SeatedToo (set n : ℕ) (before after : List ℕ) (r : Bool) : Type 0 where
  pub kept : PlacesKept before after
  pub seated : r ≡ true → Seated after n set
