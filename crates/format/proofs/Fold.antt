-- The fold over complete lines: a joined list of lines is run in two parts.
use Prim.Native.Nat.{ℕ}
use mathlib.Core.Path.{◌≡◌, refl}
use mathlib.Core.List.{List, [], ◌∷◌, ◌++◌}
use Rattle.format.specs.Text.{Bytes}
use Rattle.format.specs.Judged.{Place, Outcome, next, refused, after, below, run}

-- the place after some lines
abbrev pub place_after : Place → List Bytes → Place
place_after p [] = p
place_after p (l ∷ ls) = place_after (below p l) ls

module _ {S : Type 0} (step : S → Place → Bytes → Outcome S) where
  after_run : (o : Outcome S) (p : Place) (ms ns : List Bytes)
      → ((s : S) → run step p (ms ++ ns) s ≡ after (run step p ms s) (run step (place_after p ms) ns))
      → after o (run step p (ms ++ ns)) ≡ after (after o (run step p ms)) (run step (place_after p ms) ns)
  after_run (next s) p ms ns rest = rest s
  after_run (refused n l) p ms ns rest = refl

  pub run_append : (p : Place) (ms ns : List Bytes) (s : S) → run step p (ms ++ ns) s ≡ after (run step p ms s) (run step (place_after p ms) ns)
  unfolding run
  run_append p [] ns s = refl
  run_append p (m ∷ ms) ns s = after_run (step s p m) (below p m) ms ns (run_append (below p m) ms ns)

  -- what is refused stays refused with the same number and line, whatever lines follow
  pub refused_stays : (p : Place) (ms ns : List Bytes) (s : S) (n l : ℕ) → run step p ms s ≡ refused n l → run step p (ms ++ ns) s ≡ refused n l
  refused_stays p ms ns s n l e = rw (run_append, e)
