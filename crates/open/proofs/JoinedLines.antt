-- Lines of joined texts: where nothing is left after the last LF of the first, the lines of the second follow those of the first.
use Prim.Native.Nat.{ℕ}
use native.Mathlib.Omega.{arith}
use mathlib.Core.Path.{◌≡◌, refl, sym, ap, ◌∙◌}
use mathlib.Core.Bool.{Bool, true, false, cond}
use mathlib.Core.List.{List, [], ◌∷◌, ◌++◌}
use lib.Dec.{eqb}
use Rattle.format.specs.Text.{Bytes, Lines, onto, parts_at, line_feed, all_but_last, lines_of}
use Rattle.format.proofs.Stepping.{parts_some}

-- there is a part
abbrev Parts : List Bytes → Type 0
Parts ps = (q : Bytes) × (qs : List Bytes) × (ps ≡ q ∷ qs)

-- where the last part is empty, the parts of what follows come after the others
module _ (s : ℕ) (ys : Bytes) where
  parts_append : (xs : Bytes) (ps : List Bytes) → parts_at s xs ≡ ps ++ [] ∷ [] → parts_at s (xs ++ ys) ≡ ps ++ parts_at s ys
  unfolding parts_at
  parts_append [] [] e = refl
  parts_append [] (p ∷ []) e = let z : ◌≡◌ {A = ℕ} 0 1 = cc in absurd (omega arith)
  parts_append [] (p ∷ q ∷ ps) e = let z : ◌≡◌ {A = ℕ} 0 1 = cc in absurd (omega arith)
  parts_append (x ∷ xs) ps e = by_test (eqb x s) ps e (parts_at s xs) refl (parts_some s xs) (parts_append xs)
    where
      by_test : (t : Bool) (ps : List Bytes) → cond t ([] ∷ parts_at s xs) (onto x (parts_at s xs)) ≡ ps ++ [] ∷ [] → (qs : List Bytes) → parts_at s xs ≡ qs
          → Parts (parts_at s xs) → ((rs : List Bytes) → parts_at s xs ≡ rs ++ [] ∷ [] → parts_at s (xs ++ ys) ≡ rs ++ parts_at s ys)
          → cond t ([] ∷ parts_at s (xs ++ ys)) (onto x (parts_at s (xs ++ ys))) ≡ ps ++ parts_at s ys
      by_test t ps k [] q some rest = let z : ◌≡◌ {A = ℕ} 0 1 = (let there = some.2 in cc) in absurd (omega arith)
      by_test true [] k (q ∷ qs) e some rest = let z : ◌≡◌ {A = ℕ} 0 1 = cc in absurd (omega arith)
      by_test true (p ∷ ps) k (q ∷ qs) e some rest =
          let empty : [] ≡ p = cc in
          let more : parts_at s xs ≡ ps ++ [] ∷ [] = cc in
          ap (λ (l : List Bytes). [] ∷ l) (rest ps more) ∙ ap (λ (b : Bytes). b ∷ (ps ++ parts_at s ys)) empty
      by_test false ps k (q ∷ qs) e some rest = inside ps (ap (onto x) (sym e) ∙ k)
        where
          inside : (ps : List Bytes) → (x ∷ q) ∷ qs ≡ ps ++ [] ∷ [] → onto x (parts_at s (xs ++ ys)) ≡ ps ++ parts_at s ys
          inside [] k = let z : ◌≡◌ {A = ℕ} 0 1 = cc in absurd (omega arith)
          inside (p ∷ ps) k =
              let front : x ∷ q ≡ p = cc in
              let more : qs ≡ ps ++ [] ∷ [] = cc in
              ap (onto x) (rest (q ∷ ps) (e ∙ ap (λ (l : List Bytes). q ∷ l) more)) ∙ ap (λ (b : Bytes). b ∷ (ps ++ parts_at s ys)) front

-- parts are the lines and what is left
parts_lines : (ps : List Bytes) → Parts ps → ps ≡ (all_but_last ps).complete ++ (all_but_last ps).rest ∷ []
parts_lines [] some = let z : ◌≡◌ {A = ℕ} 0 1 = (let there = some.2 in cc) in absurd (omega arith)
parts_lines (p ∷ []) some = refl
parts_lines (p ∷ q ∷ ps) some = ap (λ (l : List Bytes). p ∷ l) (parts_lines (q ∷ ps) (q, ps, refl))

-- parts before others are lines
lines_before_lem : (ls ps : List Bytes) → Parts ps → all_but_last (ls ++ ps) ≡ record { complete = ls ++ (all_but_last ps).complete; rest = (all_but_last ps).rest }
lines_before_lem [] ps some = refl
lines_before_lem (l ∷ ls) ps some = onward (ls ++ ps) (front ls) (lines_before_lem ls ps some)
  where
    front : (ls : List Bytes) → Parts (ls ++ ps)
    front [] = some
    front (k ∷ ks) = (k, ks ++ ps, refl)

    onward : (qs : List Bytes) → Parts qs → all_but_last qs ≡ record { complete = ls ++ (all_but_last ps).complete; rest = (all_but_last ps).rest }
        → all_but_last (l ∷ qs) ≡ record { complete = l ∷ (ls ++ (all_but_last ps).complete); rest = (all_but_last ps).rest }
    onward [] s k = let z : ◌≡◌ {A = ℕ} 0 1 = (let there = s.2 in cc) in absurd (omega arith)
    onward (q ∷ qs) s k = ap (λ (r : Lines). record { complete = l ∷ r.complete; rest = r.rest }) k

pub lines_append : (xs ys : Bytes) → (lines_of xs).rest ≡ []
    → lines_of (xs ++ ys) ≡ record { complete = (lines_of xs).complete ++ (lines_of ys).complete; rest = (lines_of ys).rest }
unfolding lines_of
lines_append xs ys e =
    ap all_but_last (parts_append line_feed ys xs (lines_of xs).complete
    (parts_lines (parts_at line_feed xs) (parts_some line_feed xs) ∙ ap (λ (b : Bytes). (lines_of xs).complete ++ b ∷ []) e))
    ∙ lines_before_lem (lines_of xs).complete (parts_at line_feed ys) (parts_some line_feed ys)
