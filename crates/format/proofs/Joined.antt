-- Parts that are joined come apart again: the entries of a list, the fields of a line, and lines.
use Prim.Native.Nat.{ℕ}
use native.Mathlib.Omega.{arith}
use mathlib.Core.Path.{◌≡◌, refl, sym, ap, ap₂, ◌∙◌}
use mathlib.Core.Bool.{Bool, true, false, cond}
use mathlib.Core.List.{List, [], ◌∷◌, ◌++◌}
use lib.Dec.{eqb}
use borrow.Author.Tests.{eq-eqb, eqb-true}
use Rattle.format.specs.Text.{Bytes, line_feed, tab, Lines, onto, parts_at, lines_of, fields_of}
use Rattle.format.specs.Written.{Each, parted, ended}
use Rattle.format.proofs.Stepping.{parts_some, lines_cons, lines_last}

module _ {X : Type 0} (P : X → Type 0) where
  pub each_append : (xs ys : List X) → Each P xs → Each P ys → Each P (xs ++ ys)
  each_append [] ys h k = k
  each_append (x ∷ xs) ys h k = (h.0, each_append xs ys h.1 k)

  -- what follows from the property, each has
  pub each_weaker : (Q : X → Type 0) → ((x : X) → P x → Q x) → (xs : List X) → Each P xs → Each Q xs
  each_weaker Q h [] p = tt
  each_weaker Q h (x ∷ xs) p = (h x p.0, each_weaker Q h xs p.1)

-- no byte is the separator
abbrev pub Without : ℕ → Bytes → Type 0
Without separator bs = Each (λ b. eqb b separator ≡ false) bs

module _ (s : ℕ) where
  pub parts_one : (p : Bytes) → Without s p → parts_at s p ≡ p ∷ []
  unfolding parts_at
  parts_one [] w = refl
  parts_one (b ∷ bs) w = rw (w.0, parts_one bs w.1)

  parts_then : (p rest : Bytes) → Without s p → parts_at s (p ++ s ∷ rest) ≡ p ∷ parts_at s rest
  unfolding parts_at
  parts_then [] rest w = rw (eq-eqb s s refl)
  parts_then (b ∷ bs) rest w = rw (w.0, parts_then bs rest w.1)

  -- one part or more
  pub parts_parted : (p : Bytes) (ps : List Bytes) → Each (Without s) (p ∷ ps) → parts_at s (parted s (p ∷ ps)) ≡ p ∷ ps
  unfolding parted
  parts_parted p [] w = parts_one p w.0
  parts_parted p (q ∷ qs) w = parts_then p (parted s (q ∷ qs)) w.0 ∙ ap (λ (ps : List Bytes). p ∷ ps) (parts_parted q qs w.1)

  -- what is joined has a byte only if a part has it, or it is the separator
  pub parted_without : (c : ℕ) → eqb c s ≡ false → (ps : List Bytes) → Each (Without s) ps → Without s (parted c ps)
  unfolding parted
  parted_without c h [] w = tt
  parted_without c h (p ∷ []) w = w.0
  parted_without c h (p ∷ q ∷ qs) w = each_append _ p (c ∷ parted c (q ∷ qs)) w.0 (h, parted_without c h (q ∷ qs) w.1)

  -- what comes apart is joined again
  pub parted_back : (bs : Bytes) → parted s (parts_at s bs) ≡ bs
  unfolding parts_at parted
  parted_back [] = refl
  parted_back (b ∷ bs) = by_test (eqb b s) refl (parts_at s bs) (parts_some s bs) (parted_back bs)
    where
      by_test : (t : Bool) → eqb b s ≡ t → (ps : List Bytes) → (q : Bytes) × (qs : List Bytes) × (ps ≡ q ∷ qs) → parted s ps ≡ bs
          → parted s (cond t ([] ∷ ps) (onto b ps)) ≡ b ∷ bs
      by_test t h [] r e = let z : ◌≡◌ {A = ℕ} 0 1 = cc in absurd (omega arith)
      by_test true h (q ∷ qs) r e = ap₂ (λ (c : ℕ) (cs : Bytes). c ∷ cs) (sym (eqb-true b s h)) e
      by_test false h (q ∷ []) r e = ap (λ (cs : Bytes). b ∷ cs) e
      by_test false h (q ∷ p ∷ ps) r e = ap (λ (cs : Bytes). b ∷ cs) e

-- fields that were joined by tabs
pub fields_parted : (p : Bytes) (ps : List Bytes) → Each (Without tab) (p ∷ ps) → fields_of (parted tab (p ∷ ps)) ≡ p ∷ ps
unfolding fields_of
fields_parted p ps w = parts_parted tab p ps w

-- lines that were each ended by an LF
pub lines_ended : (ls : List Bytes) → Each (Without line_feed) ls → lines_of (ended ls) ≡ record { complete = ls; rest = [] }
unfolding ended
lines_ended [] w = lines_last [] (parts_one line_feed [] tt)
lines_ended (l ∷ ls) w =
    lines_cons _ l (ended ls) (parts_then line_feed l (ended ls) w.0)
    ∙ ap (λ (r : Lines). record { complete = l ∷ r.complete; rest = r.rest }) (lines_ended ls w.1)
