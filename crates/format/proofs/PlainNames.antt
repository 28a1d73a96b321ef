-- The names a0, a1, a2, .. are good ones, as many as a file may have.
use Prim.Native.Nat.{ℕ, zero, suc, ◌≤◌, ◌<◌}
use mathlib.Core.Path.{◌≡◌, refl, sym, ap, subst, ◌∙◌}
use mathlib.Core.Bool.{Bool, true, false, ◌||◌}
use mathlib.Core.List.Memᴰ
use mathlib.Core.List.{List, [], ◌∷◌, ◌++◌}
use mathlib.Core.Option.{Option, some}
use mathlib.Core.Logic.{◌⊎◌, inl, inr, ⊎_elim}
use native.Mathlib.Omega.{arith}
use lib.Dec.{eqb}
use lib.ListN.{length, get_or, length-append, get_or-append}
use lib.Seq.{get_or_at}
use borrow.Author.Tests.{le-leb}
use Rattle.equilibrium.specs.Meaning.{◌∈◌}
use Rattle.format.specs.Text.{Bytes, bytes, is_digit, is_letter, is_name, number_of}
use Rattle.format.specs.Tables.{most_atoms}
use Rattle.format.specs.Written.{decimal}
use Rattle.format.specs.Good.{GoodNames}
use Rattle.format.specs.Document.{names_in}
use Rattle.format.specs.Transcript.{plain_names, count_to}
use Rattle.format.proofs.Joined.{each_weaker}
use Rattle.format.proofs.WrittenNumbers.{decimal_digits, decimal_length, all_true, number_back}
use Rattle.format.proofs.GoodBodies.{in_place_lem, at_end, Distinct}
use Rattle.format.proofs.WrittenBodies.{names_good}

pub plain_length : (n : ℕ) → length (plain_names n) ≡ n
plain_length zero = refl
plain_length (suc n) = let rest = plain_length n in simp length-append (omega arith)

abbrev plain_name : ℕ → Bytes
plain_name n = bytes "a" ++ decimal n

digit_in_name : (l d u : Bool) → d ≡ true → (l || d || u) ≡ true
digit_in_name true d u e = refl
digit_in_name false d u e = rw e

plain_form : (n : ℕ) → is_name (plain_name n) ≡ true
unfolding is_name
plain_form n =
    let few = (decimal_length n).most in
    let digits = each_weaker _ _ (λ b e. digit_in_name (is_letter b) (is_digit b) (eqb b 95) e) (decimal n) (decimal_digits n) in
    rw (le-leb (length (plain_name n)) 24 (omega arith), all_true (λ b. is_letter b || is_digit b || eqb b 95) (decimal n) digits)

-- each number has its own name
plain_apart : (n k : ℕ) → n < 100000 → k < 100000 → plain_name n ≡ plain_name k → n ≡ k
plain_apart n k l h e =
    let digits : decimal n ≡ decimal k = cc in
    let same : ◌≡◌ {A = Option ℕ} (some n) (some k) = sym (number_back n l) ∙ ap number_of digits ∙ number_back k h in
    cc

plain_at : (n i : ℕ) → i < n → get_or (plain_names n) i [] ≡ plain_name i
plain_at zero i h = absurd (omega arith)
plain_at (suc n) i h = cases (at_end n i h) (plain_at n i)
  where
    cases : (i < n) ⊎ (i ≡ n) → (i < n → get_or (plain_names n) i [] ≡ plain_name i) → get_or (plain_names (suc n)) i [] ≡ plain_name i
    cases (inl l) rest = get_or-append (plain_names n) (plain_name n ∷ []) [] i (omega (arith, plain_length n)) ∙ rest l
    cases (inr e) rest = get_or_at (plain_names n) (plain_name n) [] [] i (plain_length n ∙ sym e) ∙ ap plain_name (sym e)

pub plain_good : (n : ℕ) → n ≤ most_atoms → GoodNames (length (plain_names n)) (names_in (plain_names n))
plain_good n l = names_good (plain_names n) form apart
  where
    named : (i : ℕ) → i < length (plain_names n) → get_or (plain_names n) i [] ≡ plain_name i
    named i h = plain_at n i (omega (arith, plain_length n))

    form : (name : Bytes) → name ∈ plain_names n → is_name name ≡ true
    form name m = let at = in_place_lem (plain_names n) [] m in subst (λ (x : Bytes). is_name x ≡ true) (sym (named at.0 at.1) ∙ at.2) (plain_form at.0)

    apart : Distinct [] (plain_names n)
    apart i j h k e = plain_apart i j (omega (arith, plain_length n)) (omega (arith, plain_length n)) (sym (named i h) ∙ e ∙ named j k)

pub below_count : (ps : List ℕ) (p : ℕ) → p ∈ ps → p < count_to ps
below_count [] p m = absurd (Memᴰ.not-nil m)
below_count (q ∷ qs) p m = ⊎_elim (λ (e : p ≡ q). omega arith) (λ k. let l = below_count qs p k in omega arith) (Memᴰ.cases_cons m)
