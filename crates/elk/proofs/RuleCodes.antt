-- A rule's code is its place in the list of all rules, so every rule is listed: it is one of 01's, or `swap`. What stands
-- in a list over all rules is found by code.
use Prim.Native.Nat.{ℕ, zero, suc, ◌+◌, ◌<◌}
use native.Mathlib.Omega.{arith}
use mathlib.Core.Path.{◌≡◌, refl, sym, ◌∙◌, ap, subst}
use mathlib.Core.List.Memᴰ
use mathlib.Core.List.{List, [], ◌∷◌, map}
use mathlib.Core.Logic.{◌⊎◌, inl, inr, ⊎_elim}
use mathlib.Core.Option.{Option, none, some, IsSome}
use lib.ListN.{length, get_or}
use Rattle.equilibrium.specs.Meaning.{◌∈◌}
use Rattle.elk.specs.Rules.{Rule, def, same, andl, andr, wr, bot, orr, orl, notl, impr, impl, notr, rcut, unst, xini, xnnl, xnnr, xandl, xandr1}
use Rattle.elk.specs.Rules.{xandr2, xorr, xorl1, xorl2, ximpl1, ximpl2, ximpl3, ximpr1, ximpr2, xnimpl, xnimpr1, xnimpr2, xnandl1, xnandl2, xnandr}
use Rattle.elk.specs.Rules.{xnorl, xnorr1, xnorr2, swap, first_rules, rules, code_of}

-- the entry at a place
abbrev pub at : {X : Type 0} → List X → ℕ → Option X
at [] n = none
at (x ∷ xs) zero = some x
at (x ∷ xs) (suc n) = at xs n

pub at_in : {X : Type 0} (xs : List X) (n : ℕ) {x : X} → at xs n ≡ some x → x ∈ xs
at_in [] n e = absurd (subst IsSome (sym e) tt)
at_in (y ∷ ys) zero e = Memᴰ.head {x = y} (cc)
at_in (y ∷ ys) (suc n) e = Memᴰ.tail (at_in ys n e)

pub rules_count : length rules ≡ 38
rules_count = refl

-- a rule's code is its place less one
pub rule_at_code : (r : Rule) → at rules (code_of r) ≡ some r
rule_at_code r =
    elim r as (λ k. at rules (code_of k) ≡ some k) [
      | def ↦ refl
      | same ↦ refl
      | andl ↦ refl
      | andr ↦ refl
      | wr ↦ refl
      | bot ↦ refl
      | orr ↦ refl
      | orl ↦ refl
      | notl ↦ refl
      | impr ↦ refl
      | impl ↦ refl
      | notr ↦ refl
      | rcut ↦ refl
      | unst ↦ refl
      | xini ↦ refl
      | xnnl ↦ refl
      | xnnr ↦ refl
      | xandl ↦ refl
      | xandr1 ↦ refl
      | xandr2 ↦ refl
      | xorr ↦ refl
      | xorl1 ↦ refl
      | xorl2 ↦ refl
      | ximpl1 ↦ refl
      | ximpl2 ↦ refl
      | ximpl3 ↦ refl
      | ximpr1 ↦ refl
      | ximpr2 ↦ refl
      | xnimpl ↦ refl
      | xnimpr1 ↦ refl
      | xnimpr2 ↦ refl
      | xnandl1 ↦ refl
      | xnandl2 ↦ refl
      | xnandr ↦ refl
      | xnorl ↦ refl
      | xnorr1 ↦ refl
      | xnorr2 ↦ refl
      | swap ↦ refl
    ]

-- in a list over all rules, what belongs to a rule stands at its code
pub at_code : {B : Type 0} (f : Rule → B) (d : B) (r : Rule) → get_or (map f rules) (code_of r) d ≡ f r
at_code f d r = place rules (code_of r) (rule_at_code r)
  where
    place : (qs : List Rule) (i : ℕ) → at qs i ≡ some r → get_or (map f qs) i d ≡ f r
    place [] i e = absurd (subst IsSome (sym e) tt)
    place (q ∷ qs) zero e = let same : q ≡ r = cc in ap f same
    place (q ∷ qs) (suc i) e = place qs i e

-- what agrees over the list of all rules agrees on each
pub agree_on_each : {B : Type 0} (f g : Rule → B) → map f rules ≡ map g rules → (r : Rule) → f r ≡ g r
agree_on_each f g e r = sym (at_code f (f r) r) ∙ ap (λ l. get_or l (code_of r) (f r)) e ∙ at_code g (f r) r

-- the numbers from k on, one for each rule
abbrev counted : ℕ → List Rule → List ℕ
counted k [] = []
counted k (r ∷ rs) = k ∷ counted (suc k) rs

-- the rule at a place has that place as its code
pub code_at : (i : ℕ) → i < length rules → code_of (get_or rules i def) ≡ i
code_at i h = let found = from rules 0 i refl h in omega (arith, found)
  where
    from : (rs : List Rule) (k i : ℕ) → map code_of rs ≡ counted k rs → i < length rs → code_of (get_or rs i def) ≡ k + i
    from [] k i e h = absurd (omega arith)
    from (r ∷ rs) k zero e h = let code : code_of r ≡ k = cc in omega arith
    from (r ∷ rs) k (suc i) e h = let rest : map code_of rs ≡ counted (suc k) rs = cc in let next = from rs (suc k) i rest (omega arith) in omega arith

pub every_rule : (r : Rule) → r ∈ rules
every_rule r = at_in rules (code_of r) (rule_at_code r)

pub first_or_swap : (r : Rule) → (r ∈ first_rules) ⊎ (r ≡ swap)
first_or_swap r = ⊎_elim inl (λ m. inr (Memᴰ.eq_of_singleton m)) (Memᴰ.append_cases first_rules (every_rule r))
