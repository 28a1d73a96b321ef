-- A formula taken apart by its record: each case of `split_in` and `parts_in`.
use Prim.Native.Nat.{ℕ, ◌-◌, ◌≤◌, ◌<◌}
use mathlib.Core.Bool.{Bool, true, false}
use mathlib.Core.List.{List}
use mathlib.Core.Path.{◌≡◌, refl, ap}
use Rattle.std.specs.Prelude.{None, Some}
use borrow.Author.Tests.{eq-eqb, ne_eqb, lt-ltb, le-ltb}
use Rattle.schema.specs.Principal.{Apart, record_at, fitting, misfitting, split_in, parts_in, parts_if, apart}
use Rattle.schema.specs.declared.parts.Parts.{Parts}

module _ (formulas : List ℕ) (whole at word : ℕ) where
  pub other_word : ((record_at formulas at).word ≡ word → ⊥) → split_in formulas whole at word ≡ misfitting whole
  unfolding split_in
  other_word n = rw (ne_eqb (record_at formulas at).word word n)

  module _ (e : (record_at formulas at).word ≡ word) where
    pub into_itself : word ≡ 0 → split_in formulas whole at word ≡ fitting whole at at
    unfolding split_in
    into_itself z = rw (eq-eqb (record_at formulas at).word word e, eq-eqb word 0 z)

    module _ (n : word ≡ 0 → ⊥) where
      pub into_one : word ≡ 2 → split_in formulas whole at word ≡ fitting whole (record_at formulas at).first (record_at formulas at).first
      unfolding split_in
      into_one z = rw (eq-eqb (record_at formulas at).word word e, ne_eqb word 0 n, eq-eqb word 2 z)

      pub into_two : (word ≡ 2 → ⊥) → split_in formulas whole at word ≡ fitting whole (record_at formulas at).first (record_at formulas at).second
      unfolding split_in
      into_two m = rw (eq-eqb (record_at formulas at).word word e, ne_eqb word 0 n, ne_eqb word 2 m)

module _ (formulas : List ℕ) (form p : ℕ) where
  pub any_form : form ≡ 1 → parts_in formulas form p ≡ fitting p p p
  unfolding parts_in
  any_form e = rw (eq-eqb form 1 e)

  module _ (n : form ≡ 1 → ⊥) where
    pub one_word : form < 6 → parts_in formulas form p ≡ split_in formulas p p form
    unfolding parts_in
    one_word h = rw (ne_eqb form 1 n, lt-ltb form 6 h)

    module _ (h : 6 ≤ form) where
      pub no_negation : ((record_at formulas p).word ≡ 2 → ⊥) → parts_in formulas form p ≡ misfitting p
      unfolding parts_in
      no_negation m = rw (ne_eqb form 1 n, le-ltb form 6 h, ne_eqb (record_at formulas p).word 2 m)

      pub negated_word : (record_at formulas p).word ≡ 2 → parts_in formulas form p ≡ split_in formulas p (record_at formulas p).first (form - 4)
      unfolding parts_in
      negated_word e = rw (ne_eqb form 1 n, le-ltb form 6 h, eq-eqb (record_at formulas p).word 2 e)

-- what the parts that are there, or none, say of the formula taken apart
pub parts_there : (a : Apart) {p : Parts} → Some p ≡ parts_if a → apart p ≡ a
parts_there a {p} = by a.fits a.whole a.first a.second
  where
    by : (fits : Bool) (w x y : ℕ) → Some p ≡ parts_if (record { fits = fits; whole = w; first = x; second = y })
        → apart p ≡ record { fits = fits; whole = w; first = x; second = y }
    by true w x y e = let f : p ≡ record { whole = w; first = x; second = y } = cc in ap apart f
    by false w x y e = cc

pub no_parts : (a : Apart) → None ≡ parts_if a → a.fits ≡ false
no_parts a = by a.fits a.whole a.first a.second
  where
    by : (fits : Bool) (w x y : ℕ) → None ≡ parts_if (record { fits = fits; whole = w; first = x; second = y }) → fits ≡ false
    by true w x y e = cc
    by false w x y e = refl
