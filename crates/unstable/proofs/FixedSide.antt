-- The left side of the second premise of `unst`, in a table that begins with the formulas of a good body: the formulas that fix the
-- choice by their shapes are ~~p for p in S and ~p for p in the rest.
use Prim.Native.Nat.{ℕ}
use mathlib.Core.Bool.{true, false≢true, and-eq-true_iff}
use mathlib.Core.List.Memᴰ
use mathlib.Core.List.{List, ◌++◌, map}
use mathlib.Core.Logic.{◌↔◌, ◌⊎◌, inl, inr, ⊎_elim}
use mathlib.Core.Path.{◌≡◌, refl, sym, ap, ◌∙◌}
use borrow.Author.Tests.{eqb-true, eq-eqb}
use lib.Dec.{eqb}
use Rattle.equilibrium.specs.Formula.{Formula, atom, neg}
use Rattle.equilibrium.specs.Meaning.{◌∈◌, ◌⊆◌, ◌≈◌}
use Rattle.elk.specs.Instance.{domain, chosen, fixed, Rising}
use Rattle.elk.specs.Instance.{Choice as Chosen}
use Rattle.format.specs.File.{Body, decoded_at, decoded}
use Rattle.format.proofs.GoodBodies.{Held, good_held}
use Rattle.format.proofs.Formulas.{known_earlier}
use Rattle.format.proofs.Decoded.{in_decoded, decoded_in, number_on}
use Rattle.atomset.specs.AtomSet.{has, Member}
use Rattle.tables.specs.Holding.{Formulas, Sided}
use Rattle.shapes.specs.Shapes.{Shows, shows_falsum, shows_atom, shows_verum, shows_negated, shows_doubled, shows_conjunction, shows_disjunction, shows_other}
use Rattle.shapes.specs.declared.Shape.{Shape}
use Rattle.shapes.proofs.Shown.{negated_shown, doubled_shown, shown, number_shown}
use Rattle.unstable.specs.Fixing.{fixes_atom, FixedBy, Fixes}
use Rattle.unstable.proofs.ChoiceSets.{Fixing, fixed_iff}

-- what fixes atom i is ~~i or ~i
fixing :
    {b : Body} (set others i : ℕ) {F : Formula} {s : Shape} → Shows b F s → fixes_atom set others i s ≡ true
    → (Member i set × (F ≡ neg (neg (atom i)))) ⊎ (Member i others × (F ≡ neg (atom i)))
fixing set others i shows_falsum e = absurd (false≢true e)
fixing set others i (shows_atom l) e = absurd (false≢true e)
fixing set others i shows_verum e = absurd (false≢true e)
fixing set others i (shows_negated {p} l) e =
    let both = (and-eq-true_iff (eqb i p) (has others p)).0 e in
    let q = eqb-true i p both.0 in
    inr (ap (has others) q ∙ both.1, ap (λ j. neg (atom j)) (sym q))
fixing set others i (shows_doubled {p} l) e =
    let both = (and-eq-true_iff (eqb i p) (has set p)).0 e in
    let q = eqb-true i p both.0 in
    inl (ap (has set) q ∙ both.1, ap (λ j. neg (neg (atom j))) (sym q))
fixing set others i (shows_conjunction o) e = absurd (false≢true e)
fixing set others i (shows_disjunction o) e = absurd (false≢true e)
fixing set others i (shows_other u) e = absurd (false≢true e)

-- and these do
doubled_fixes :
    {b : Body} (set others i : ℕ) {F : Formula} {s : Shape} → Shows b F s → F ≡ neg (neg (atom i)) → Member i set → fixes_atom set others i s ≡ true
doubled_fixes set others i shows e m =
    ap (fixes_atom set others i) (doubled_shown shows e) ∙ (and-eq-true_iff (eqb i i) (has set i)).1 (eq-eqb i i refl, m)

negated_fixes :
    {b : Body} (set others i : ℕ) {F : Formula} {s : Shape} → Shows b F s → F ≡ neg (atom i) → Member i others → fixes_atom set others i s ≡ true
negated_fixes set others i shows e m =
    ap (fixes_atom set others i) (negated_shown shows e) ∙ (and-eq-true_iff (eqb i i) (has others i)).1 (eq-eqb i i refl, m)

module _ {b : Body} {table : List ℕ} (g : Formulas b table) where
  held : Held b
  held = good_held g.good

  -- the formulas that fix the choice, with those of L, are the side's
  pub fixes_iff :
      (side l : List ℕ) → Sided b side → Sided b l → (c : Chosen) → Rising (domain c) → (set others : ℕ)
      → ((p : ℕ) → Member p set ↔ (p ∈ chosen c)) → ((p : ℕ) → Member p others ↔ ((p ∈ domain c) × (p ∈ chosen c → ⊥)))
      → Fixes table side l set others ↔ (decoded b.nodes side ≈ (map fixed c ++ decoded b.nodes l))
  fixes_iff side l ss sl c rises set others in_set in_others = (
    λ f. (inside f, outside f),
    λ e. record { part = part e; fixed = fixed_on e; rest = rest e },
  )
    where
      L : List Formula
      L = decoded b.nodes l

      D : List Formula
      D = decoded b.nodes side

      choice_fixes : {F : Formula} → Fixing c F → F ∈ map fixed c ++ L
      choice_fixes {F} h = Memᴰ.append_left L ((fixed_iff c rises F).1 h)

      -- what a formula of the side fixes
      fixed_by : (x p : ℕ) → x ∈ side → FixedBy table set others x p → Fixing c (decoded_at b.nodes x)
      fixed_by x p m f =
          let own = fixing set others p (shown g side ss.known x m) f in
          (p, ⊎_elim (λ j. inl ((in_set p).0 j.0, j.1)) (λ j. inr ((in_others p).0 j.0, j.1)) own)

      inside : Fixes table side l set others → D ⊆ map fixed c ++ L
      inside f F m = by (in_decoded b side F m)
        where
          by : (x : ℕ) × (x ∈ side) × (F ≡ decoded_at b.nodes x) → F ∈ map fixed c ++ L
          by (x, k, e) =
              Memᴰ.cast e (⊎_elim (λ n. Memᴰ.append_right (map fixed c) (decoded_in b l x n)) (λ n. choice_fixes (fixed_by x n.0 k n.1))
              (f.rest x k))

      outside : Fixes table side l set others → map fixed c ++ L ⊆ D
      outside f F m = ⊎_elim (λ k. by ((fixed_iff c rises F).0 k)) of_l (Memᴰ.append_cases (map fixed c) m)
        where
          of_l : F ∈ L → F ∈ D
          of_l k = let n = in_decoded b l F k in Memᴰ.cast n.2 (decoded_in b side n.0 (f.part n.0 n.1))

          on_side : (x : ℕ) → x ∈ side → F ≡ decoded_at b.nodes x → F ∈ D
          on_side x k e = Memᴰ.cast e (decoded_in b side x k)

          -- of the two, the formula that fixes p is the choice's, as S and the rest are apart
          by : Fixing c F → F ∈ D
          by (p, inl (k, e)) =
              let x = f.fixed p (inl ((in_set p).1 k)) in
              ⊎_elim (λ j. on_side x.0 x.1 (e ∙ sym j.1)) (λ j. absurd (((in_others p).0 j.0).1 k))
              (fixing set others p (shown g side ss.known x.0 x.1) x.2)
          by (p, inr (k, e)) =
              let x = f.fixed p (inr ((in_others p).1 k)) in
              ⊎_elim (λ j. absurd (k.1 ((in_set p).0 j.0))) (λ j. on_side x.0 x.1 (e ∙ sym j.1))
              (fixing set others p (shown g side ss.known x.0 x.1) x.2)

      part : D ≈ (map fixed c ++ L) → l ⊆ side
      part e x m =
          (number_on b held side ss.known x (known_earlier b l sl.known x m)).1
          (e.1 _ (Memᴰ.append_right (map fixed c) (decoded_in b l x m)))

      fixed_on : D ≈ (map fixed c ++ L) → (p : ℕ) → Member p set ⊎ Member p others → (x : ℕ) × (x ∈ side) × FixedBy table set others x p
      fixed_on e p (inl m) =
          let n = number_shown g side ss.known _ (e.1 (neg (neg (atom p))) (choice_fixes (p, inl ((in_set p).0 m, refl)))) in
          (n.0, n.1, doubled_fixes set others p n.3 refl m)
      fixed_on e p (inr m) =
          let n = number_shown g side ss.known _ (e.1 (neg (atom p)) (choice_fixes (p, inr ((in_others p).0 m, refl)))) in
          (n.0, n.1, negated_fixes set others p n.3 refl m)

      rest : D ≈ (map fixed c ++ L) → (x : ℕ) → x ∈ side → (x ∈ l) ⊎ ((p : ℕ) × FixedBy table set others x p)
      rest e x m =
          ⊎_elim (λ k. inr (by ((fixed_iff c rises _).0 k)))
          (λ k. inl ((number_on b held l sl.known x (known_earlier b side ss.known x m)).1 k))
          (Memᴰ.append_cases (map fixed c) (e.0 _ (decoded_in b side x m)))
        where
          by : Fixing c (decoded_at b.nodes x) → (p : ℕ) × FixedBy table set others x p
          by (p, inl (k, f)) = (p, doubled_fixes set others p (shown g side ss.known x m) f ((in_set p).1 k))
          by (p, inr (k, f)) = (p, negated_fixes set others p (shown g side ss.known x m) f ((in_others p).1 k))
