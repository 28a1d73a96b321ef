-- Sides of numbers and the sides of formulas they stand for: they share a set alike, since in a held body a formula has one
-- number. Assumes that the numbers of the sides are known, and that what is added stands for formulas on its side.
use Prim.Native.Nat.{ℕ, ◌≤◌}
use native.Mathlib.Omega.{arith}
use mathlib.Core.Bool.{Bool, false, cond}
use mathlib.Core.List.Memᴰ
use mathlib.Core.List.{List, [], ◌∷◌}
use mathlib.Core.Logic.{inl, inr, ⊎_elim, ◌↔◌}
use mathlib.Core.Path.{◌≡◌, refl, sym, ap, subst, ◌∙◌}
use borrow.Author.Tests.{eq-eqb, ne_eqb}
use lib.ListN.{length}
use Rattle.equilibrium.specs.Formula.{Formula}
use Rattle.equilibrium.specs.Meaning.{◌∈◌, ◌⊆◌}
use Rattle.elk.specs.CommonSets.{Side, Passes, Shared}
use Rattle.elk.proofs.CommonSets.{every_cons}
use Rattle.format.specs.File.{Body, decoded_at, decoded}
use Rattle.format.specs.Tests.{unknown_formula}
use Rattle.format.proofs.Formulas.{known_earlier, equal_numbers}
use Rattle.format.proofs.GoodBodies.{Held}
use Rattle.sides.specs.Numbers.{no_number, missing, some?, numbers_of, number_side}
use Rattle.sides.specs.declared.numbers.Numbers.{Numbers}
use Rattle.format.proofs.Decoded.{in_decoded, decoded_in, number_on}
use Rattle.schema.proofs.Standing.{Stands, StandFor}

some_none : (n : ℕ) (ns : List ℕ) → n ≡ no_number → some? n ns ≡ ns
some_none n ns e = ap (λ (t : Bool). cond t ns (n ∷ ns)) (eq-eqb n no_number e)

some_there : (n : ℕ) (ns : List ℕ) → (n ≡ no_number → ⊥) → some? n ns ≡ n ∷ ns
some_there n ns e = ap (λ (t : Bool). cond t ns (n ∷ ns)) (ne_eqb n no_number e)

module _ (b : Body) (held : Held b) where
  abbrev formula : ℕ → Formula
  formula i = decoded_at b.nodes i

  abbrev formulas_of : List ℕ → List Formula
  formulas_of side = decoded b.nodes side

  module _ (side : List ℕ) (known : unknown_formula b side ≡ false) where
    missing_off : missing ∈ side → ⊥
    missing_off m = omega (arith, known_earlier b side known missing m, held.few_nodes)

    stands_there : {F : Formula} (n : ℕ) → Stands b side F n → n ≡ no_number → ⊥
    stands_there n (inl k) e = omega (arith, k.0, held.few_nodes)
    stands_there n (inr k) e = omega (arith, k.0)

    -- a number that stands for a formula is on the side exactly if the formula is
    stands_on : {F : Formula} (n : ℕ) → Stands b side F n → (n ∈ side) ↔ (F ∈ formulas_of side)
    stands_on {F} n (inl (h, e)) = let i = number_on b held side known n h in (λ m. rw (sym e) (i.0 m), λ m. i.1 (rw e m))
    stands_on {F} n (inr (e, off)) = (λ m. absurd (missing_off (rw e at m)), λ m. absurd (off m))

    -- and is a number of the side exactly if it is the number's formula
    stands_same : {F : Formula} (n i : ℕ) → Stands b side F n → i ∈ side → (i ≡ n) ↔ (formula i ≡ F)
    stands_same n i (inl (h, e)) m =
        (λ k. ap (decoded_at b.nodes) k ∙ e, λ k. equal_numbers b held i n (known_earlier b side known i m) h (k ∙ sym e))
    stands_same {F} n i (inr (e, off)) m = (
      λ k. absurd (missing_off (subst (λ (j : ℕ). j ∈ side) (k ∙ e) m)),
      λ k. absurd (off (subst (λ (G : Formula). G ∈ formulas_of side) k (decoded_in b side i m))),
    )

    -- each number stands for the formula at its place
    abbrev AllStand : List ℕ → List Formula → Type 0
    AllStand [] [] = Unit {0}
    AllStand [] (F ∷ Fs) = ⊥
    AllStand (n ∷ ns) [] = ⊥
    AllStand (n ∷ ns) (F ∷ Fs) = Stands b side F n × AllStand ns Fs

    -- at most two formulas are added
    all_stand : (Fs : List Formula) (r : Numbers) → length Fs ≤ 2 → StandFor b side Fs r → AllStand (numbers_of r) Fs
    all_stand [] r h s =
        let none = some_none r.x (some? r.y []) s.0 ∙ some_none r.y [] s.1 in
        subst (λ (ns : List ℕ). AllStand ns []) (sym none) tt
    all_stand (F ∷ []) r h s =
        let first = some_there r.x (some? r.y []) (stands_there r.x s.0) in
        let one = first ∙ ap (λ (ns : List ℕ). r.x ∷ ns) (some_none r.y [] s.1) in
        subst (λ (ns : List ℕ). AllStand ns (F ∷ [])) (sym one) (s.0, tt)
    all_stand (F ∷ G ∷ []) r h s =
        let first = some_there r.x (some? r.y []) (stands_there r.x s.0) in
        let two = first ∙ ap (λ (ns : List ℕ). r.x ∷ ns) (some_there r.y [] (stands_there r.y s.1)) in
        subst (λ (ns : List ℕ). AllStand ns (F ∷ G ∷ [])) (sym two) (s.0, (s.1, tt))
    all_stand (F ∷ G ∷ H ∷ Hs) r h s = absurd (omega arith)

    all_on : (ns : List ℕ) (Fs : List Formula) → AllStand ns Fs → (ns ⊆ side) ↔ (Fs ⊆ formulas_of side)
    all_on [] [] s = (λ h F m. absurd (Memᴰ.not-nil m), λ h n m. absurd (Memᴰ.not-nil m))
    all_on [] (F ∷ Fs) s = absurd s
    all_on (n ∷ ns) [] s = absurd s
    all_on (n ∷ ns) (F ∷ Fs) s =
        let one = stands_on n s.0 in
        let rest = all_on ns Fs s.1 in (
          λ h. every_cons.1 (one.0 (every_cons.0 h).0, rest.0 (every_cons.0 h).1),
          λ h. every_cons.1 (one.1 (every_cons.0 h).0, rest.1 (every_cons.0 h).1),
        )

    all_among : (ns : List ℕ) (Fs : List Formula) → AllStand ns Fs → (i : ℕ) → i ∈ side → (i ∈ ns) ↔ (formula i ∈ Fs)
    all_among [] [] s i m = (λ k. absurd (Memᴰ.not-nil k), λ k. absurd (Memᴰ.not-nil k))
    all_among [] (F ∷ Fs) s i m = absurd s
    all_among (n ∷ ns) [] s i m = absurd s
    all_among (n ∷ ns) (F ∷ Fs) s i m =
        let one = stands_same n i s.0 m in
        let rest = all_among ns Fs s.1 i m in (
          λ k. ⊎_elim (λ e. Memᴰ.head (one.0 e)) (λ l. Memᴰ.tail (rest.0 l)) (Memᴰ.cases_cons k),
          λ k. ⊎_elim (λ e. Memᴰ.head (one.1 e)) (λ l. Memᴰ.tail (rest.1 l)) (Memᴰ.cases_cons k),
        )

  -- a side of numbers stands for a side of formulas: as a whole, and in what is added
  pub record SideStands (s : Side ℕ) (t : Side Formula) : Type 0 where
    pub known : unknown_formula b s.whole ≡ false
    pub whole : t.whole ≡ formulas_of s.whole
    pub on : (s.added ⊆ s.whole) ↔ (t.added ⊆ t.whole)
    pub among : (i : ℕ) → i ∈ s.whole → (i ∈ s.added) ↔ (formula i ∈ t.added)

  pub side_stands :
      (side : List ℕ) → unknown_formula b side ≡ false → (Fs : List Formula) (r : Numbers) → length Fs ≤ 2 → StandFor b side Fs r
      → SideStands (number_side side r) (record { whole = formulas_of side; added = Fs })
  side_stands side known Fs r h s =
      let all = all_stand side known Fs r h s in
      record { known = known; whole = refl; on = all_on side known (numbers_of r) Fs all; among = all_among side known (numbers_of r) Fs all }

  passes_stand : {s s' : Side ℕ} {t t' : Side Formula} → SideStands s t → SideStands s' t' → Passes s s' ↔ Passes t t'
  passes_stand {s} {s'} {t} {t'} u v = (to, from)
    where
      has : {Fs Gs : List Formula} {F : Formula} → Fs ≡ Gs → F ∈ Fs → F ∈ Gs
      has {F = F} e m = subst (λ (Hs : List Formula). F ∈ Hs) e m

      is : {F G : Formula} {Fs : List Formula} → F ≡ G → F ∈ Fs → G ∈ Fs
      is {Fs = Fs} e m = subst (λ (H : Formula). H ∈ Fs) e m

      to : Passes s s' → Passes t t'
      to h F m n =
          let i = in_decoded b s.whole F (has u.whole m) in
          let not_added : i.0 ∈ s.added → ⊥ = λ k. n (is (sym i.2) ((u.among i.0 i.1).0 k)) in
          has (sym v.whole) (is (sym i.2) (decoded_in b s'.whole i.0 (h i.0 i.1 not_added)))

      from : Passes t t' → Passes s s'
      from h i m n =
          let there = h (formula i) (has (sym u.whole) (decoded_in b s.whole i m)) (λ k. n ((u.among i m).1 k)) in
          (number_on b held s'.whole v.known i (known_earlier b s.whole u.known i m)).1 (has v.whole there)

  -- sides of numbers and the sides of formulas they stand for, in their order
  abbrev pub SidesStand : List (Side ℕ) → List (Side Formula) → Type 0
  SidesStand [] [] = Unit {0}
  SidesStand [] (t ∷ ts) = ⊥
  SidesStand (s ∷ ss) [] = ⊥
  SidesStand (s ∷ ss) (t ∷ ts) = SideStands s t × SidesStand ss ts

  abbrev StoodFor : Side ℕ → List (Side Formula) → Type 0
  StoodFor s ts = (t : Side Formula) × (t ∈ ts) × SideStands s t

  stood_for : (ss : List (Side ℕ)) (ts : List (Side Formula)) → SidesStand ss ts → (s : Side ℕ) → s ∈ ss → StoodFor s ts
  stood_for [] ts a s m = absurd (Memᴰ.not-nil m)
  stood_for (u ∷ ss) [] a s m = absurd a
  stood_for (u ∷ ss) (t ∷ ts) a s m =
      ⊎_elim (λ e. (t, Memᴰ.head refl, subst (λ (v : Side ℕ). SideStands v t) (sym e) a.0))
      (λ k. later (stood_for ss ts a.1 s k)) (Memᴰ.cases_cons m)
    where
      later : StoodFor s ts → StoodFor s (t ∷ ts)
      later (v, k, e) = (v, Memᴰ.tail k, e)

  abbrev StandingFor : Side Formula → List (Side ℕ) → Type 0
  StandingFor t ss = (s : Side ℕ) × (s ∈ ss) × SideStands s t

  standing_for : (ss : List (Side ℕ)) (ts : List (Side Formula)) → SidesStand ss ts → (t : Side Formula) → t ∈ ts → StandingFor t ss
  standing_for ss [] a t m = absurd (Memᴰ.not-nil m)
  standing_for [] (u ∷ ts) a t m = absurd a
  standing_for (s ∷ ss) (u ∷ ts) a t m =
      ⊎_elim (λ e. (s, Memᴰ.head refl, subst (SideStands s) (sym e) a.0)) (λ k. later (standing_for ss ts a.1 t k)) (Memᴰ.cases_cons m)
    where
      later : StandingFor t ss → StandingFor t (s ∷ ss)
      later (v, k, e) = (v, Memᴰ.tail k, e)

  -- they share a set alike
  pub shared_stand : (ss : List (Side ℕ)) (ts : List (Side Formula)) → SidesStand ss ts → Shared ss ↔ Shared ts
  shared_stand ss ts a = (to, from)
    where
      to : Shared ss → Shared ts
      to h t m =
          let u = standing_for ss ts a t m in
          let hu = h u.0 u.1 in
          (u.2.on.0 hu.0, λ t' m'. let v = standing_for ss ts a t' m' in (passes_stand u.2 v.2).0 (hu.1 v.0 v.1))

      from : Shared ts → Shared ss
      from h s m =
          let u = stood_for ss ts a s m in
          let hu = h u.0 u.1 in
          (u.2.on.1 hu.0, λ s' m'. let v = stood_for ss ts a s' m' in (passes_stand u.2 v.2).1 (hu.1 v.0 v.1))
