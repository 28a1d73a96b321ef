-- The law of common sets: when some sides are one set, each with something of its own added. It decides L and R of a
-- rule without a search: the intersection of the sides will do if any set does.
use mathlib.Core.Path.{◌≡◌, refl, sym, subst}
use mathlib.Core.List.Memᴰ
use mathlib.Core.List.{List, [], ◌∷◌, ◌++◌}
use mathlib.Core.Logic.{⊎_elim, ◌↔◌}
use Rattle.equilibrium.specs.Meaning.{◌∈◌, ◌≈◌}
use Rattle.equilibrium.proofs.Sets.{dec_not, dec_and, dec_implies, dec_in, dec_part, dec_all, those, in_those}
use Rattle.elk.specs.CommonSets.{Side, Passes, Shared}

module _ {X : Type 0} where
  -- L with what is added is the side
  abbrev pub Completes : List X → Side X → Type 0
  Completes L s = s.whole ≈ (s.added ++ L)

  -- L does so for each side
  abbrev pub Common : List (Side X) → List X → Type 0
  Common sides L = (s : Side X) → s ∈ sides → Completes L s

  -- what every member has, the first and the rest have
  pub every_cons : {P : X → Type 0} {x : X} {xs : List X} → ((y : X) → y ∈ x ∷ xs → P y) ↔ (P x × ((y : X) → y ∈ xs → P y))
  every_cons {P} {x} = (
    λ f. (f x (Memᴰ.head refl), λ y m. f y (Memᴰ.tail m)),
    λ h y m. ⊎_elim (λ (e : y ≡ x). subst P (sym e) h.0) (h.1 y) (Memᴰ.cases_cons m),
  )

module _ {X : Type 0} (◌≟◌ : Discrete X) where
  intersection : List (Side X) → List X
  intersection [] = []
  intersection (s ∷ sides) = those (λ x. dec_all (λ t. dec_in ◌≟◌ x t.whole) (s ∷ sides)) s.whole

  -- the intersection holds exactly what all sides hold, if there is a side
  in_intersection : (sides : List (Side X)) {s : Side X} → s ∈ sides → (x : X) → (x ∈ intersection sides) ↔ ((t : Side X) → t ∈ sides → x ∈ t.whole)
  unfolding intersection
  in_intersection [] m x = absurd (Memᴰ.not-nil m)
  in_intersection (s ∷ sides) m x = (λ k. ((in_those _ s.whole x).0 k).1, λ f. (in_those _ s.whole x).1 (f s (Memᴰ.head refl), f))

  -- a common set exists exactly if each side holds what is added and all sides hold what one has besides
  pub common_iff : (sides : List (Side X)) → ((L : List X) × Common sides L) ↔ Shared sides
  common_iff sides = (to, λ f. (intersection sides, from f))
    where
      to : (L : List X) × Common sides L → Shared sides
      to (L, c) s m = (
        λ x a. (c s m).1 x (Memᴰ.append_left L a),
        λ t k x w n. (c t k).1 x
            (Memᴰ.append_right t.added (⊎_elim (λ a. absurd (n a)) (λ l. l) (Memᴰ.append_cases s.added ((c s m).0 x w)))),
      )

      place : Shared sides → {s : Side X} → s ∈ sides → (x : X) → x ∈ s.whole → Dec (x ∈ s.added) → x ∈ s.added ++ intersection sides
      place f m x w (yes a) = Memᴰ.append_left (intersection sides) a
      place f {s} m x w (no n) = Memᴰ.append_right s.added ((in_intersection sides m x).1 (λ t k. (f s m).1 t k x w n))

      from : Shared sides → Common sides (intersection sides)
      from f s m = (
        λ x w. place f m x w (dec_in ◌≟◌ x s.added),
        λ x k. ⊎_elim ((f s m).0 x) (λ i. (in_intersection sides m x).0 i s m) (Memᴰ.append_cases s.added k),
      )

  unfoldable pub shared? : (sides : List (Side X)) → Dec (Shared sides)
  unfolding dec_all dec_and dec_part dec_implies dec_not dec_in
  shared? sides = dec_all (λ s. dec_and (dec_part ◌≟◌ s.added s.whole) (dec_all (λ t. passes? s t) sides)) sides
    where
      passes? : (s t : Side X) → Dec (Passes s t)
      passes? s t = dec_all (λ x. dec_implies (dec_not (dec_in ◌≟◌ x s.added)) (dec_in ◌≟◌ x t.whole)) s.whole
