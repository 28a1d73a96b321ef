-- The law of common sets for one, two and three sides, as the rules have them.
use mathlib.Core.List.Memᴰ
use mathlib.Core.List.{[], ◌∷◌}
use mathlib.Core.Logic.{◌↔◌}
use mathlib.Core.Path.{refl}
use Rattle.equilibrium.specs.Meaning.{◌∈◌, ◌⊆◌}
use Rattle.elk.specs.CommonSets.{Side, Passes, Shared}
use Rattle.elk.proofs.CommonSets.{every_cons}

-- what all of one, two and three members have, each has
module _ {X : Type 0} {P : X → Type 0} where
  one : {x : X} → ((z : X) → z ∈ x ∷ [] → P z) ↔ P x
  one {x} = (λ h. h x (Memᴰ.head refl), λ p. every_cons.1 (p, λ z m. absurd (Memᴰ.not-nil m)))

  two : {x y : X} → ((z : X) → z ∈ x ∷ y ∷ [] → P z) ↔ (P x × P y)
  two = (λ h. let k = every_cons.0 h in (k.0, one.0 k.1), λ (p, q). every_cons.1 (p, one.1 q))

  three : {x y u : X} → ((z : X) → z ∈ x ∷ y ∷ u ∷ [] → P z) ↔ (P x × P y × P u)
  three = (λ h. let k = every_cons.0 h in let l = two.0 k.1 in (k.0, l.0, l.1), λ (p, q, r). every_cons.1 (p, two.1 (q, r)))

module _ {X : Type 0} where
  itself : (s : Side X) → Passes s s
  itself s x m n = m

  -- one side shares a set with itself if it holds what is added
  pub shared_one : (s : Side X) → (s.added ⊆ s.whole) ↔ Shared (s ∷ [])
  shared_one s = (λ h. one.1 (h, one.1 (itself s)), λ h. (one.0 h).0)

  -- two sides share a set if each holds what is added to it and what it has besides is in the other
  pub shared_two : (s t : Side X) → Shared (s ∷ t ∷ []) ↔ (((s.added ⊆ s.whole) × (t.added ⊆ t.whole)) × (Passes s t × Passes t s))
  shared_two s t = (
    λ h. let (hs, ht) = two.0 h in ((hs.0, ht.0), ((two.0 hs.1).1, (two.0 ht.1).0)),
    λ h. two.1 ((h.0.0, two.1 (itself s, h.1.0)), (h.0.1, two.1 (h.1.1, itself t))),
  )

  -- three sides share a set if any two of them do
  pub shared_three : (s t u : Side X) → Shared (s ∷ t ∷ u ∷ []) ↔ (Shared (s ∷ t ∷ []) × Shared (s ∷ u ∷ []) × Shared (t ∷ u ∷ []))
  shared_three s t u = (to, from)
    where
      to : Shared (s ∷ t ∷ u ∷ []) → Shared (s ∷ t ∷ []) × Shared (s ∷ u ∷ []) × Shared (t ∷ u ∷ [])
      to h =
          let all = three.0 h in
          let by-s = three.0 all.0.1 in
          let by-t = three.0 all.1.1 in
          let by-u = three.0 all.2.1 in (
            (shared_two s t).1 ((all.0.0, all.1.0), (by-s.1, by-t.0)),
            (shared_two s u).1 ((all.0.0, all.2.0), (by-s.2, by-u.0)),
            (shared_two t u).1 ((all.1.0, all.2.0), (by-t.2, by-u.1)),
          )

      from : Shared (s ∷ t ∷ []) × Shared (s ∷ u ∷ []) × Shared (t ∷ u ∷ []) → Shared (s ∷ t ∷ u ∷ [])
      from h =
          let st = (shared_two s t).0 h.0 in
          let su = (shared_two s u).0 h.1 in
          let tu = (shared_two t u).0 h.2 in
          three.1 (
            (st.0.0, three.1 (itself s, st.1.0, su.1.0)),
            (st.0.1, three.1 (st.1.1, itself t, tu.1.0)),
            (su.0.1, three.1 (su.1.1, tu.1.1, itself u)),
          )

  -- what stands on the one side, and is not added there, stands on the other
  abbrev pub Carried : Side X → Side X → X → Type 0
  Carried t u x = x ∈ t.whole → (x ∈ t.added → ⊥) → x ∈ u.whole

  -- three sides share a set if the first shares one with each of the others, and these agree in what is added to the first
  pub shared_by_first :
      (s t u : Side X) → ((x : X) → Dec (x ∈ s.added))
      → Shared (s ∷ t ∷ u ∷ []) ↔ (Shared (s ∷ t ∷ []) × Shared (s ∷ u ∷ []) × ((x : X) → x ∈ s.added → Carried t u x × Carried u t x))
  shared_by_first s t u added? = (
    λ h. let all = (shared_three s t u).0 h in let tu = (shared_two t u).0 all.2 in (all.0, all.1, λ x m. (tu.1.0 x, tu.1.1 x)),
    λ h. (shared_three s t u).1 (h.0, h.1, others h.0 h.1 h.2),
  )
    where
      others : Shared (s ∷ t ∷ []) → Shared (s ∷ u ∷ []) → ((x : X) → x ∈ s.added → Carried t u x × Carried u t x) → Shared (t ∷ u ∷ [])
      others h k both =
          let st = (shared_two s t).0 h in
          let su = (shared_two s u).0 k in
          (shared_two t u).1 (
            (st.0.1, su.0.1),
            (λ x m n. by x (both x) (λ d. d.0 m n) (λ a. su.1.0 x (st.1.1 x m n) a), λ x m n. by x (both x) (λ d. d.1 m n) (λ a. st.1.0 x (su.1.1 x m n) a)),
          )
        where
          by : {Y Z : Type 0} (x : X) → (x ∈ s.added → Y) → (Y → Z) → ((x ∈ s.added → ⊥) → Z) → Z
          by {Z} x there carried else = pick (added? x)
            where
              pick : Dec (x ∈ s.added) → Z
              pick (yes m) = carried (there m)
              pick (no n) = else n

  -- to the first of which nothing is added
  pub shared_by_bare :
      (s t u : Side X) → ((x : X) → x ∈ s.added → ⊥) → Shared (s ∷ t ∷ u ∷ []) ↔ (Shared (s ∷ t ∷ []) × Shared (s ∷ u ∷ []))
  shared_by_bare s t u none =
      let first = shared_by_first s t u (λ x. no (none x)) in
      (λ h. let k = first.0 h in (k.0, k.1), λ h. first.1 (h.0, h.1, λ x m. absurd (none x m)))
