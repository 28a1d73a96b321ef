-- Formulas listed from the largest number down: what is written at the end of the list, and that the parts of each come after it.
use Prim.Native.Nat.{ℕ, zero, suc, ◌+◌, ◌-◌, ◌≤◌, ◌<◌}
use native.Mathlib.Numerals.{add-one}
use native.Mathlib.Decide.{dec_lt}
use native.Mathlib.Omega.{arith}
use mathlib.Core.List.Memᴰ
use mathlib.Core.List.{List, [], ◌∷◌, ◌++◌}
use mathlib.Core.Logic.{◌⊎◌, inl, inr, ⊎_elim}
use mathlib.Core.Path.{◌≡◌, refl, sym, ap, subst, ◌∙◌}
use lib.ListN.{length, get_or, set, take, drop, length-take, get_or-append}
use lib.Seq.{get_or_at, get_or-set_same, get_or-set_other}
use Rattle.equilibrium.specs.Meaning.{◌∈◌}
use Rattle.format.proofs.GoodBodies.{in_get_d, at_end}
use Rattle.alike.specs.Under.{Marked, PartIn, PartsMarked, Listed}

-- each number is larger than all after it
abbrev pub Falling : List ℕ → Type 0
Falling [] = Unit {0}
Falling (x ∷ xs) = ((y : ℕ) → y ∈ xs → y < x) × Falling xs

-- a smaller number of a falling list comes after
pub falls_after : (xs : List ℕ) → Falling xs → (k : ℕ) → k < length xs → (y : ℕ) → y ∈ xs → y < get_or xs k 0 → y ∈ drop (suc k) xs
falls_after [] f k l y m s = absurd (Memᴰ.not-nil m)
falls_after (x ∷ xs) f zero l y m s = ⊎_elim (λ (e : y ≡ x). absurd (omega arith)) (λ i. i) (Memᴰ.cases_cons m)
falls_after (x ∷ xs) f (suc k) l y m s =
    ⊎_elim (λ (e : y ≡ x). absurd (omega (arith, f.0 (get_or xs k 0) (in_get_d xs k 0 (omega arith)))))
    (λ i. falls_after xs f.1 k (omega arith) y i s) (Memᴰ.cases_cons m)

-- one number more at the end, where it is written
pub written_next : (xs : List ℕ) (n v : ℕ) → n < length xs → take (n + 1) (set xs n v) ≡ take n xs ++ v ∷ []
written_next xs n v l = ap (λ (k : ℕ). take k (set xs n v)) (add-one n) ∙ go xs n l
  where
    go : (xs : List ℕ) (n : ℕ) → n < length xs → take (suc n) (set xs n v) ≡ take n xs ++ v ∷ []
    go [] n l = absurd (omega arith)
    go (x ∷ xs) zero l = refl
    go (x ∷ xs) (suc n) l = ap (λ (ys : List ℕ). x ∷ ys) (go xs n (omega arith))

-- a list with one number more at the end
last_or : (xs : List ℕ) {v : ℕ} (y : ℕ) → y ∈ xs ++ v ∷ [] → (y ∈ xs) ⊎ (y ≡ v)
last_or xs y m = ⊎_elim inl (λ i. inr (Memᴰ.eq_of_singleton i)) (Memᴰ.append_cases xs m)

-- a smaller one at the end keeps it falling
pub falling_next : (xs : List ℕ) (v : ℕ) → Falling xs → ((x : ℕ) → x ∈ xs → v < x) → Falling (xs ++ v ∷ [])
falling_next [] v f s = (λ y m. absurd (Memᴰ.not-nil m), tt)
falling_next (x ∷ xs) v f s = (
  λ y m. ⊎_elim (f.0 y) (λ (e : y ≡ v). subst (λ (z : ℕ). z < x) (sym e) (s x (Memᴰ.head refl))) (last_or xs y m),
  falling_next xs v f.1 (λ z m. s z (Memᴰ.tail m)),
)

-- the formulas from i on: those listed are marked and so are their parts, and the marked ones before `end` are listed
pub record SoFar (formulas : List ℕ) (end : ℕ) (marks₀ marks list slots : List ℕ) (n i : ℕ) : Type 0 where
  pub few : n + i ≤ end
  pub kept : (x : ℕ) → Marked marks₀ x → Marked marks x
  pub listed : (x : ℕ) → i ≤ x → x < end → Marked marks x → x ∈ take n list
  pub from : (x : ℕ) → x ∈ take n list → (i ≤ x) × (x < end)
  pub parts : (x : ℕ) → x ∈ take n list → (p : ℕ) → PartIn formulas x p → Marked marks p
  pub falls : Falling (take n list)
  pub placed : (k : ℕ) → k < n → get_or slots (get_or (take n list) k 0) 0 ≡ k

here_or : {j : ℕ} (x : ℕ) → j ≤ x → (x ≡ j) ⊎ (j < x)
here_or {j} x l = go (dec_lt j x)
  where
    go : Dec (j < x) → (x ≡ j) ⊎ (j < x)
    go (yes g) = inr g
    go (no g) = inl (omega arith)

module _ {formulas : List ℕ} {end : ℕ} {marks₀ : List ℕ} where
  pub none_listed : (list slots : List ℕ) → SoFar formulas end marks₀ marks₀ list slots 0 end
  none_listed list slots = record {
    few = omega arith;
    kept = λ x m. m;
    listed = λ x l k m. absurd (omega arith);
    from = λ x m. absurd (Memᴰ.not-nil m);
    parts = λ x m. absurd (Memᴰ.not-nil m);
    falls = tt;
    placed = λ k l. absurd (omega arith);
  }

  module _ {marks list slots : List ℕ} {n i j : ℕ} (s : SoFar formulas end marks₀ marks list slots n i) (0<i : 0 < i) (below : j ≡ i - 1) where
    -- formula j is not marked
    pub next_passed : (Marked marks j → ⊥) → SoFar formulas end marks₀ marks list slots n j
    next_passed u = record {
      few = omega (arith, s.few);
      kept = s.kept;
      listed = λ x l k m. ⊎_elim (λ (e : x ≡ j). absurd (u (subst (Marked marks) e m))) (λ g. s.listed x (omega arith) k m) (here_or x l);
      from = λ x m. let w = s.from x m in (omega (arith, w.0), w.1);
      parts = s.parts;
      falls = s.falls;
      placed = s.placed;
    }

    -- it is, and so are its parts now
    pub next_listed : {marks' : List ℕ} {v w : ℕ} → v ≡ j → w ≡ n → n < length list → end ≤ length marks → end ≤ length slots → Marked marks j
        → PartsMarked formulas j marks marks' → SoFar formulas end marks₀ marks' (set list n v) (set slots j w) (n + 1) j
    next_listed {marks'} {v} {w} e slot room long slots_long here p = record {
      few = omega (arith, s.few);
      kept = λ x m. p.kept x (s.kept x m);
      listed = λ x l k m. subst (λ (xs : List ℕ). x ∈ xs) (sym more) (⊎_elim
          (λ (g : x ≡ j). Memᴰ.append_right (take n list) (Memᴰ.head (g ∙ sym e)))
          (λ g. Memᴰ.append_left (v ∷ []) (s.listed x (omega arith) k (sym (p.others x l) ∙ m))) (here_or x l));
      from = λ x m. ⊎_elim (λ k. let w = s.from x k in (omega (arith, w.0), w.1)) (λ (g : x ≡ v). (omega arith, omega (arith, s.few))) (split x m);
      parts = λ x m q i. ⊎_elim (λ k. p.kept q (s.parts x k q i))
          (λ (g : x ≡ v). p.parts q (subst (λ (y : ℕ). PartIn formulas y q) (g ∙ e) i) (omega (arith, s.few))) (split x m);
      falls = subst Falling (sym more) (falling_next (take n list) v s.falls (λ x m. omega (arith, (s.from x m).0)));
      placed = λ k l. ap (λ (xs : List ℕ). get_or (set slots j w) (get_or xs k 0) 0) more ∙ ⊎_elim (old k) (λ (g : k ≡ n). own k g) (at_end n k (omega arith));
    }
      where
        as_many : length (take n list) ≡ n
        as_many = omega (arith, length-take n list)

        -- the slots of those listed before
        old : (k : ℕ) → k < n → get_or (set slots j w) (get_or (take n list ++ v ∷ []) k 0) 0 ≡ k
        old k l =
            let there = get_or-append (take n list) (v ∷ []) 0 k (omega (arith, as_many)) in
            let above = s.from (get_or (take n list) k 0) (in_get_d (take n list) k 0 (omega (arith, as_many))) in
            ap (λ (x : ℕ). get_or (set slots j w) x 0) there
            ∙ get_or-set_other slots j (get_or (take n list) k 0) w 0 (λ g. omega (arith, above.0))
            ∙ s.placed k l

        -- and of this one
        own : (k : ℕ) → k ≡ n → get_or (set slots j w) (get_or (take n list ++ v ∷ []) k 0) 0 ≡ k
        own k g =
            let there = get_or_at (take n list) v [] 0 k (as_many ∙ sym g) in
            ap (λ (x : ℕ). get_or (set slots j w) x 0) (there ∙ e) ∙ get_or-set_same slots j w 0 (omega (arith, s.few)) ∙ slot ∙ sym g

        more : take (n + 1) (set list n v) ≡ take n list ++ v ∷ []
        more = written_next list n v room

        split : (x : ℕ) → x ∈ take (n + 1) (set list n v) → (x ∈ take n list) ⊎ (x ≡ v)
        split x m = last_or (take n list) x (subst (λ (xs : List ℕ). x ∈ xs) more m)

  -- all are passed
  pub all_listed : {marks list slots : List ℕ} {n i : ℕ} → SoFar formulas end marks₀ marks list slots n i → i ≡ 0 → n ≤ length list
      → Listed formulas end marks₀ list slots n
  all_listed {marks} {list} {n = n} s e room = record {
    within = room;
    few = omega (arith, s.few);
    marked = λ x l m. s.listed x (omega arith) l (s.kept x m);
    below = λ x m. (s.from x m).1;
    ordered = λ k l p part.
        let here = in_get_d (take n list) k 0 l in
        falls_after (take n list) s.falls k l p
        (s.listed p (omega arith) (omega (arith, part.before, (s.from _ here).1)) (s.parts _ here p part)) part.before;
    placed = s.placed;
  }
