-- Candidates filtered one by one, and what remains after all steps of a loop.
use Prim.Native.Nat.{ℕ, ◌+◌, ◌^◌, ◌≤◌, ◌<◌}
use native.Mathlib.Omega.{arith}
use mathlib.Core.Bool.{Bool, true, false, ◌&&◌, ◌||◌, false≢true}
use mathlib.Core.List.Memᴰ
use mathlib.Core.List.{List, [], ◌∷◌}
use mathlib.Core.Logic.{◌⊎◌, inl, inr, ⊎_elim, ◌↔◌}
use mathlib.Core.Path.{◌≡◌, refl, sym, ap, ap₂, subst, ◌∙◌}
use borrow.Author.Tests.{eqb-true, eq-eqb, lt-ltb}
use lib.Dec.{eqb, ltb}
use Rattle.equilibrium.specs.Meaning.{◌∈◌}
use Rattle.format.proofs.GoodBodies.{at_end}
use Rattle.atomset.specs.AtomSet.{has, Member, members}
use Rattle.atomset.proofs.Digits.{has_zero}
use Rattle.atomset.proofs.Membership.{member_lt}
use Rattle.atomset.proofs.Members.{member_members}
use Rattle.alike.specs.Survivors.{Remain}

-- those kept have the property, and those of the rest are still to be asked
pub record Filtering (P : ℕ → Type 0) (alive kept : ℕ) (rest : List ℕ) : Type 0 where
  pub small : alive < 2 ^ 64
  pub kept_in : (c : ℕ) → Member c kept → Member c alive × P c
  pub rest_in : (c : ℕ) → c ∈ rest → Member c alive
  pub others : (c : ℕ) → Member c alive → P c → Member c kept ⊎ (c ∈ rest)

-- one more in a set
pub member_insert : (set p set' : ℕ) → p < 64 → ((i : ℕ) → has set' i ≡ (has set i || (eqb i p && ltb p 64))) → (i : ℕ)
    → Member i set' ↔ (Member i set ⊎ (i ≡ p))
member_insert set p set' l e i = (λ m. to (has set i) refl (sym (e i) ∙ m), ⊎_elim old own)
  where
    last : (eqb i p && ltb p 64) ≡ true → i ≡ p
    last k = go (eqb i p) refl k
      where
        go : (x : Bool) → eqb i p ≡ x → (x && ltb p 64) ≡ true → i ≡ p
        go true h k = eqb-true i p h
        go false h k = absurd (false≢true k)

    to : (x : Bool) → has set i ≡ x → (x || (eqb i p && ltb p 64)) ≡ true → Member i set ⊎ (i ≡ p)
    to true h k = inl h
    to false h k = inr (last k)

    old : Member i set → Member i set'
    old m = e i ∙ ap (λ (x : Bool). x || (eqb i p && ltb p 64)) m

    own : i ≡ p → Member i set'
    own k = e i ∙ ap₂ (λ (x y : Bool). has set i || (x && y)) (eq-eqb i p k) (lt-ltb p 64 l) ∙ or_true (has set i)
      where
        or_true : (x : Bool) → (x || true) ≡ true
        or_true true = refl
        or_true false = refl

-- what a list has: the first, and those of the rest
pub in_walk : {xs rest : List ℕ} {p : ℕ} → xs ≡ p ∷ rest → (i : ℕ) → (i ∈ xs) ↔ ((i ≡ p) ⊎ (i ∈ rest))
in_walk {xs} walk i = (
  λ m. Memᴰ.cases_cons (subst (λ (ys : List ℕ). i ∈ ys) walk m),
  λ m. subst (λ (ys : List ℕ). i ∈ ys) (sym walk) (⊎_elim Memᴰ.head Memᴰ.tail m),
)

-- nothing is left
pub none_in : {xs : List ℕ} {i : ℕ} → xs ≡ [] → i ∈ xs → ⊥
none_in {i = i} none m = Memᴰ.not-nil (subst (λ (ys : List ℕ). i ∈ ys) none m)

module _ {P : ℕ → Type 0} {alive : ℕ} where
  pub filtering_starts : {rest : List ℕ} → alive < 2 ^ 64 → rest ≡ members alive → Filtering P alive 0 rest
  filtering_starts {rest} s e = record {
    small = s;
    kept_in = λ c m. absurd (false≢true (sym (has_zero c) ∙ m));
    rest_in = λ c m. (member_members alive s c).1 (subst (λ (xs : List ℕ). c ∈ xs) e m);
    others = λ c m p. inr (subst (λ (xs : List ℕ). c ∈ xs) (sym e) ((member_members alive s c).0 m));
  }

  module _ {kept : ℕ} {rest : List ℕ} (f : Filtering P alive kept rest) {p : ℕ} {rest' : List ℕ} (walk : rest ≡ p ∷ rest') where
    -- the next one has the property
    pub filtering_keeps : {kept' : ℕ} → ((i : ℕ) → has kept' i ≡ (has kept i || (eqb i p && ltb p 64))) → P p → Filtering P alive kept' rest'
    filtering_keeps {kept'} more own = record {
      small = f.small;
      kept_in = λ c m. ⊎_elim (f.kept_in c) (λ (e : c ≡ p). subst (λ (x : ℕ). Member x alive × P x) (sym e) (here, own)) ((put c).0 m);
      rest_in = λ c m. f.rest_in c ((in_walk walk c).1 (inr m));
      others = λ c m o. ⊎_elim (λ k. inl ((put c).1 (inl k))) (λ k. ⊎_elim (λ e. inl ((put c).1 (inr e))) inr ((in_walk walk c).0 k)) (f.others c m o);
    }
      where
        here : Member p alive
        here = f.rest_in p ((in_walk walk p).1 (inl refl))

        put : (i : ℕ) → Member i kept' ↔ (Member i kept ⊎ (i ≡ p))
        put = member_insert kept p kept' (member_lt 64 alive p f.small here) more

    -- it has not
    pub filtering_drops : (P p → ⊥) → Filtering P alive kept rest'
    filtering_drops lacks = record {
      small = f.small;
      kept_in = f.kept_in;
      rest_in = λ c m. f.rest_in c ((in_walk walk c).1 (inr m));
      others = λ c m o. ⊎_elim inl (λ k. ⊎_elim (λ (e : c ≡ p). absurd (lacks (subst P e o))) inr ((in_walk walk c).0 k)) (f.others c m o);
    }

  -- all are asked
  pub filtering_ends : {kept : ℕ} {rest : List ℕ} → Filtering P alive kept rest → rest ≡ [] → Remain P alive kept
  filtering_ends f none c = (f.kept_in c, λ (m, o). ⊎_elim (λ k. k) (λ k. absurd (none_in none k)) (f.others c m o))

-- what remains after n steps, each with a property of its own
module _ (Q : ℕ → ℕ → Type 0) where
  -- no step yet
  pub remain_first : (alive : ℕ) → Remain (λ c. (i : ℕ) → i < 0 → Q i c) alive alive
  remain_first alive c = (λ m. (m, λ i l. absurd (omega arith)), λ h. h.0)

  -- one more
  pub remain_next : (alive kept kept' n : ℕ) → Remain (λ c. (i : ℕ) → i < n → Q i c) alive kept → Remain (Q n) kept kept'
      → Remain (λ c. (i : ℕ) → i < n + 1 → Q i c) alive kept'
  remain_next alive kept kept' n r s c = (
    λ m. let k = (s c).0 m in let o = (r c).0 k.0 in
        (o.0, λ i l. ⊎_elim (o.1 i) (λ (e : i ≡ n). subst (λ (x : ℕ). Q x c) (sym e) k.1) (at_end n i (omega arith))),
    λ h. (s c).1 ((r c).1 (h.0, λ i l. h.1 i (omega arith)), h.1 n (omega arith)),
  )

  -- none remains, whatever follows
  pub remain_none : (alive kept n last : ℕ) → Remain (λ c. (i : ℕ) → i < n → Q i c) alive kept → kept < 2 ^ 64 → members kept ≡ [] → n ≤ last
      → Remain (λ c. (i : ℕ) → i < last → Q i c) alive 0
  remain_none alive kept n last r small none l c = (
    λ m. absurd (false≢true (sym (has_zero c) ∙ m)),
    λ h. absurd (Memᴰ.not-nil (subst (λ (xs : List ℕ). c ∈ xs) none ((member_members kept small c).0 ((r c).1 (h.0, λ i k. h.1 i (omega arith)))))),
  )
