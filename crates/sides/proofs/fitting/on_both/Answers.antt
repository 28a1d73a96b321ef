-- `sides::fitting::on_both` meets its contract: the number was looked for on both sides.
use native.Mathlib.Omega.{arith}
use mathlib.Core.Bool.{Bool, true, false, false≢true}
use mathlib.Core.Logic.{inl, inr, ⊎_elim}
use mathlib.Core.Path.{◌≡◌, refl, sym, subst, ◌∙◌}
use Prim.Native.Nat.{ℕ}
use mathlib.Core.List.{List}
use Rattle.equilibrium.specs.Meaning.{◌∈◌}
use Rattle.sides.specs.declared.numbers.Numbers.{Numbers}
use Rattle.sides.specs.Deciding.{Decides}
use Rattle.sides.specs.Members.{member}
use Rattle.sides.specs.Merging.{IsAdded, OnBoth}
use Rattle.sides.proofs.Deciding.{decides_yes}
use Rattle.sides.proofs.NumberSides.{small, past_both}
use Rattle.sides.proofs.Sets.{member_iff}
use Rattle.sides.proofs.fitting.on_both.Goals as goal

-- what was answered of a number on a side
found : {x : ℕ} {side : List ℕ} {r : Bool} → r ≡ member x side → r ≡ true → x ∈ side
found {x} {side} e t = (member_iff x side).0 (sym e ∙ t)

missing : {x : ℕ} {side : List ℕ} {r : Bool} → r ≡ member x side → r ≡ false → x ∈ side → ⊥
missing {x} {side} e f m = false≢true (sym f ∙ e ∙ (member_iff x side).1 m)

module _ {x : ℕ} {b c : List ℕ} {q r : Numbers} where
  first_alone : x ∈ b → (x ∈ c → ⊥) → {t : Bool} → Decides (IsAdded q x) t → Decides (OnBoth x b q c r) t
  first_alone m n d = record {
    sound = λ e. (λ k. inl (d.sound e), λ k. absurd (n k));
    complete = λ h. d.complete (⊎_elim (λ a. a) (λ k. absurd (n k)) (h.0 m));
  }

  both_same : (t : Bool) → t ≡ member x b → t ≡ member x c → Decides (OnBoth x b q c r) true
  both_same true e f = decides_yes (λ k. inr (found f refl), λ k. inr (found e refl))
  both_same false e f = decides_yes (λ k. absurd (missing e refl k), λ k. absurd (missing f refl k))

  second_alone : (x ∈ b → ⊥) → x ∈ c → {t : Bool} → Decides (IsAdded r x) t → Decides (OnBoth x b q c r) t
  second_alone n m d = record {
    sound = λ e. (λ k. absurd (n k), λ k. inl (d.sound e));
    complete = λ h. d.complete (⊎_elim (λ a. a) (λ k. absurd (n k)) (h.1 m));
  }

module _ (b : List ℕ) (q : Numbers) (c : List ℕ) (r : Numbers) {z x : ℕ} (e : z ≡ x) {t : Bool} where
  -- the number as one of 16 bits
  narrowed : Decides (OnBoth z b q c r) t → Decides (OnBoth x b q c r) t
  narrowed d = subst (λ (y : ℕ). Decides (OnBoth y b q c r) t) e d

pub returns-in-true-false : goal.returns-in-true-false
returns-in-true-false c =
    let args = c.args in
    narrowed args.b.now args.at_b args.c.now args.at_c c.in-Ok.ensures.1
    (first_alone (found c.in-true-false.ensures refl) (missing c.in-true-false.ensures' refl) c.is_added.ensures)

pub returns-in-false-true : goal.returns-in-false-true
returns-in-false-true c =
    let args = c.args in
    narrowed args.b.now args.at_b args.c.now args.at_c c.in-Ok.ensures.1
    (second_alone (missing c.in-false-true.ensures refl) (found c.in-false-true.ensures' refl) c.is_added-in-false-true.ensures)

pub returns-in_default : goal.returns-in_default
returns-in_default c =
    let args = c.args in
    let b-small = small args.b.now (λ i. omega (arith, c.type_inv.b i)) in
    let c-small = small args.c.now (λ i. omega (arith, c.type_inv.c i)) in
    decides_yes (past_both args.b.now args.at_b args.c.now args.at_c b-small c-small args.x (omega (arith, c.in_default.ensures)))

pub returns-in_default-2 : goal.returns-in_default-2
returns-in_default-2 c =
    let args = c.args in
    narrowed args.b.now args.at_b args.c.now args.at_c c.in-Ok.ensures.1 (both_same _ c.in_default-2.ensures c.in_default-2.ensures')

pub returns-in_default-2-2 : goal.returns-in_default-2-2
returns-in_default-2-2 c =
    let args = c.args in
    narrowed args.b.now args.at_b args.c.now args.at_c c.in-Ok.ensures.1 (both_same _ c.in_default-2.ensures c.in_default-2.ensures')
