-- The arm of a `match` on a shape that takes several of them tells their tags: the shape is none of the others.
use Prim.Native.Nat.{ℕ}
use mathlib.Core.Bool.{Bool, true, false, ◌||◌, true≢false, or-true}
use mathlib.Core.List.{List, [], ◌∷◌}
use mathlib.Core.Logic.{inl, inr, ◌≢◌}
use mathlib.Core.Path.{◌≡◌, sym, ap, ◌∙◌}
use borrow.Author.Tests.{eq-eqb}
use denote.Enum.Declared.{tag_of}
use types.Run.{OneOf}
use lib.Dec.{eqb}
use Rattle.format.specs.Text.{any}
use Rattle.shapes.specs.declared.Shape.{Shape}
use Rattle.shapes.specs.contracts.Shape.{the_type}

abbrev pub tag : Shape → ℕ
tag s = tag_of the_type s

one_of : (ks : List ℕ) (x : ℕ) → OneOf ks x → any (λ k. eqb x k) ks ≡ true
one_of [] x h = absurd h
one_of (k ∷ []) x h = ap (λ (t : Bool). t || false) (eq-eqb x k h)
one_of (k ∷ j ∷ js) x (inl h) = ap (λ (t : Bool). t || any (λ k. eqb x k) (j ∷ js)) (eq-eqb x k h)
one_of (k ∷ j ∷ js) x (inr h) = ap (λ (t : Bool). eqb x k || t) (one_of (j ∷ js) x h) ∙ or-true (eqb x k)

-- a tag that is not listed is not the shape's
pub not_tag : (ks : List ℕ) (t : ℕ) {x : ℕ} → any (λ k. eqb t k) ks ≡ false → OneOf ks x → x ≢ t
not_tag ks t {x} e h k = true≢false (sym (one_of ks x h) ∙ ap (λ (y : ℕ). any (λ k. eqb y k) ks) k ∙ e)
