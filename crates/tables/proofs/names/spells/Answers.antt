-- `tables::names::spells` meets its contract: the part of the text is taken where it lies inside, and is compared whole. Assumes nothing.
use Prim.Native.Nat.{ℕ, ◌+◌, ◌-◌}
use native.Mathlib.Omega.{arith}
use mathlib.Core.Bool.{Bool, false, ◌&&◌}
use mathlib.Core.List.{List}
use mathlib.Core.Path.{◌≡◌, sym, ap, ap₂, ◌∙◌}
use borrow.Author.Rules.{rules}
use borrow.Author.Tests.{le-leb, lt-leb}
use denote.Bor.{Bor}
use lib.ListN.{take, drop}
use Rattle.std.specs.Prelude.{Option, Some, None, MatchOption}
use Rattle.std.specs.Slice.{IsGetRangeResult}
use Rattle.format.specs.Text.{same_list}
use Rattle.tables.specs.Names.{spelled}
use Rattle.tables.proofs.names.spells.Goals as goal

module _ (text name : List ℕ) (start len : ℕ) where
  answered : (from to : ℕ) (r : Option (Bor (List ℕ))) (b : Bool) (Q : Bor (List ℕ) → Type 0)
      → IsGetRangeResult text from to r → MatchOption r (b ≡ false) Q → ((x : Bor (List ℕ)) → Q x → b ≡ same_list x.now name)
      → from ≡ start → to ≡ start + len → b ≡ spelled text start len name
  unfolding spelled
  answered from to None b Q g m q f e =
      m ∙ sym (ap (λ (inside : Bool). inside && same_list (take len (drop start text)) name) (lt-leb (start + len) _ (omega (arith, g))))
  answered from to (Some x) b Q g m q f e =
      let count : to - from ≡ len = omega arith in
      q x m
      ∙ ap (λ (l : List ℕ). same_list l name) (g.0.2 ∙ ap₂ (λ (k at : ℕ). take k (drop at text)) count f)
      ∙ sym (ap (λ (inside : Bool). inside && same_list (take len (drop start text)) name) (le-leb (start + len) _ (omega arith)))

pub returns : goal.returns
returns c =
    answered c.args.text.now c.args.name.now c.args.start c.args.len _ _ _ _ _ c.get.ensures.lookup c.is_some_and.ensures
    (λ x k. search rules) c.from-from.ensures (omega arith)
