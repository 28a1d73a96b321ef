use Prim.Native.Nat.{ℕ, max, ◌+◌}
use native.Mathlib.Numerals.{add-one}
use native.Mathlib.Omega.{arith}
use mathlib.Core.Bool.{Bool, ◌&&◌}
use mathlib.Core.Path.{◌≡◌, refl, sym, ap, ap₂, ◌∙◌}
use lib.Dec.{leb}
use lib.ListN.{length, get_or, take}
use lib.Seq.{take_all, take-suc}
use Rattle.format.specs.Text.{strictly_rising}
use Rattle.text.specs.Lists.{listed_of, above as aboveAll}
use Rattle.handed.proofs.Stored.{list_more}
use Rattle.handed.proofs.derivation.list_known.Goals as goal
use Rattle.handed.proofs.derivation.list_known.Goals.{then-rising, else-rising}

pub loop-x-init : goal.loop-x-init
unfolding aboveAll strictly_rising
loop-x-init c = refl

pub loop-x-preserved : goal.loop-x-preserved
loop-x-preserved c =
    let list = c.args.list.now in
    let loop = c.loop-x in
    let x = get_or list loop.x-index 0 in
    let risen : c.if-rising.rising ≡ (loop.rising && leb loop.above x) =
    elim c.if-rising.branch [
      | then-rising w ↦ w.rising-is ∙ ap (leb loop.above) c.from-x.ensures ∙ sym (ap (λ (b : Bool). b && leb loop.above x) w.if-rising.true)
      | else-rising w ↦ w.rising-is ∙ w.if-rising.false ∙ sym (ap (λ (b : Bool). b && leb loop.above x) w.if-rising.false)
    ] in
    let past : c.max-above.result ≡ max loop.above (x + 1) =
    c.max-above.ensures ∙ ap (λ (k : ℕ). max loop.above (k + 1)) c.from-x.ensures in
    ap₂ (λ (k : ℕ) (b : Bool). record { count = loop.x-index + 1; above = k; rising = b }) past risen
    ∙ list_more (take loop.x-index list) x loop.x-index loop.above loop.rising loop.invariant (omega (arith, c.well_formed))
    ∙ ap listed_of (sym (ap (λ (k : ℕ). take k list) (add-one loop.x-index) ∙ take-suc list loop.x-index 0 c.loop-x-test.true))

pub returns : goal.returns
returns c =
    let list = c.args.list.now in
    let loop = c.loop-x in
    let end : length list ≡ loop.x-index = omega arith in
    ap (λ (n : ℕ). record { count = n; above = loop.above; rising = loop.rising }) end
    ∙ loop.invariant ∙ ap listed_of (take_all loop.x-index list c.loop-x-test.false)
