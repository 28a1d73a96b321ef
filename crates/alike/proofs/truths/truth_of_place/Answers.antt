-- `alike::truths::truth_of_place` meets its contract: the constant blocks by a computation over their digits. Assumes nothing.
use Prim.Native.Nat.{ℕ, ◌≤◌}
use mathlib.Core.Bool.{Bool, cond}
use mathlib.Core.Path.{◌≡◌, refl, sym, ap, subst, ◌∙◌}
use native.Mathlib.Omega.{arith}
use lib.Dec.{eqb, ltb}
use borrow.Author.Tests.{le-ltb}
use Rattle.atomset.specs.AtomSet.{has}
use Rattle.alike.specs.Blocks.{word_of, digit}
use Rattle.alike.specs.Truths.{inner_places, third, here_at, there_at, PlaceSeen, PlaceTruth}
use Rattle.alike.specs.declared.blocks.Block.{Block}
use Rattle.alike.specs.declared.blocks.Truth.{Truth}
use Rattle.alike.proofs.TruthBits.{agree, agree_below}
use Rattle.alike.proofs.truths.truth_of_place.Goals as goal

-- the blocks of a place that goes through all that it can be, whatever the sets
abbrev Const : ℕ → Block → Block → Type 0
Const place here there = (h t : ℕ) → PlaceSeen place h t (record { here = here; there = there })

place_zero : Const 0 (record { w0 = 5270498306774157604; w1 = 2635249153387078802; w2 = 10540996613548315209; w3 = 5270498306774157604 })
    (record { w0 = 7905747460161236406; w1 = 13176245766935394011; w2 = 15811494920322472813; w3 = 7905747460161236406 })
unfolding agree digit word_of has third here_at there_at
place_zero h t n l = (agree_below (digit _) (here_at h 0) 256 refl n l, agree_below (digit _) (there_at t 0) 256 refl n l)

place_one : Const 1 (record { w0 = 8086243977516515776; w1 = 4043121988758257888; w2 = 2021560994379128944; w3 = 1010780497189564472 })
    (record { w0 = 9097024474706080248; w1 = 4548512237353040124; w2 = 2274256118676520062; w3 = 10360500096193035839 })
unfolding agree digit word_of has third here_at there_at
place_one h t n l = (agree_below (digit _) (here_at h 1) 256 refl n l, agree_below (digit _) (there_at t 1) 256 refl n l)

place_two : Const 2 (record { w0 = 17979214271348736; w1 = 13835075613108600576; w2 = 2301339426732638335; w3 = 2247401783918592 })
    (record { w0 = 9241386366778998272; w1 = 18437754466573877247; w2 = 2305834230300475519; w3 = 17296074360343232448 })
unfolding agree digit word_of has third here_at there_at
place_two h t n l = (agree_below (digit _) (here_at h 2) 256 refl n l, agree_below (digit _) (there_at t 2) 256 refl n l)

place_three : Const 3 (record { w0 = 18428729675200069632; w1 = 131071; w2 = 17179869056; w3 = 2251799796908032 })
    (record { w0 = 18446744073575333888; w1 = 18446726481523638271; w2 = 16140901081675726847; w3 = 2251799813685247 })
unfolding agree digit word_of has third here_at there_at
place_three h t n l = (agree_below (digit _) (here_at h 3) 256 refl n l, agree_below (digit _) (there_at t 3) 256 refl n l)

place_four : Const 4 (record { w0 = 0; w1 = 0; w2 = 18446744056529682432; w3 = 2251799813685247 })
    (record { w0 = 0; w1 = 18446744073709420544; w2 = 18446744073709551615; w3 = 2251799813685247 })
unfolding agree digit word_of has third here_at there_at
place_four h t n l = (agree_below (digit _) (here_at h 4) 256 refl n l, agree_below (digit _) (there_at t 4) 256 refl n l)

-- so it is for both smaller sets
both_seen : (place : ℕ) {here there : Block} → Const place here there → (s : ℕ) → s ≡ place → {r : Truth}
    → (r.here ≡ here) × (r.also ≡ here) × (r.there ≡ there)
    → (h g t : ℕ) → PlaceTruth s h g t r
both_seen place {here} {there} const s e {r} (a, b, c) h g t = subst (λ (p : ℕ). PlaceTruth p h g t r) (sym e) (record {
  first = λ n l. let k = const h t n l in (ap (λ (x : Block). digit x n) a ∙ k.0, ap (λ (x : Block). digit x n) c ∙ k.1);
  second = λ n l. let k = const g t n l in (ap (λ (x : Block). digit x n) b ∙ k.0, ap (λ (x : Block). digit x n) c ∙ k.1);
})

-- a place from 5 on
five_on : (place : ℕ) → inner_places ≤ place → (h t n : ℕ) → (here_at h place n ≡ has h place) × (there_at t place n ≡ has t place)
unfolding here_at there_at
five_on place l h t n = (
  ap (λ (x : Bool). cond x (eqb (third n place) 2) (has h place)) (le-ltb place inner_places l),
  ap (λ (x : Bool). cond x (ltb 0 (third n place)) (has t place)) (le-ltb place inner_places l),
)

pub returns-then-place-eq0 : goal.returns-then-place-eq0
returns-then-place-eq0 c =
    let args = c.args in
    both_seen 0 place_zero args.place c.if-place-eq0.true c.at_all.ensures args.sets.h args.sets.g args.sets.t

pub returns-then-place-eq1 : goal.returns-then-place-eq1
returns-then-place-eq1 c =
    let args = c.args in
    both_seen 1 place_one args.place c.if-place-eq1.true c.at_all-then-place-eq1.ensures args.sets.h args.sets.g args.sets.t

pub returns-then-place-eq2 : goal.returns-then-place-eq2
returns-then-place-eq2 c =
    let args = c.args in
    both_seen 2 place_two args.place c.if-place-eq2.true c.at_all-then-place-eq2.ensures args.sets.h args.sets.g args.sets.t

pub returns-then-place-eq3 : goal.returns-then-place-eq3
returns-then-place-eq3 c =
    let args = c.args in
    both_seen 3 place_three args.place c.if-place-eq3.true c.at_all-then-place-eq3.ensures args.sets.h args.sets.g args.sets.t

pub returns-then-place-eq4 : goal.returns-then-place-eq4
returns-then-place-eq4 c =
    let args = c.args in
    both_seen 4 place_four args.place c.if-place-eq4.true c.at_all-then-place-eq4.ensures args.sets.h args.sets.g args.sets.t

pub returns : goal.returns
returns c =
    let args = c.args in
    let high : inner_places ≤ args.place = omega (
      arith,
      c.if-place-eq4.false,
      c.if-place-eq3.false,
      c.if-place-eq2.false,
      c.if-place-eq1.false,
      c.if-place-eq0.false,
    ) in
    record {
      first = λ n l. let later = five_on args.place high args.sets.h args.sets.t n in
          (c.spread.ensures n l ∙ sym later.0, c.spread-3.ensures n l ∙ sym later.1);
      second = λ n l. let later = five_on args.place high args.sets.g args.sets.t n in
          (c.spread-2.ensures n l ∙ sym later.0, c.spread-3.ensures n l ∙ sym later.1);
    }
