-- The test of a model against every proper part of it, over formulas and lists of atoms. It is exact: a strictly rising T passes it
-- exactly if it is an equilibrium model. Assumes nothing.
use Prim.Native.Nat.{ℕ, ◌+◌, ◌^◌, ◌<◌}
use native.Mathlib.Decide.{dec_lt}
use native.Mathlib.Omega.{arith}
use mathlib.Core.List.{List}
use mathlib.Core.Logic.{◌↔◌, dite}
use lib.ListN.{length}
use Rattle.equilibrium.specs.Formula.{Formula}
use Rattle.equilibrium.specs.Meaning.{◌⊆◌, AllHold, Equilibrium}
use Rattle.equilibrium.proofs.Sets.{≈-sym}
use Rattle.equilibrium.proofs.Satisfaction.{same_agree, all_agree}
use Rattle.elk.specs.Instance.{Rising}
use Rattle.pairs.specs.Parts.{part}
use Rattle.pairs.proofs.Parts.{part_inside, every_part, last_whole, whole_last}

-- part n of T upsets T: with T it satisfies L
abbrev pub Upsets : List Formula → List ℕ → ℕ → Type 0
Upsets L T n = AllHold (part n T) T L

-- T satisfies L, and no proper part of it, counted from 0 to the last but one, upsets it
pub record Tested (L : List Formula) (T : List ℕ) : Type 0 where
  pub model : AllHold T T L
  pub undisturbed : (n : ℕ) → n + 1 < 2 ^ length T → Upsets L T n → ⊥

-- every part is counted, so that nothing smaller satisfies L
tested_equilibrium : {L : List Formula} {T : List ℕ} → Tested L T → Equilibrium L T
tested_equilibrium {L} {T} t = record { model = t.model; least = least }
  where
    least : (H : List ℕ) → H ⊆ T → (T ⊆ H → ⊥) → AllHold H T L → ⊥
    least H s proper h =
        let w = every_part s in
        dite (dec_lt (w.0 + 1) (2 ^ length T))
        (λ l. t.undisturbed w.0 l (all_agree {L = L} (same_agree (≈-sym w.2) _) (λ p m. (λ x. x, λ x. x)) h))
        (λ n. proper (λ p m. w.2.0 p (last_whole w.0 T (omega (arith, w.1)) p m)))

-- and each but the last is a proper part
equilibrium_tested : {L : List Formula} {T : List ℕ} → Rising T → Equilibrium L T → Tested L T
equilibrium_tested {L} {T} r e = record { model = e.model; undisturbed = λ n l. e.least (part n T) (part_inside n T) (proper n l) }
  where
    proper : (n : ℕ) → n + 1 < 2 ^ length T → T ⊆ part n T → ⊥
    proper n l s = let w = whole_last n T r (omega arith) s in omega arith

-- the test is exact
pub tested_iff : {L : List Formula} {T : List ℕ} → Rising T → Tested L T ↔ Equilibrium L T
tested_iff r = (tested_equilibrium, equilibrium_tested r)
