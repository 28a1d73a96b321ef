-- `literals::initial_step` meets its contract: the tests are those of the definition, which is `xini` in a good body.
use Prim.Native.Nat.{ℕ}
use mathlib.Core.Bool.{Bool, false, false≢true}
use mathlib.Core.List.{List}
use mathlib.Core.Path.{◌≡◌, sym, ◌∙◌}
use Rattle.atomset.specs.AtomSet.{Member}
use Rattle.sides.specs.Deciding.{Decides}
use Rattle.sides.proofs.Deciding.{decides_no, decides_iff}
use Rattle.literals.specs.declared.Literals.{Literals}
use Rattle.literals.specs.Literals.{Collects, InitialIn, InitialStep}
use Rattle.literals.proofs.LiteralRules.{initial_instance}
use Rattle.literals.proofs.initial_step.Goals as goal
use Rattle.literals.proofs.initial_step.Goals.{
  then-l-via-then-l,
  then-l-via-else-l+then-l-2,
  then-l-via-else-l+else-l-2+then-r,
  then-l-via-else-l+else-l-2+else-r+then-r-2,
}

-- two sets of atoms with no member in common
abbrev Apart : ℕ → ℕ → Type 0
Apart m n = (i : ℕ) → Member i m → Member i n → ⊥

-- the tests on the literals of the two sides
record Initial (l r : Literals) : Type 0 where
  no_falsum : l.falsum ≡ false
  left_literals : l.other ≡ false
  no_verum : r.verum ≡ false
  right_literals : r.other ≡ false
  consistent : Apart l.atoms l.negated
  atoms_apart : Apart l.atoms r.atoms
  negated_apart : Apart l.negated r.negated

module _ {formulas left right : List ℕ} {l r : Literals} (cl : Collects formulas left l) (cr : Collects formulas right r) where
  asked : InitialIn formulas left right → Initial l r
  asked h = record {
    no_falsum = cl.falsum ∙ h.no_falsum;
    left_literals = cl.other ∙ h.left_literals;
    no_verum = cr.verum ∙ h.no_verum;
    right_literals = cr.other ∙ h.right_literals;
    consistent = λ p m n. h.consistent p (sym (cl.atoms p) ∙ m) (sym (cl.negated p) ∙ n);
    atoms_apart = λ p m n. h.atoms_apart p (sym (cl.atoms p) ∙ m) (sym (cr.atoms p) ∙ n);
    negated_apart = λ p m n. h.negated_apart p (sym (cl.negated p) ∙ m) (sym (cr.negated p) ∙ n);
  }

  passed : Initial l r → InitialIn formulas left right
  passed h = record {
    no_falsum = sym cl.falsum ∙ h.no_falsum;
    left_literals = sym cl.other ∙ h.left_literals;
    no_verum = sym cr.verum ∙ h.no_verum;
    right_literals = sym cr.other ∙ h.right_literals;
    consistent = λ p m n. h.consistent p (cl.atoms p ∙ m) (cl.negated p ∙ n);
    atoms_apart = λ p m n. h.atoms_apart p (cl.atoms p ∙ m) (cr.atoms p ∙ n);
    negated_apart = λ p m n. h.negated_apart p (cl.negated p ∙ m) (cr.negated p ∙ n);
  }

  -- an answer that decides the tests
  step : {answer : Bool} → Decides (InitialIn formulas left right) answer → InitialStep formulas left right answer
  step d = record { answer = d; decides = λ b g sl sr. decides_iff (initial_instance g sl sr) d }

  -- a test that fails
  fails : (Initial l r → ⊥) → InitialStep formulas left right false
  fails n = step (decides_no (λ h. n (asked h)))

  last : {answer : Bool} → Decides (Initial l r) answer → InitialStep formulas left right answer
  last d = step (decides_iff (passed, asked) d)

pub returns-then-l : goal.returns-then-l
returns-then-l c =
    fails c.literals_of-l.ensures c.literals_of-r.ensures (λ i. elim c.then-l.branch [
      | then-l-via-then-l w ↦ false≢true (sym i.no_falsum ∙ w.if-l.true)
      | then-l-via-else-l+then-l-2 w ↦ false≢true (sym i.left_literals ∙ w.if-l-2.true)
      | then-l-via-else-l+else-l-2+then-r w ↦ false≢true (sym i.no_verum ∙ w.if-r.true)
      | then-l-via-else-l+else-l-2+else-r+then-r-2 w ↦ false≢true (sym i.right_literals ∙ w.if-r-2.true)
    ])

pub returns-then-not-disjoint : goal.returns-then-not-disjoint
returns-then-not-disjoint c =
    fails c.literals_of-l.ensures c.literals_of-r.ensures
    (λ i. false≢true (sym c.if-not-disjoint.true ∙ c.disjoint.ensures.1 i.consistent))

pub returns-then-not-disjoint-2 : goal.returns-then-not-disjoint-2
returns-then-not-disjoint-2 c =
    fails c.literals_of-l.ensures c.literals_of-r.ensures
    (λ i. false≢true (sym c.if-not-disjoint-2.true ∙ c.disjoint-2.ensures.1 i.atoms_apart))

pub returns : goal.returns
returns c =
    last c.literals_of-l.ensures c.literals_of-r.ensures (record {
      sound = λ t. record {
        no_falsum = c.if-l.false;
        left_literals = c.if-l-2.false;
        no_verum = c.if-r.false;
        right_literals = c.if-r-2.false;
        consistent = c.disjoint.ensures.0 c.if-not-disjoint.false;
        atoms_apart = c.disjoint-2.ensures.0 c.if-not-disjoint-2.false;
        negated_apart = c.disjoint-3.ensures.0 t;
      };
      complete = λ i. c.disjoint-3.ensures.1 i.negated_apart;
    })
