-- `alike::under::mark_parts` meets its contract.
use Prim.Native.Nat.{ℕ, ◌≤◌, ◌<◌}
use native.Mathlib.Omega.{arith}
use mathlib.Core.List.{List}
use mathlib.Core.Path.{◌≡◌, refl, sym, subst, ◌∙◌}
use lib.ListN.{length}
use Rattle.tables.specs.Records.{node_at, record_from}
use Rattle.tables.specs.declared.records.NodeRecord.{NodeRecord}
use Rattle.alike.specs.Under.{PartOf, first_part, second_part, PartIn, Marked, MarkedBefore, PartsMarked}
use Rattle.alike.proofs.under.mark_parts.Goals as goal

module _ {formulas : List ℕ} {i : ℕ} {key : NodeRecord} (is : key ≡ record_from (node_at formulas i)) where
  part_of : {p : ℕ} → PartIn formulas i p → PartOf key p
  part_of {p} part = subst (λ (n : NodeRecord). PartOf n p) (sym is) part.part

  -- a formula without parts
  none_marked : {marks : List ℕ} → key.word < 2 → PartsMarked formulas i marks marks
  none_marked {marks} few = record { long = refl; kept = λ x m. m; parts = λ p part l. no p (part_of part); others = λ x l. refl }
    where
      no : (p : ℕ) → PartOf key p → Marked marks p
      no p (first_part h) = absurd (omega arith)
      no p (second_part h) = absurd (omega arith)

  -- one part
  one_marked : {before after : List ℕ} {x : ℕ} → x ≡ key.first → key.word < 3 → MarkedBefore x i before after → PartsMarked formulas i before after
  one_marked {before} {after} e few m =
      record { long = m.long; kept = m.kept; parts = λ p part l. mark p (part_of part) part.before l; others = m.others }
    where
      mark : (p : ℕ) → PartOf key p → p < i → i ≤ length before → Marked after p
      mark p (first_part h) b l = subst (Marked after) e (m.marked (omega arith) l)
      mark p (second_part h) b l = absurd (omega arith)

  -- two parts
  two_marked : {before between after : List ℕ} {x y : ℕ} → x ≡ key.first → y ≡ key.second → MarkedBefore x i before between
      → MarkedBefore y i between after → PartsMarked formulas i before after
  two_marked {before} {between} {after} e f m k = record {
    long = k.long ∙ m.long;
    kept = λ x w. k.kept x (m.kept x w);
    parts = λ p part l. mark p (part_of part) part.before l;
    others = λ x l. k.others x l ∙ m.others x l;
  }
    where
      mark : (p : ℕ) → PartOf key p → p < i → i ≤ length before → Marked after p
      mark p (first_part h) b l = k.kept p (subst (Marked between) e (m.marked (omega arith) l))
      mark p (second_part h) b l = subst (Marked after) f (k.marked (omega arith) (omega (arith, m.long)))

pub returns-then-key-lt-NOT : goal.returns-then-key-lt-NOT
returns-then-key-lt-NOT c = none_marked c.node-key.ensures c.if-key-lt-NOT.true

pub shape_of-marks-then-key-lt-AND : goal.shape_of-marks-then-key-lt-AND
shape_of-marks-then-key-lt-AND c = c.mark.ensures.long

pub returns-then-key-lt-AND : goal.returns-then-key-lt-AND
returns-then-key-lt-AND c = one_marked c.node-key.ensures c.from.ensures c.if-key-lt-AND.true c.mark.ensures

pub shape_of-marks : goal.shape_of-marks
shape_of-marks c = c.mark-2.ensures.long ∙ c.mark.ensures.long

pub returns : goal.returns
returns c =
    two_marked c.node-key.ensures c.from.ensures c.from-2.ensures c.mark.ensures
    c.mark-2.ensures
