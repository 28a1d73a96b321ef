-- A derivation goes on where a constraint joins the sheet: by two rows for `~A`, by four for `A->#`.
use mathlib.Core.Path.{refl, subst}
use mathlib.Core.List.Memᴰ
use mathlib.Core.List.{List, [], ◌∷◌, ◌++◌, map}
use mathlib.Core.Option.{some}
use Rattle.equilibrium.specs.Formula.{Formula, falsum, neg, imp}
use Rattle.equilibrium.specs.Meaning.{◌∈◌}
use Rattle.equilibrium.specs.Constraints.{negated, falsum_follows}
use Rattle.equilibrium.proofs.Sets.{≈-cons}
use Rattle.elk.specs.Sequent.{Kind, Sequent, ◌⇒◌}
use Rattle.elk.specs.Rules.{wr, same, bot, notl, impl, rules, Fits, is_any, is_falsity, is_negation, is_implication, Schema}
use Rattle.elk.specs.Instance.{meant, filled, SchemaInstance}
use Rattle.elk.specs.Derivation.{Derivation, row}
use Rattle.elk.specs.Constraints.{between, ConstraintRows, ConstraintsDerived}
use Rattle.elk.proofs.Sides.{nil_part, first_in}
use Rattle.elk.proofs.RuleCodes.{every_rule}
use Rattle.elk.proofs.Steps.{same_refl, all_same_refl}
use Rattle.elk.proofs.CommonSets.{every_cons}

-- a line of the table with L and R put in
step : {t : Schema} {F G H : Formula} → Fits t.form F G H → (L R : List Formula)
    → SchemaInstance t F (map (filled (meant F G H) L R t.kind) t.premises) (filled (meant F G H) L R t.kind t.conclusion)
step {t} {F} {G} {H} f L R =
    let premises = map (filled (meant F G H) L R t.kind) t.premises in
    record { first = G; second = H; fits = f; L = L; R = R; above = all_same_refl premises; below = same_refl }

module _ {rows : List Sequent} {L R : List Formula} where
  -- A as one more on the right
  with_right : {A : Formula} → (L ⇒ R) ∈ rows → Derivation rules rows → Derivation rules ((L ⇒ A ∷ R) ∷ rows)
  with_right {A} m d = row d wr (every_rule wr) (some A) ((L ⇒ R) ∷ []) (every_cons.1 (m, nil_part)) (step is_any L R)

  -- anything on the right of #
  from_falsum : Derivation rules rows → Derivation rules ((falsum ∷ L ⇒ R) ∷ (falsum ∷ L ⇒ falsum ∷ R) ∷ rows)
  from_falsum d =
      let initial = row d same (every_rule same) (some falsum) [] nil_part (step is_any L R) in
      row initial bot (every_rule bot) (some falsum) ((falsum ∷ L ⇒ falsum ∷ R) ∷ []) (every_cons.1 (first_in, nil_part)) (step is_falsity (falsum ∷ L) R)

pub constraint_rows : ConstraintRows
constraint_rows A C negated L R rows m d =
    row (with_right m d) notl (every_rule notl) (some (neg A)) ((L ⇒ A ∷ R) ∷ []) (every_cons.1 (first_in, nil_part)) (step is_negation L R)
constraint_rows A C falsum_follows L R rows m d =
    row (from_falsum (with_right m d)) impl (every_rule impl) (some (imp A falsum)) ((falsum ∷ L ⇒ neg A ∷ R) ∷ (L ⇒ A ∷ R) ∷ [])
    (every_cons.1 (first_in, every_cons.1 (Memᴰ.tail (Memᴰ.tail first_in), nil_part))) (step is_implication L R)

pub constraints_derived : ConstraintsDerived
constraints_derived A C k L R e =
    record {
      last = C ∷ P ⇒ Q;
      earlier = between k P Q ++ rows;
      derivation = constraint_rows A C k P Q rows there e.derivation;
      ends = record { kind = refl; left = ≈-cons e.ends.left; right = e.ends.right };
    }
  where
    P : List Formula
    P = e.last.left

    Q : List Formula
    Q = e.last.right

    rows : List Sequent
    rows = e.last ∷ e.earlier

    there : (P ⇒ Q) ∈ rows
    there = subst (λ (kind : Kind). record { kind = kind; left = P; right = Q } ∈ rows) e.ends.kind first_in
