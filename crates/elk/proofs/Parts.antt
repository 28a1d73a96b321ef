-- The form of a principal formula: the formula has at most one pair of parts, which is read off it, and whether it is
-- of the form is decided by building it again from them.
use mathlib.Core.Path.{◌≡◌, refl, sym, subst}
use Rattle.equilibrium.specs.Formula.{Formula, falsum, atom, neg, conj, disj, imp}
use Rattle.equilibrium.proofs.Sets.{dec_map}
use Rattle.elk.specs.Rules.{Form, any, falsity, negation, conjunction, disjunction, implication, double_negation, negated_conjunction}
use Rattle.elk.specs.Rules.{negated_disjunction, negated_implication, Fits, is_any, is_falsity, is_negation, is_conjunction, is_disjunction}
use Rattle.elk.specs.Rules.{is_implication, is_double_negation, is_negated_conjunction, is_negated_disjunction, is_negated_implication}
use Rattle.elk.proofs.Equality.{formula_discrete}

-- what stands before and behind the connective; anything where there is none
abbrev pub operands : Formula → Formula × Formula
operands falsum = (falsum, falsum)
operands (atom p) = (falsum, falsum)
operands (neg A) = (A, A)
operands (conj A B) = (A, B)
operands (disj A B) = (A, B)
operands (imp A B) = (A, B)

-- the parts A and B of a formula, if it is of the form
abbrev pub parts : Form → Formula → Formula × Formula
parts any F = (F, F)
parts falsity F = (falsum, falsum)
parts negation F = operands F
parts conjunction F = operands F
parts disjunction F = operands F
parts implication F = operands F
parts double_negation F = operands (operands F).0
parts negated_conjunction F = operands (operands F).0
parts negated_disjunction F = operands (operands F).0
parts negated_implication F = operands (operands F).0

-- the formula of the form with the parts
abbrev pub built : Form → Formula × Formula → Formula
built any p = p.0
built falsity p = falsum
built negation p = neg p.0
built conjunction p = conj p.0 p.1
built disjunction p = disj p.0 p.1
built implication p = imp p.0 p.1
built double_negation p = neg (neg p.0)
built negated_conjunction p = neg (conj p.0 p.1)
built negated_disjunction p = neg (disj p.0 p.1)
built negated_implication p = neg (imp p.0 p.1)

-- a formula of the form has these parts and no others, and is built of them
pub fits_parts : {f : Form} {F G H : Formula} → Fits f F G H → ((G, H) ≡ parts f F) × (F ≡ built f (parts f F))
fits_parts is_any = (refl, refl)
fits_parts is_falsity = (refl, refl)
fits_parts is_negation = (refl, refl)
fits_parts is_conjunction = (refl, refl)
fits_parts is_disjunction = (refl, refl)
fits_parts is_implication = (refl, refl)
fits_parts is_double_negation = (refl, refl)
fits_parts is_negated_conjunction = (refl, refl)
fits_parts is_negated_disjunction = (refl, refl)
fits_parts is_negated_implication = (refl, refl)

-- what can be built again is of the form
pub fits_built : (f : Form) (F : Formula) → F ≡ built f (parts f F) → Fits f F (parts f F).0 (parts f F).1
fits_built f F e = subst (λ X. Fits f X (parts f X).0 (parts f X).1) (sym e) (again f (parts f F))
  where
    again : (g : Form) (p : Formula × Formula) → Fits g (built g p) (parts g (built g p)).0 (parts g (built g p)).1
    again any p = is_any
    again falsity p = is_falsity
    again negation p = is_negation
    again conjunction p = is_conjunction
    again disjunction p = is_disjunction
    again implication p = is_implication
    again double_negation p = is_double_negation
    again negated_conjunction p = is_negated_conjunction
    again negated_disjunction p = is_negated_disjunction
    again negated_implication p = is_negated_implication

unfoldable pub fits? : (f : Form) (F : Formula) → Dec ((G : Formula) × (H : Formula) × Fits f F G H)
unfolding dec_map formula_discrete
fits? f F = dec_map (λ e. ((parts f F).0, (parts f F).1, fits_built f F e)) (λ s. (fits_parts s.2).1) (formula_discrete F (built f (parts f F)))
