-- Rows derived by hand from 01's text and 02's: for each rule rows in general position that are instances, near misses
-- that are none, rows that number 18 is given, and the rows of 01's whole file. Faithful proves them so.
use mathlib.Core.List.{List, [], ◌∷◌}
use mathlib.Core.Option.{Option, none, some}
use Rattle.equilibrium.specs.Formula.{Formula, falsum, atom, neg, conj, disj, imp}
use Rattle.elk.specs.Sequent.{Sequent, ◌⇒◌, ◌⨾◌}
use Rattle.elk.specs.Rules.{Rule, def, same, andl, andr, wr, bot, orr, orl, notl, impr, impl, notr, rcut, unst, xini}
use Rattle.elk.specs.Rules.{xnnl, xnnr, xandl, xandr1, xandr2, xorr, xorl1, xorl2, ximpl1, ximpl2, ximpl3, ximpr1}
use Rattle.elk.specs.Rules.{ximpr2, xnimpl, xnimpr1, xnimpr2, xnandl1, xnandl2, xnandr, xnorl, xnorr1, xnorr2, swap}

-- Formulas as 01 writes them, with ∣ for its bar.
infixr 80 ~◌
infixr 75 ◌&◌
infixr 74 ◌∣◌
infixr 73 ◌->◌
abbrev pub # : Formula
# = falsum

abbrev pub ~◌ : Formula → Formula
~◌ = neg

abbrev pub ◌&◌ : Formula → Formula → Formula
◌&◌ = conj

abbrev pub ◌∣◌ : Formula → Formula → Formula
◌∣◌ = disj

abbrev pub ◌->◌ : Formula → Formula → Formula
◌->◌ = imp

abbrev pub a : Formula
a = atom 0

abbrev pub b : Formula
b = atom 1

abbrev pub c : Formula
c = atom 2

abbrev pub d : Formula
d = atom 3

-- conjunctions of eight atoms and of nine
abbrev pub eight : Formula
eight = a & b & c & d & atom 4 & atom 5 & atom 6 & atom 7

abbrev pub nine : Formula
nine = atom 8 & eight

pub record Row : Type 0 where
  pub rule : Rule
  pub principal : Option Formula
  pub premises : List Sequent
  pub conclusion : Sequent

-- a row that names no principal formula
abbrev pub unnamed : Rule → List Sequent → Sequent → Row
unnamed r premises s = record { rule = r; principal = none; premises = premises; conclusion = s }

-- rows that name one, with no premise, one and two
abbrev pub alone : Rule → Formula → Sequent → Row
alone r F s = record { rule = r; principal = some F; premises = []; conclusion = s }

abbrev pub after : Rule → Formula → Sequent → Sequent → Row
after r F t s = record { rule = r; principal = some F; premises = t ∷ []; conclusion = s }

abbrev pub after_two : Rule → Formula → Sequent → Sequent → Sequent → Row
after_two r F t u s = record { rule = r; principal = some F; premises = t ∷ u ∷ []; conclusion = s }

-- for each rule, the principal formula once taken from L and R and once kept in them, its parts kept too
abbrev pub instances : List Row
instances =
    alone def (~ a) (b ∷ c ∷ [] ⇒ d & b ∷ ~ a ∷ [])
    ∷ alone def (~ a) ([] ⇒ ~ a ∷ [])
    ∷ alone def (~ b) (a ∷ c ∷ [] ⇒ ~ b ∷ b ∷ a ∷ [])
    ∷ alone same (a -> b) (c ∷ a -> b ∷ [] ⇒ d ∷ a -> b ∷ [])
    ∷ alone same # (# ∷ a ∷ [] ⇒ b ∷ # ∷ [])
    ∷ after andl (a & b) (a ∷ b ∷ ~ c ∷ [] ⇒ d ∷ []) (~ c ∷ a & b ∷ [] ⇒ d ∷ [])
    ∷ after andl (a & b) (b ∷ a & b ∷ a ∷ [] ⇒ c ∷ a & b ∷ []) (a & b ∷ [] ⇒ a & b ∷ c ∷ [])
    ∷ after andl (a & ~ b) (a ∷ c ∷ ~ b ∷ [] ⇒ d ∷ []) (a ∷ c ∷ a & ~ b ∷ [] ⇒ d ∷ [])
    ∷ after_two andr (a & b) (c ∷ [] ⇒ d ∷ a ∷ []) (c ∷ [] ⇒ b ∷ d ∷ []) (c ∷ [] ⇒ a & b ∷ d ∷ [])
    ∷ after_two andr (a & b) (c ∷ [] ⇒ a ∷ a & b ∷ []) (c ∷ [] ⇒ a & b ∷ b ∷ []) (c ∷ [] ⇒ a & b ∷ [])
    ∷ after_two andr (a & ~ b) (c ∷ [] ⇒ ~ b ∷ a ∷ []) (c ∷ [] ⇒ ~ b ∷ []) (c ∷ [] ⇒ ~ b ∷ a & ~ b ∷ [])
    ∷ after wr (a & b) (c ∷ [] ⇒ d ∷ []) (c ∷ [] ⇒ d ∷ a & b ∷ [])
    ∷ after wr a (c ∷ a ∷ [] ⇒ a ∷ d ∷ []) (a ∷ c ∷ [] ⇒ d ∷ a ∷ [])
    ∷ after bot # (c ∷ [] ⇒ d ∷ # ∷ []) (c ∷ [] ⇒ d ∷ [])
    ∷ after bot # (# ∷ c ∷ [] ⇒ # ∷ []) (c ∷ # ∷ [] ⇒ # ∷ [])
    ∷ after orr (a ∣ b) (c ∷ [] ⇒ a ∷ b ∷ d ∷ []) (c ∷ [] ⇒ d ∷ a ∣ b ∷ [])
    ∷ after orr (a ∣ b) (c ∷ [] ⇒ b ∷ a ∣ b ∷ a ∷ []) (c ∷ [] ⇒ a ∣ b ∷ [])
    ∷ after orr (a ∣ ~ b) (c ∷ [] ⇒ ~ b ∷ a ∷ []) (c ∷ [] ⇒ a ∣ ~ b ∷ a ∷ [])
    ∷ after_two orl (a ∣ b) (c ∷ a ∷ [] ⇒ d ∷ []) (c ∷ b ∷ [] ⇒ d ∷ a ∷ []) (c ∷ a ∣ b ∷ [] ⇒ d ∷ [])
    ∷ after_two orl (a ∣ b) (a ∷ a ∣ b ∷ [] ⇒ d ∷ []) (a ∣ b ∷ b ∷ [] ⇒ a ∷ d ∷ []) (a ∣ b ∷ [] ⇒ d ∷ [])
    ∷ after_two orl (a ∣ ~ b) (c ∷ a ∷ [] ⇒ a ∷ []) (~ b ∷ c ∷ [] ⇒ a ∷ []) (a ∣ ~ b ∷ c ∷ [] ⇒ a ∷ [])
    ∷ after_two orl (a ∣ b) (b ∷ a ∷ [] ⇒ d ∷ []) (b ∷ [] ⇒ d ∷ a ∷ []) (b ∷ a ∣ b ∷ [] ⇒ d ∷ [])
    ∷ after notl (~ a) (c ∷ [] ⇒ d ∷ a ∷ []) (c ∷ ~ a ∷ [] ⇒ d ∷ [])
    ∷ after notl (~ a) (~ a ∷ c ∷ [] ⇒ a ∷ []) (c ∷ ~ a ∷ [] ⇒ [])
    ∷ after notl (~ (a & b)) (c ∷ [] ⇒ a & b ∷ []) (~ (a & b) ∷ c ∷ [] ⇒ a & b ∷ [])
    ∷ after impr (a -> b) (c ∷ a ∷ [] ⇒ d ∷ b ∷ []) (c ∷ [] ⇒ d ∷ a -> b ∷ [])
    ∷ after impr (a -> b) (a ∷ c ∷ [] ⇒ a -> b ∷ b ∷ []) (c ∷ [] ⇒ a -> b ∷ [])
    ∷ after impr (a -> ~ b) (a ∷ [] ⇒ ~ b ∷ []) (a ∷ [] ⇒ ~ b ∷ a -> ~ b ∷ [])
    ∷ after_two impl (a -> b) (c ∷ b ∷ [] ⇒ d ∷ ~ a ∷ []) (c ∷ [] ⇒ d ∷ a ∷ []) (c ∷ a -> b ∷ [] ⇒ d ∷ [])
    ∷ after_two impl (a -> b) (b ∷ a -> b ∷ [] ⇒ ~ a ∷ d ∷ []) (a -> b ∷ [] ⇒ a ∷ d ∷ []) (a -> b ∷ [] ⇒ d ∷ [])
    ∷ after_two impl (a -> b) (b ∷ [] ⇒ ~ a ∷ []) (b ∷ [] ⇒ a ∷ ~ a ∷ []) (b ∷ a -> b ∷ [] ⇒ ~ a ∷ [])
    ∷ after notr (~ a) (c ∷ a ∷ [] ⇒ d ∷ []) (c ∷ [] ⇒ d ∷ ~ a ∷ [])
    ∷ after notr (~ a) (c ∷ a ∷ [] ⇒ ~ a ∷ []) (c ∷ [] ⇒ ~ a ∷ [])
    ∷ after notr (~ ~ a) (~ a ∷ c ∷ [] ⇒ d ∷ []) (~ a ∷ c ∷ [] ⇒ ~ ~ a ∷ d ∷ [])
    -- R and Q merged; A kept in R, in Q, in L; R and Q overlapping
    ∷ after_two rcut a (c ∷ [] ⇒ d ∷ a ∷ []) (a ∷ c ∷ [] ⇒ b ∷ []) (c ∷ [] ⇒ b ∷ d ∷ [])
    ∷ after_two rcut a (c ∷ [] ⇒ a ∷ d ∷ []) (c ∷ a ∷ [] ⇒ b ∷ []) (c ∷ [] ⇒ a ∷ b ∷ d ∷ [])
    ∷ after_two rcut (a & b) (c ∷ [] ⇒ a & b ∷ d ∷ []) (c ∷ a & b ∷ [] ⇒ a & b ∷ []) (c ∷ [] ⇒ d ∷ a & b ∷ [])
    ∷ after_two rcut a (a ∷ [] ⇒ a ∷ d ∷ []) (a ∷ [] ⇒ b ∷ []) (a ∷ [] ⇒ d ∷ b ∷ [])
    ∷ after_two rcut a ([] ⇒ d ∷ a ∷ []) (a ∷ [] ⇒ d ∷ []) ([] ⇒ d ∷ [])
    ∷ unnamed unst ((a ∣ b ∷ [] ⇒ a & ~ b ∷ []) ∷ (a ∣ b ∷ ~ ~ a ∷ ~ b ∷ [] ⨾ a ∣ ~ a ∷ []) ∷ []) (a ∣ b ∷ [] ⇒ d ∷ [])
    ∷ unnamed unst ((b ∣ a ∷ ~ d ∷ [] ⇒ ~ a & (b & ~ d) ∷ []) ∷ (b ∣ a ∷ ~ d ∷ ~ ~ b ∷ ~ a ∷ [] ⨾ b ∣ ~ b ∷ []) ∷ []) (~ d ∷ b ∣ a ∷ [] ⇒ c ∷ a ∷ [])
    ∷ unnamed unst ((~ ~ a ∷ [] ⇒ a ∷ []) ∷ (~ ~ a ∷ [] ⨾ a ∣ ~ a ∷ []) ∷ []) (~ ~ a ∷ [] ⇒ [])
    ∷ unnamed unst ((c ∷ a & c ∷ [] ⇒ a & c ∷ []) ∷ (a & c ∷ c ∷ ~ ~ c ∷ ~ ~ a ∷ [] ⨾ (a ∣ ~ a) & (c ∣ ~ c) ∷ []) ∷ []) (a & c ∷ c ∷ [] ⇒ b ∷ [])
    ∷ unnamed unst ((~ (d -> #) ∣ b ∷ [] ⇒ b & ~ d ∷ []) ∷ (~ (d -> #) ∣ b ∷ ~ ~ b ∷ ~ d ∷ [] ⨾ b ∣ ~ b ∷ []) ∷ []) (~ (d -> #) ∣ b ∷ [] ⇒ ~ d ∷ [])
    ∷ unnamed xini [] (a ∷ ~ b ∷ ~ # ∷ [] ⨾ b ∷ ~ a ∷ # ∷ [])
    ∷ unnamed xini [] ([] ⨾ a ∷ ~ a ∷ c ∷ [])
    ∷ unnamed xini [] ([] ⨾ [])
    ∷ after xnnl (~ ~ a) (c ∷ [] ⨾ d ∷ ~ a ∷ []) (c ∷ ~ ~ a ∷ [] ⨾ d ∷ [])
    ∷ after xnnl (~ ~ a) (~ ~ a ∷ c ∷ [] ⨾ ~ a ∷ []) (c ∷ ~ ~ a ∷ [] ⨾ ~ a ∷ [])
    ∷ after xnnr (~ ~ a) (c ∷ ~ a ∷ [] ⨾ d ∷ []) (c ∷ [] ⨾ d ∷ ~ ~ a ∷ [])
    ∷ after xnnr (~ ~ a) (~ a ∷ [] ⨾ ~ ~ a ∷ []) ([] ⨾ ~ ~ a ∷ [])
    ∷ after xandl (a & b) (c ∷ a ∷ b ∷ [] ⨾ d ∷ []) (c ∷ a & b ∷ [] ⨾ d ∷ [])
    ∷ after xandl (a & b) (a & b ∷ b ∷ a ∷ [] ⨾ d ∷ []) (a & b ∷ b ∷ [] ⨾ d ∷ [])
    ∷ after xandr1 (a & b) (c ∷ [] ⨾ d ∷ a ∷ []) (c ∷ [] ⨾ d ∷ a & b ∷ [])
    ∷ after xandr1 (a & b) (c ∷ [] ⨾ a & b ∷ a ∷ []) (c ∷ [] ⨾ a & b ∷ [])
    ∷ after xandr2 (a & b) (c ∷ [] ⨾ d ∷ b ∷ []) (c ∷ [] ⨾ d ∷ a & b ∷ [])
    ∷ after xandr2 (a & b) (c ∷ [] ⨾ a & b ∷ b ∷ []) (c ∷ [] ⨾ a & b ∷ [])
    ∷ after xorr (a ∣ b) (c ∷ [] ⨾ d ∷ b ∷ a ∷ []) (c ∷ [] ⨾ a ∣ b ∷ d ∷ [])
    ∷ after xorr (a ∣ b) (c ∷ [] ⨾ a ∷ a ∣ b ∷ b ∷ []) (c ∷ [] ⨾ a ∣ b ∷ a ∷ [])
    ∷ after xorl1 (a ∣ b) (c ∷ a ∷ [] ⨾ d ∷ []) (c ∷ a ∣ b ∷ [] ⨾ d ∷ [])
    ∷ after xorl1 (a ∣ b) (a ∷ a ∣ b ∷ [] ⨾ d ∷ []) (a ∣ b ∷ [] ⨾ d ∷ [])
    ∷ after xorl2 (a ∣ b) (c ∷ b ∷ [] ⨾ d ∷ []) (c ∷ a ∣ b ∷ [] ⨾ d ∷ [])
    ∷ after xorl2 (a ∣ b) (b ∷ a ∣ b ∷ [] ⨾ d ∷ []) (a ∣ b ∷ [] ⨾ d ∷ [])
    ∷ after ximpl1 (a -> b) (c ∷ [] ⨾ d ∷ a ∷ ~ b ∷ []) (a -> b ∷ c ∷ [] ⨾ d ∷ [])
    ∷ after ximpl1 (a -> b) (a -> b ∷ [] ⨾ ~ b ∷ a ∷ []) (a -> b ∷ [] ⨾ ~ b ∷ [])
    ∷ after ximpl2 (a -> b) (c ∷ b ∷ [] ⨾ d ∷ []) (c ∷ a -> b ∷ [] ⨾ d ∷ [])
    ∷ after ximpl2 (a -> b) (a -> b ∷ b ∷ [] ⨾ d ∷ []) (a -> b ∷ [] ⨾ d ∷ [])
    ∷ after ximpl3 (a -> b) (c ∷ ~ a ∷ [] ⨾ d ∷ []) (c ∷ a -> b ∷ [] ⨾ d ∷ [])
    ∷ after ximpl3 (a -> b) (~ a ∷ a -> b ∷ [] ⨾ d ∷ []) (a -> b ∷ [] ⨾ d ∷ [])
    ∷ after ximpr1 (a -> b) (c ∷ a ∷ [] ⨾ b ∷ d ∷ []) (c ∷ [] ⨾ d ∷ a -> b ∷ [])
    ∷ after ximpr1 (a -> b) (a ∷ c ∷ [] ⨾ a -> b ∷ b ∷ []) (c ∷ [] ⨾ a -> b ∷ [])
    ∷ after ximpr2 (a -> b) (c ∷ ~ b ∷ [] ⨾ d ∷ ~ a ∷ []) (c ∷ [] ⨾ d ∷ a -> b ∷ [])
    ∷ after ximpr2 (a -> b) (~ b ∷ c ∷ [] ⨾ a -> b ∷ ~ a ∷ []) (c ∷ [] ⨾ a -> b ∷ [])
    ∷ after xnimpl (~ (a -> b)) (c ∷ ~ b ∷ [] ⨾ d ∷ ~ a ∷ []) (c ∷ ~ (a -> b) ∷ [] ⨾ d ∷ [])
    ∷ after xnimpl (~ (a -> b)) (~ (a -> b) ∷ ~ b ∷ [] ⨾ ~ a ∷ []) (~ (a -> b) ∷ [] ⨾ [])
    ∷ after xnimpr1 (~ (a -> b)) (c ∷ ~ a ∷ [] ⨾ d ∷ []) (c ∷ [] ⨾ d ∷ ~ (a -> b) ∷ [])
    ∷ after xnimpr1 (~ (a -> b)) (~ a ∷ [] ⨾ ~ (a -> b) ∷ d ∷ []) ([] ⨾ d ∷ ~ (a -> b) ∷ [])
    ∷ after xnimpr2 (~ (a -> b)) (c ∷ [] ⨾ d ∷ ~ b ∷ []) (c ∷ [] ⨾ d ∷ ~ (a -> b) ∷ [])
    ∷ after xnimpr2 (~ (a -> b)) (c ∷ [] ⨾ ~ (a -> b) ∷ ~ b ∷ []) (c ∷ [] ⨾ ~ (a -> b) ∷ [])
    ∷ after xnandl1 (~ (a & b)) (c ∷ ~ a ∷ [] ⨾ d ∷ []) (c ∷ ~ (a & b) ∷ [] ⨾ d ∷ [])
    ∷ after xnandl1 (~ (a & b)) (~ a ∷ ~ (a & b) ∷ [] ⨾ d ∷ []) (~ (a & b) ∷ [] ⨾ d ∷ [])
    ∷ after xnandl2 (~ (a & b)) (c ∷ ~ b ∷ [] ⨾ d ∷ []) (c ∷ ~ (a & b) ∷ [] ⨾ d ∷ [])
    ∷ after xnandl2 (~ (a & b)) (~ b ∷ ~ (a & b) ∷ [] ⨾ d ∷ []) (~ (a & b) ∷ [] ⨾ d ∷ [])
    ∷ after xnandr (~ (a & b)) (c ∷ [] ⨾ ~ a ∷ ~ b ∷ d ∷ []) (c ∷ [] ⨾ d ∷ ~ (a & b) ∷ [])
    ∷ after xnandr (~ (a & b)) (c ∷ [] ⨾ ~ b ∷ ~ (a & b) ∷ ~ a ∷ []) (c ∷ [] ⨾ ~ (a & b) ∷ [])
    ∷ after xnorl (~ (a ∣ b)) (c ∷ ~ a ∷ ~ b ∷ [] ⨾ d ∷ []) (c ∷ ~ (a ∣ b) ∷ [] ⨾ d ∷ [])
    ∷ after xnorl (~ (a ∣ b)) (~ b ∷ ~ (a ∣ b) ∷ ~ a ∷ [] ⨾ d ∷ []) (~ (a ∣ b) ∷ [] ⨾ d ∷ [])
    ∷ after xnorr1 (~ (a ∣ b)) (c ∷ [] ⨾ d ∷ ~ a ∷ []) (c ∷ [] ⨾ d ∷ ~ (a ∣ b) ∷ [])
    ∷ after xnorr1 (~ (a ∣ b)) (c ∷ [] ⨾ ~ (a ∣ b) ∷ ~ a ∷ []) (c ∷ [] ⨾ ~ (a ∣ b) ∷ [])
    ∷ after xnorr2 (~ (a ∣ b)) (c ∷ [] ⨾ d ∷ ~ b ∷ []) (c ∷ [] ⨾ d ∷ ~ (a ∣ b) ∷ [])
    ∷ after xnorr2 (~ (a ∣ b)) (c ∷ [] ⨾ ~ (a ∣ b) ∷ ~ b ∷ []) (c ∷ [] ⨾ ~ (a ∣ b) ∷ [])
    -- swap: A kept in L, B kept, both, B the same as A
    ∷ after swap (a & b) (b & a ∷ c ∷ [] ⇒ d ∷ []) (c ∷ a & b ∷ [] ⇒ d ∷ [])
    ∷ after swap (a & b) (a & b ∷ b & a ∷ [] ⇒ d ∷ []) (a & b ∷ [] ⇒ d ∷ [])
    ∷ after swap (a & b) (b & a ∷ [] ⇒ d ∷ []) (b & a ∷ a & b ∷ [] ⇒ d ∷ [])
    ∷ after swap (a & b) (b & a ∷ a & b ∷ [] ⇒ d ∷ []) (a & b ∷ b & a ∷ [] ⇒ d ∷ [])
    ∷ after swap (a -> b) (a -> b ∷ c ∷ [] ⇒ []) (c ∷ a -> b ∷ [] ⇒ [])
    -- swap: equal though H outside T would tell them apart, equal in other forms, one B of several, beside a wide one, eight atoms
    ∷ after swap # (a & ~ a ∷ [] ⇒ b ∷ []) (# ∷ [] ⇒ b ∷ [])
    ∷ after swap (~ a) (~ ~ ~ a ∷ [] ⇒ a ∷ b ∷ []) (~ a ∷ [] ⇒ b ∷ a ∷ [])
    ∷ after swap (~ (a & b)) (~ ~ (~ a ∣ ~ b) ∷ [] ⇒ c ∷ []) (~ (a & b) ∷ [] ⇒ c ∷ [])
    ∷ after swap (a & b) (c ∷ b & a ∷ ~ c ∷ [] ⇒ d ∷ []) (a & b ∷ ~ c ∷ c ∷ b & a ∷ [] ⇒ d ∷ [])
    ∷ after swap (a & b) (b & a ∷ nine ∷ [] ⇒ d ∷ []) (nine ∷ a & b ∷ b & a ∷ [] ⇒ d ∷ [])
    ∷ after swap eight (eight ∷ [] ⇒ d ∷ []) (eight ∷ [] ⇒ d ∷ [])
    ∷ []

-- 01's whole file: its sequents, and its rows from the last to the first; p is a
abbrev pub row_0 : Sequent
row_0 = a ∷ [] ⇒ a ∷ # ∷ []

abbrev pub row_1 : Sequent
row_1 = a ∷ ~ a ∷ [] ⇒ # ∷ []

abbrev pub row_2 : Sequent
row_2 = a ∷ [] ⇒ # ∷ ~ ~ a ∷ []

abbrev pub row_3 : Sequent
row_3 = [] ⇒ ~ a ∷ # ∷ []

abbrev pub row_4 : Sequent
row_4 = ~ a -> a ∷ [] ⇒ # ∷ []

abbrev pub whole_file : List Row
whole_file =
    after_two impl (~ a -> a) row_2 row_3 row_4
    ∷ alone def (~ a) row_3
    ∷ after notr (~ ~ a) row_1 row_2
    ∷ after notl (~ a) row_0 row_1
    ∷ alone same a row_0
    ∷ []

-- rows that are no instances, each for the reason that stands above it
abbrev pub near_misses : List Row
near_misses =
    -- def: a formula left that is no atom, p left, a principal that is no ~p or is not right, a premise
    alone def (~ a) (b & c ∷ [] ⇒ ~ a ∷ [])
    ∷ alone def (~ a) (# ∷ b ∷ [] ⇒ ~ a ∷ [])
    ∷ alone def (~ a) (b ∷ b -> a ∷ [] ⇒ ~ a ∷ [])
    ∷ alone def (~ a) (a ∷ b ∷ [] ⇒ ~ a ∷ [])
    ∷ alone def (~ #) (b ∷ [] ⇒ ~ # ∷ [])
    ∷ alone def (~ ~ a) (b ∷ [] ⇒ ~ ~ a ∷ [])
    ∷ alone def a (b ∷ [] ⇒ a ∷ [])
    ∷ alone def (~ a) (b ∷ [] ⇒ ~ c ∷ [])
    ∷ after def (~ a) ([] ⇒ ~ a ∷ []) ([] ⇒ ~ a ∷ [])
    -- same: the formula on one side only, a premise
    ∷ alone same a (b ∷ [] ⇒ a ∷ [])
    ∷ alone same a (a ∷ [] ⇒ b ∷ [])
    ∷ after same a (a ∷ [] ⇒ a ∷ []) (a ∷ [] ⇒ a ∷ [])
    -- andl: a part missing, a formula of L that comes in or is lost
    ∷ after andl (a & b) (a ∷ c ∷ [] ⇒ d ∷ []) (c ∷ a & b ∷ [] ⇒ d ∷ [])
    ∷ after andl (a & b) (a ∷ b ∷ [] ⇒ d ∷ []) (a & b ∷ c ∷ [] ⇒ d ∷ [])
    ∷ after andl (a & b) (a ∷ b ∷ c ∷ [] ⇒ d ∷ []) (a & b ∷ [] ⇒ d ∷ [])
    -- andl: the principal nowhere, on the other side, of another form
    ∷ after andl (a & b) (a ∷ b ∷ [] ⇒ d ∷ []) (a ∷ b ∷ [] ⇒ d ∷ [])
    ∷ after andl (a & b) (a ∷ b ∷ [] ⇒ a & b ∷ []) ([] ⇒ a & b ∷ [])
    ∷ after andl (a ∣ b) (a ∷ b ∷ [] ⇒ d ∷ []) (a ∣ b ∷ [] ⇒ d ∷ [])
    -- andr: premises exchanged, with another L, with another R, each fitting the row with an R of its own, one part twice, one
    -- premise missing
    ∷ after_two andr (a & b) (c ∷ [] ⇒ b ∷ []) (c ∷ [] ⇒ a ∷ []) (c ∷ [] ⇒ a & b ∷ [])
    ∷ after_two andr (a & b) (c ∷ [] ⇒ a ∷ []) (d ∷ [] ⇒ b ∷ []) (c ∷ d ∷ [] ⇒ a & b ∷ [])
    ∷ after_two andr (a & b) (c ∷ [] ⇒ d ∷ a ∷ []) (c ∷ [] ⇒ b ∷ []) (c ∷ [] ⇒ d ∷ a & b ∷ [])
    ∷ after_two andr (a & b) (c ∷ [] ⇒ a ∷ a & b ∷ []) (c ∷ [] ⇒ b ∷ []) (c ∷ [] ⇒ a & b ∷ [])
    ∷ after_two andr (a & b) (c ∷ [] ⇒ a ∷ []) (c ∷ [] ⇒ a ∷ []) (c ∷ [] ⇒ a & b ∷ [])
    ∷ after andr (a & b) (c ∷ [] ⇒ a ∷ []) (c ∷ [] ⇒ a & b ∷ [])
    -- wr: adding to the left, two formulas at once, none, one lost
    ∷ after wr a ([] ⇒ ~ a ∷ []) (a ∷ [] ⇒ ~ a ∷ [])
    ∷ after wr a (c ∷ [] ⇒ d ∷ []) (c ∷ [] ⇒ d ∷ a ∷ b ∷ [])
    ∷ after wr a (c ∷ [] ⇒ d ∷ []) (c ∷ [] ⇒ d ∷ [])
    ∷ after wr a (c ∷ [] ⇒ d ∷ b ∷ []) (c ∷ [] ⇒ d ∷ a ∷ [])
    -- bot: # not right in the premise, another formula
    ∷ after bot # (c ∷ [] ⇒ d ∷ []) (c ∷ [] ⇒ d ∷ [])
    ∷ after bot # (# ∷ c ∷ [] ⇒ d ∷ []) (c ∷ [] ⇒ d ∷ [])
    ∷ after bot a (c ∷ [] ⇒ a ∷ []) (c ∷ [] ⇒ [])
    -- orr: a part missing, the principal left
    ∷ after orr (a ∣ b) (c ∷ [] ⇒ a ∷ []) (c ∷ [] ⇒ a ∣ b ∷ [])
    ∷ after orr (a ∣ b) (a ∣ b ∷ [] ⇒ a ∷ b ∷ []) (a ∣ b ∷ [] ⇒ a ∷ b ∷ [])
    -- orl: the classical premises, exchanged, with another L, B added right in the first
    ∷ after_two orl (a ∣ b) (c ∷ a ∷ [] ⇒ d ∷ []) (c ∷ b ∷ [] ⇒ d ∷ []) (c ∷ a ∣ b ∷ [] ⇒ d ∷ [])
    ∷ after_two orl (a ∣ b) (c ∷ b ∷ [] ⇒ d ∷ a ∷ []) (c ∷ a ∷ [] ⇒ d ∷ []) (c ∷ a ∣ b ∷ [] ⇒ d ∷ [])
    ∷ after_two orl (a ∣ b) (a ∷ a ∣ b ∷ [] ⇒ d ∷ []) (b ∷ [] ⇒ d ∷ a ∷ []) (a ∣ b ∷ [] ⇒ d ∷ [])
    ∷ after_two orl (a ∣ b) (c ∷ a ∷ [] ⇒ d ∷ b ∷ []) (c ∷ b ∷ [] ⇒ d ∷ a ∷ []) (c ∷ a ∣ b ∷ [] ⇒ d ∷ [])
    -- notl, impr: a part on the wrong side or missing, the principal on the wrong side
    ∷ after notl (~ a) (c ∷ a ∷ [] ⇒ d ∷ []) (c ∷ ~ a ∷ [] ⇒ d ∷ [])
    ∷ after notl (~ a) (c ∷ [] ⇒ d ∷ a ∷ []) (c ∷ [] ⇒ d ∷ ~ a ∷ [])
    ∷ after impr (a -> b) (c ∷ [] ⇒ d ∷ b ∷ []) (c ∷ [] ⇒ d ∷ a -> b ∷ [])
    ∷ after impr (a -> b) (c ∷ b ∷ [] ⇒ d ∷ a ∷ []) (c ∷ [] ⇒ d ∷ a -> b ∷ [])
    -- impl: the classical premises, A for ~A, exchanged, with another L; notr: A right in the premise
    ∷ after_two impl (a -> b) (c ∷ b ∷ [] ⇒ d ∷ []) (c ∷ [] ⇒ d ∷ a ∷ []) (c ∷ a -> b ∷ [] ⇒ d ∷ [])
    ∷ after_two impl (a -> b) (c ∷ b ∷ [] ⇒ d ∷ a ∷ []) (c ∷ [] ⇒ d ∷ a ∷ []) (c ∷ a -> b ∷ [] ⇒ d ∷ [])
    ∷ after_two impl (a -> b) (c ∷ [] ⇒ d ∷ a ∷ []) (c ∷ b ∷ [] ⇒ d ∷ ~ a ∷ []) (c ∷ a -> b ∷ [] ⇒ d ∷ [])
    ∷ after_two impl (a -> b) (b ∷ a -> b ∷ [] ⇒ d ∷ ~ a ∷ []) ([] ⇒ d ∷ a ∷ []) (a -> b ∷ [] ⇒ d ∷ [])
    ∷ after notr (~ a) (c ∷ [] ⇒ d ∷ a ∷ []) (c ∷ [] ⇒ d ∷ ~ a ∷ [])
    -- rcut: A not left in the second premise, A not right in the first, another L, R lost, Q lost, a formula that comes in,
    -- premises exchanged
    ∷ after_two rcut a (c ∷ [] ⇒ d ∷ a ∷ []) (c ∷ [] ⇒ b ∷ []) (c ∷ [] ⇒ d ∷ b ∷ [])
    ∷ after_two rcut a (c ∷ [] ⇒ d ∷ []) (c ∷ a ∷ [] ⇒ b ∷ []) (c ∷ [] ⇒ d ∷ b ∷ [])
    ∷ after_two rcut a (c ∷ [] ⇒ d ∷ a ∷ []) (b ∷ a ∷ [] ⇒ b ∷ []) (c ∷ b ∷ [] ⇒ d ∷ b ∷ [])
    ∷ after_two rcut a (c ∷ [] ⇒ d ∷ a ∷ []) (c ∷ a ∷ [] ⇒ b ∷ []) (c ∷ [] ⇒ b ∷ [])
    ∷ after_two rcut a (c ∷ [] ⇒ d ∷ a ∷ []) (c ∷ a ∷ [] ⇒ b ∷ []) (c ∷ [] ⇒ d ∷ [])
    ∷ after_two rcut a (c ∷ [] ⇒ d ∷ a ∷ []) (c ∷ a ∷ [] ⇒ b ∷ []) (c ∷ [] ⇒ d ∷ b ∷ ~ a ∷ [])
    ∷ after_two rcut a (c ∷ a ∷ [] ⇒ b ∷ []) (c ∷ [] ⇒ d ∷ a ∷ []) (c ∷ [] ⇒ d ∷ b ∷ [])
    -- unst: V of more and of fewer atoms than L's, S empty, V empty
    ∷ unnamed unst ((a ∣ b ∷ [] ⇒ a & (~ b & ~ c) ∷ []) ∷ (a ∣ b ∷ ~ ~ a ∷ ~ b ∷ ~ c ∷ [] ⨾ a ∣ ~ a ∷ []) ∷ []) (a ∣ b ∷ [] ⇒ d ∷ [])
    ∷ unnamed unst ((a ∣ b ∷ [] ⇒ a ∷ []) ∷ (a ∣ b ∷ ~ ~ a ∷ [] ⨾ a ∣ ~ a ∷ []) ∷ []) (a ∣ b ∷ [] ⇒ d ∷ [])
    ∷ unnamed unst ((~ ~ a ∷ [] ⇒ ~ a ∷ []) ∷ (~ ~ a ∷ ~ a ∷ [] ⨾ # ∷ []) ∷ []) (~ ~ a ∷ [] ⇒ b ∷ [])
    ∷ unnamed unst ((~ # ∷ [] ⇒ # ∷ []) ∷ (~ # ∷ [] ⨾ # ∷ []) ∷ []) (~ # ∷ [] ⇒ b ∷ [])
    -- unst: K in the wrong order, nested to the left, with ~~p for p, with another formula beside it
    ∷ unnamed unst ((a ∣ b ∷ [] ⇒ ~ b & a ∷ []) ∷ (a ∣ b ∷ ~ ~ a ∷ ~ b ∷ [] ⨾ a ∣ ~ a ∷ []) ∷ []) (a ∣ b ∷ [] ⇒ d ∷ [])
    ∷ unnamed unst ((a ∣ (b & c) ∷ [] ⇒ (a & ~ b) & ~ c ∷ []) ∷ (a ∣ (b & c) ∷ ~ ~ a ∷ ~ b ∷ ~ c ∷ [] ⨾ a ∣ ~ a ∷ []) ∷ []) (a ∣ (b & c) ∷ [] ⇒ d ∷ [])
    ∷ unnamed unst ((a ∣ b ∷ [] ⇒ ~ ~ a & ~ b ∷ []) ∷ (a ∣ b ∷ ~ ~ a ∷ ~ b ∷ [] ⨾ a ∣ ~ a ∷ []) ∷ []) (a ∣ b ∷ [] ⇒ d ∷ [])
    ∷ unnamed unst ((a ∣ b ∷ [] ⇒ a & ~ b ∷ d ∷ []) ∷ (a ∣ b ∷ ~ ~ a ∷ ~ b ∷ [] ⨾ a ∣ ~ a ∷ []) ∷ []) (a ∣ b ∷ [] ⇒ d ∷ [])
    -- unst: E as ~p|p, over V, of another S; ~S' missing, p for ~~p; premises exchanged, of another L, both of ELK
    ∷ unnamed unst ((a ∣ b ∷ [] ⇒ a & ~ b ∷ []) ∷ (a ∣ b ∷ ~ ~ a ∷ ~ b ∷ [] ⨾ ~ a ∣ a ∷ []) ∷ []) (a ∣ b ∷ [] ⇒ d ∷ [])
    ∷ unnamed unst ((a ∣ b ∷ [] ⇒ a & ~ b ∷ []) ∷ (a ∣ b ∷ ~ ~ a ∷ ~ b ∷ [] ⨾ (a ∣ ~ a) & (b ∣ ~ b) ∷ []) ∷ []) (a ∣ b ∷ [] ⇒ d ∷ [])
    ∷ unnamed unst ((a ∣ b ∷ [] ⇒ a & ~ b ∷ []) ∷ (a ∣ b ∷ ~ ~ b ∷ ~ a ∷ [] ⨾ b ∣ ~ b ∷ []) ∷ []) (a ∣ b ∷ [] ⇒ d ∷ [])
    ∷ unnamed unst ((a ∣ b ∷ [] ⇒ a & ~ b ∷ []) ∷ (a ∣ b ∷ ~ ~ a ∷ [] ⨾ a ∣ ~ a ∷ []) ∷ []) (a ∣ b ∷ [] ⇒ d ∷ [])
    ∷ unnamed unst ((a ∣ b ∷ [] ⇒ a & ~ b ∷ []) ∷ (a ∣ b ∷ a ∷ ~ b ∷ [] ⨾ a ∣ ~ a ∷ []) ∷ []) (a ∣ b ∷ [] ⇒ d ∷ [])
    ∷ unnamed unst ((a ∣ b ∷ ~ ~ a ∷ ~ b ∷ [] ⨾ a ∣ ~ a ∷ []) ∷ (a ∣ b ∷ [] ⇒ a & ~ b ∷ []) ∷ []) (a ∣ b ∷ [] ⇒ d ∷ [])
    ∷ unnamed unst ((a & b ∷ a ∣ b ∷ [] ⇒ a & ~ b ∷ []) ∷ (a ∣ b ∷ ~ ~ a ∷ ~ b ∷ [] ⨾ a ∣ ~ a ∷ []) ∷ []) (a ∣ b ∷ [] ⇒ d ∷ [])
    ∷ unnamed unst ((a ∣ b ∷ [] ⇒ a & ~ b ∷ []) ∷ (a ∣ b ∷ ~ ~ a ∷ ~ b ∷ [] ⇒ a ∣ ~ a ∷ []) ∷ []) (a ∣ b ∷ [] ⇒ d ∷ [])
    -- xini: # left, ~# right, p and ~p both left, one formula on both sides, no literal, a premise
    ∷ unnamed xini [] (# ∷ a ∷ [] ⨾ b ∷ [])
    ∷ unnamed xini [] (a ∷ [] ⨾ ~ # ∷ [])
    ∷ unnamed xini [] (a ∷ ~ a ∷ [] ⨾ b ∷ [])
    ∷ unnamed xini [] (a ∷ [] ⨾ a ∷ b ∷ [])
    ∷ unnamed xini [] (~ a ∷ [] ⨾ ~ a ∷ [])
    ∷ unnamed xini [] (a & b ∷ [] ⨾ c ∷ [])
    ∷ unnamed xini [] (a ∷ [] ⨾ ~ ~ b ∷ [])
    ∷ unnamed xini ((a ∷ [] ⨾ b ∷ []) ∷ []) (a ∷ [] ⨾ b ∷ [])
    -- refutation: a part on the wrong side, one of two missing, the other for the one, B for ~B
    ∷ after xnnl (~ ~ a) (c ∷ ~ a ∷ [] ⨾ d ∷ []) (c ∷ ~ ~ a ∷ [] ⨾ d ∷ [])
    ∷ after xnnr (~ ~ a) (c ∷ [] ⨾ d ∷ ~ a ∷ []) (c ∷ [] ⨾ d ∷ ~ ~ a ∷ [])
    ∷ after xandl (a & b) (c ∷ a ∷ [] ⨾ d ∷ []) (c ∷ a & b ∷ [] ⨾ d ∷ [])
    ∷ after xandr1 (a & b) (c ∷ [] ⨾ d ∷ b ∷ []) (c ∷ [] ⨾ d ∷ a & b ∷ [])
    ∷ after xandr2 (a & b) (c ∷ [] ⨾ d ∷ a ∷ []) (c ∷ [] ⨾ d ∷ a & b ∷ [])
    ∷ after xorr (a ∣ b) (c ∷ [] ⨾ d ∷ a ∷ []) (c ∷ [] ⨾ d ∷ a ∣ b ∷ [])
    ∷ after xorl1 (a ∣ b) (c ∷ b ∷ [] ⨾ d ∷ []) (c ∷ a ∣ b ∷ [] ⨾ d ∷ [])
    ∷ after xorl2 (a ∣ b) (c ∷ a ∷ [] ⨾ d ∷ []) (c ∷ a ∣ b ∷ [] ⨾ d ∷ [])
    ∷ after ximpl1 (a -> b) (c ∷ [] ⨾ d ∷ a ∷ b ∷ []) (c ∷ a -> b ∷ [] ⨾ d ∷ [])
    ∷ after ximpl2 (a -> b) (c ∷ ~ a ∷ [] ⨾ d ∷ []) (c ∷ a -> b ∷ [] ⨾ d ∷ [])
    ∷ after ximpl3 (a -> b) (c ∷ b ∷ [] ⨾ d ∷ []) (c ∷ a -> b ∷ [] ⨾ d ∷ [])
    ∷ after ximpr1 (a -> b) (c ∷ ~ b ∷ [] ⨾ d ∷ ~ a ∷ []) (c ∷ [] ⨾ d ∷ a -> b ∷ [])
    ∷ after ximpr2 (a -> b) (c ∷ a ∷ [] ⨾ d ∷ b ∷ []) (c ∷ [] ⨾ d ∷ a -> b ∷ [])
    ∷ after xnimpl (~ (a -> b)) (c ∷ ~ a ∷ [] ⨾ d ∷ ~ b ∷ []) (c ∷ ~ (a -> b) ∷ [] ⨾ d ∷ [])
    ∷ after xnimpr1 (~ (a -> b)) (c ∷ ~ b ∷ [] ⨾ d ∷ []) (c ∷ [] ⨾ d ∷ ~ (a -> b) ∷ [])
    ∷ after xnimpr2 (~ (a -> b)) (c ∷ [] ⨾ d ∷ ~ a ∷ []) (c ∷ [] ⨾ d ∷ ~ (a -> b) ∷ [])
    ∷ after xnandl1 (~ (a & b)) (c ∷ ~ b ∷ [] ⨾ d ∷ []) (c ∷ ~ (a & b) ∷ [] ⨾ d ∷ [])
    ∷ after xnandl2 (~ (a & b)) (c ∷ ~ a ∷ [] ⨾ d ∷ []) (c ∷ ~ (a & b) ∷ [] ⨾ d ∷ [])
    ∷ after xnandr (~ (a & b)) (c ∷ [] ⨾ d ∷ ~ a ∷ []) (c ∷ [] ⨾ d ∷ ~ (a & b) ∷ [])
    ∷ after xnorl (~ (a ∣ b)) (c ∷ ~ a ∷ [] ⨾ d ∷ []) (c ∷ ~ (a ∣ b) ∷ [] ⨾ d ∷ [])
    ∷ after xnorr1 (~ (a ∣ b)) (c ∷ [] ⨾ d ∷ ~ b ∷ []) (c ∷ [] ⨾ d ∷ ~ (a ∣ b) ∷ [])
    ∷ after xnorr2 (~ (a ∣ b)) (c ∷ [] ⨾ d ∷ ~ a ∷ []) (c ∷ [] ⨾ d ∷ ~ (a ∣ b) ∷ [])
    -- swap: equal classically alone, equal where T has all atoms alone, not equal
    ∷ after swap a (~ ~ a ∷ [] ⇒ d ∷ []) (a ∷ [] ⇒ d ∷ [])
    ∷ after swap (a -> b) (~ a ∣ b ∷ [] ⇒ d ∷ []) (a -> b ∷ [] ⇒ d ∷ [])
    ∷ after swap # (~ a ∷ [] ⇒ d ∷ []) (# ∷ [] ⇒ d ∷ [])
    ∷ after swap a (b ∷ [] ⇒ d ∷ []) (a ∷ [] ⇒ d ∷ [])
    -- swap: another R, L lost, L that comes in, A not left, A and B right, nine atoms
    ∷ after swap (a & b) (b & a ∷ [] ⇒ d ∷ []) (a & b ∷ [] ⇒ c ∷ [])
    ∷ after swap (a & b) (b & a ∷ [] ⇒ d ∷ []) (a & b ∷ [] ⇒ d ∷ c ∷ [])
    ∷ after swap (a & b) (b & a ∷ c ∷ [] ⇒ d ∷ []) (a & b ∷ [] ⇒ d ∷ [])
    ∷ after swap (a & b) (b & a ∷ [] ⇒ d ∷ []) (a & b ∷ c ∷ [] ⇒ d ∷ [])
    ∷ after swap (a & b) (b & a ∷ [] ⇒ d ∷ []) (b & a ∷ [] ⇒ d ∷ [])
    ∷ after swap (a & b) (c ∷ [] ⇒ b & a ∷ []) (c ∷ [] ⇒ a & b ∷ [])
    ∷ after swap nine (nine ∷ [] ⇒ d ∷ []) (nine ∷ [] ⇒ d ∷ [])
    -- swap: no premise, two, of refutation, in refutation
    ∷ alone swap a (a ∷ [] ⇒ a ∷ [])
    ∷ after_two swap a (a ∷ [] ⇒ d ∷ []) (a ∷ [] ⇒ d ∷ []) (a ∷ [] ⇒ d ∷ [])
    ∷ after swap a (a ∷ [] ⨾ d ∷ []) (a ∷ [] ⇒ d ∷ [])
    ∷ after swap a (a ∷ [] ⨾ d ∷ []) (a ∷ [] ⨾ d ∷ [])
    -- a premise or a conclusion of the other calculus
    ∷ after andl (a & b) (a ∷ b ∷ [] ⨾ d ∷ []) (a & b ∷ [] ⇒ d ∷ [])
    ∷ after_two andr (a & b) (c ∷ [] ⇒ a ∷ []) (c ∷ [] ⨾ b ∷ []) (c ∷ [] ⇒ a & b ∷ [])
    ∷ after notr (~ a) (c ∷ a ∷ [] ⨾ d ∷ []) (c ∷ [] ⨾ d ∷ ~ a ∷ [])
    ∷ after_two rcut a (c ∷ [] ⇒ d ∷ a ∷ []) (c ∷ a ∷ [] ⨾ b ∷ []) (c ∷ [] ⇒ d ∷ b ∷ [])
    ∷ alone def (~ a) ([] ⨾ ~ a ∷ [])
    ∷ after xandl (a & b) (c ∷ a ∷ b ∷ [] ⇒ d ∷ []) (c ∷ a & b ∷ [] ⨾ d ∷ [])
    ∷ after xandl (a & b) (c ∷ a ∷ b ∷ [] ⇒ d ∷ []) (c ∷ a & b ∷ [] ⇒ d ∷ [])
    ∷ unnamed xini [] (a ∷ [] ⇒ b ∷ [])
    -- no principal named where there is one, or one named where there is none
    ∷ unnamed andl ((a ∷ b ∷ [] ⇒ d ∷ []) ∷ []) (a & b ∷ [] ⇒ d ∷ [])
    ∷ unnamed def [] ([] ⇒ ~ a ∷ [])
    ∷ unnamed rcut ((c ∷ [] ⇒ a ∷ []) ∷ (c ∷ a ∷ [] ⇒ d ∷ []) ∷ []) (c ∷ [] ⇒ d ∷ [])
    ∷ unnamed swap ((a ∷ [] ⇒ d ∷ []) ∷ []) (a ∷ [] ⇒ d ∷ [])
    ∷ after_two unst a (~ ~ a ∷ [] ⇒ a ∷ []) (~ ~ a ∷ [] ⨾ a ∣ ~ a ∷ []) (~ ~ a ∷ [] ⇒ b ∷ [])
    ∷ alone xini a (a ∷ [] ⨾ b ∷ [])
    -- row 4 of the whole file with its premises exchanged
    ∷ after_two impl (~ a -> a) row_3 row_2 row_4
    ∷ []

-- rows that number 18 is given: B the same as A, B not equal to A, a B beside a narrow one that is not equal
abbrev pub too_wide : List Row
too_wide =
    after swap nine (nine ∷ [] ⇒ d ∷ []) (nine ∷ [] ⇒ d ∷ [])
    ∷ after swap a (nine ∷ [] ⇒ d ∷ []) (a ∷ [] ⇒ d ∷ [])
    ∷ after swap a (b ∷ nine ∷ [] ⇒ d ∷ []) (a ∷ nine ∷ b ∷ [] ⇒ d ∷ [])
    ∷ []

-- and rows that it is not: a narrow B fits beside the wide one; the wide one leaves other sides; no wide one; another rule
abbrev pub not_too_wide : List Row
not_too_wide =
    after swap (a & b) (b & a ∷ nine ∷ [] ⇒ d ∷ []) (nine ∷ a & b ∷ b & a ∷ [] ⇒ d ∷ [])
    ∷ after swap a (b ∷ nine ∷ [] ⇒ d ∷ []) (a ∷ nine ∷ [] ⇒ d ∷ [])
    ∷ after swap nine (nine ∷ [] ⇒ d ∷ []) (nine ∷ [] ⇒ c ∷ [])
    ∷ after swap a (~ ~ a ∷ [] ⇒ d ∷ []) (a ∷ [] ⇒ d ∷ [])
    ∷ after wr nine (nine ∷ [] ⇒ []) (nine ∷ [] ⇒ d ∷ [])
    ∷ []
