-- What each rule says, in English: 38 fixed phrases. In an ELK row some formulas are given, and in every equilibrium model at
-- least one of the alternatives holds. In a row of refutation there is a counter-case, in which some formulas hold and others do not.
use Rattle.std.specs.Prelude.{ℕ, [], map, get_or}
use Prim.Native.String.{String}
use Rattle.elk.specs.Rules.{Rule, rules, def, same, andl, andr, wr, bot, orr, orl, notl, impr, impl, notr, rcut, unst}
use Rattle.elk.specs.Rules.{xini, xnnl, xnnr, xandl, xandr1, xandr2, xorr, xorl1, xorl2}
use Rattle.elk.specs.Rules.{ximpl1, ximpl2, ximpl3, ximpr1, ximpr2, xnimpl, xnimpr1, xnimpr2, xnandl1, xnandl2, xnandr, xnorl, xnorr1, xnorr2, swap}
use Rattle.format.specs.Text.{Bytes, bytes}

-- no phrase holds a semicolon, and no two rules share one
unfoldable pub meaning_of : Rule → String
meaning_of def = "only atoms are given, so the negation of an atom that is not given holds by default"
meaning_of same = "a given formula is itself one of the alternatives"
meaning_of andl = "two given parts are given together as their conjunction"
meaning_of andr = "each of two parts is shown as an alternative, so their conjunction is one"
meaning_of wr = "one more alternative is added to those already shown"
meaning_of bot = "contradiction is dropped from the alternatives, as it never holds"
meaning_of orr = "two alternatives are put together as their disjunction"
meaning_of orl = "each part of a given disjunction is taken in turn, the second with the first as one more alternative"
meaning_of notl = "an alternative is dropped, as its negation is given"
meaning_of impr = "an implication takes the place of its second part among the alternatives, and its first part is no longer given"
meaning_of impl = "an implication is given, as the first row has its second part given and shows its first part negated, the second its first part"
meaning_of notr = "a formula is no longer given, and its negation is one more alternative"
meaning_of rcut = "a formula that the first row has as an alternative and the second row as given is cut out, and the rest is joined"
meaning_of unst = "the one set of atoms that is left as a model is not stable, as the second row shows, so any alternatives may stand"
meaning_of xini = "the counter-case can be read off, as there are only atoms, contradiction and negations of these"
meaning_of xnnl = "a double negation holds in the counter-case, as the single negation does not"
meaning_of xnnr = "a double negation does not hold in the counter-case, as the single negation does"
meaning_of xandl = "a conjunction holds in the counter-case, as both its parts do"
meaning_of xandr1 = "a conjunction does not hold in the counter-case, as its first part does not"
meaning_of xandr2 = "a conjunction does not hold in the counter-case, as its second part does not"
meaning_of xorr = "a disjunction does not hold in the counter-case, as neither of its parts does"
meaning_of xorl1 = "a disjunction holds in the counter-case, as its first part does"
meaning_of xorl2 = "a disjunction holds in the counter-case, as its second part does"
meaning_of ximpl1 = "an implication holds in the counter-case, as neither its first part nor the negation of its second part does"
meaning_of ximpl2 = "an implication holds in the counter-case, as its second part does"
meaning_of ximpl3 = "an implication holds in the counter-case, as the negation of its first part does"
meaning_of ximpr1 = "an implication does not hold in the counter-case, as its first part does and its second part does not"
meaning_of ximpr2 = "an implication does not hold in the counter-case, as the negation of its second part does and that of its first part does not"
meaning_of xnimpl = "a negated implication holds in the counter-case, as the negation of its second part does and that of its first part does not"
meaning_of xnimpr1 = "a negated implication does not hold in the counter-case, as the negation of its first part does"
meaning_of xnimpr2 = "a negated implication does not hold in the counter-case, as the negation of its second part does not"
meaning_of xnandl1 = "a negated conjunction holds in the counter-case, as the negation of its first part does"
meaning_of xnandl2 = "a negated conjunction holds in the counter-case, as the negation of its second part does"
meaning_of xnandr = "a negated conjunction does not hold in the counter-case, as the negation of neither part does"
meaning_of xnorl = "a negated disjunction holds in the counter-case, as the negations of both its parts do"
meaning_of xnorr1 = "a negated disjunction does not hold in the counter-case, as the negation of its first part does not"
meaning_of xnorr2 = "a negated disjunction does not hold in the counter-case, as the negation of its second part does not"
meaning_of swap = "a formula takes the place of a given one that holds in the same cases of here-and-there"

-- the phrase of a rule's code
unfoldable pub meaning_at : ℕ → Bytes
meaning_at code = get_or (map (λ r. bytes (meaning_of r)) rules) code []
