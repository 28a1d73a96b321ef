-- The 37 rules of paper 01 ("Rows of ELK", "Rows of refutation"), in its order and under its words, and `swap` of paper
-- 02 (M-104). All but five add formulas to one L and one R: these are lines of a table. `def`, `rcut`, `unst`, `xini` and
-- `swap` are written out in Instance.
use Rattle.std.specs.Prelude.{ℕ, Bool, true, false, List, [], ◌∷◌, ◌++◌, map}
use Prim.Native.String.{String}
use Rattle.equilibrium.specs.Formula.{Formula, falsum, neg, conj, disj, imp}
use Rattle.elk.specs.Sequent.{Kind, elk, refutation}

pub data Rule : Type 0 where
  def same andl andr wr bot orr orl notl impr impl notr rcut unst : Rule
  xini xnnl xnnr xandl xandr1 xandr2 xorr xorl1 xorl2 ximpl1 ximpl2 ximpl3 ximpr1 ximpr2 : Rule
  xnimpl xnimpr1 xnimpr2 xnandl1 xnandl2 xnandr xnorl xnorr1 xnorr2 : Rule
  swap : Rule

-- What a rule asks of its principal formula, and names A and B: `A` itself, `#`, `~A`, `A&B`, `A|B`, `A->B`, `~~A`,
-- `~(A&B)`, `~(A|B)`, `~(A->B)`. Where there is one part, it is both A and B.
pub data Form : Type 0 where
  any falsity negation conjunction disjunction implication : Form
  double_negation negated_conjunction negated_disjunction negated_implication : Form

-- the principal formula of a form, and its parts A and B
pub data Fits : Form → Formula → Formula → Formula → Type 0 where
  is_any : {F : Formula} → Fits any F F F
  is_falsity : Fits falsity falsum falsum falsum
  is_negation : {F : Formula} → Fits negation (neg F) F F
  is_conjunction : {F G : Formula} → Fits conjunction (conj F G) F G
  is_disjunction : {F G : Formula} → Fits disjunction (disj F G) F G
  is_implication : {F G : Formula} → Fits implication (imp F G) F G
  is_double_negation : {F : Formula} → Fits double_negation (neg (neg F)) F F
  is_negated_conjunction : {F G : Formula} → Fits negated_conjunction (neg (conj F G)) F G
  is_negated_disjunction : {F G : Formula} → Fits negated_disjunction (neg (disj F G)) F G
  is_negated_implication : {F G : Formula} → Fits negated_implication (neg (imp F G)) F G

-- what a rule adds to L or R: the principal formula, A, B, ~A or ~B
pub data Part : Type 0 where
  P A B ~A ~B : Part

-- what a sequent of a rule has besides L and R
pub record Added : Type 0 where
  pub left : List Part
  pub right : List Part

-- a rule that is L and R with a few formulas added
pub record Schema : Type 0 where
  pub kind : Kind
  pub form : Form
  pub conclusion : Added
  pub premises : List Added

pub data Entry : Type 0 where
  schema : Schema → Entry
  default cut unstable initial exchange : Entry

infix 70 ◌⊢◌
abbrev pub ◌⊢◌ : List Part → List Part → Added
L ⊢ R = record { left = L; right = R }

abbrev pub ∅ : List Part
∅ = []

abbrev pub ⟨◌⟩ : Part → List Part
⟨ X ⟩ = X ∷ []

abbrev pub ⟨◌⁏◌⟩ : Part → Part → List Part
⟨ X ⁏ Y ⟩ = X ∷ Y ∷ []

-- principal form, conclusion, premises in their order
abbrev pub derive : Form → Added → List Added → Entry
derive f c ps = schema (record { kind = elk; form = f; conclusion = c; premises = ps })

-- principal form, conclusion, the one premise
abbrev pub refute : Form → Added → Added → Entry
refute f c p = schema (record { kind = refutation; form = f; conclusion = c; premises = p ∷ [] })

abbrev pub entry : Rule → Entry
entry def = default
entry same = derive any (⟨ P ⟩ ⊢ ⟨ P ⟩) []
entry andl = derive conjunction (⟨ P ⟩ ⊢ ∅) (⟨ A ⁏ B ⟩ ⊢ ∅ ∷ [])
entry andr = derive conjunction (∅ ⊢ ⟨ P ⟩) (∅ ⊢ ⟨ A ⟩ ∷ ∅ ⊢ ⟨ B ⟩ ∷ [])
entry wr = derive any (∅ ⊢ ⟨ P ⟩) (∅ ⊢ ∅ ∷ [])
entry bot = derive falsity (∅ ⊢ ∅) (∅ ⊢ ⟨ P ⟩ ∷ [])
entry orr = derive disjunction (∅ ⊢ ⟨ P ⟩) (∅ ⊢ ⟨ A ⁏ B ⟩ ∷ [])
entry orl = derive disjunction (⟨ P ⟩ ⊢ ∅) (⟨ A ⟩ ⊢ ∅ ∷ ⟨ B ⟩ ⊢ ⟨ A ⟩ ∷ [])
entry notl = derive negation (⟨ P ⟩ ⊢ ∅) (∅ ⊢ ⟨ A ⟩ ∷ [])
entry impr = derive implication (∅ ⊢ ⟨ P ⟩) (⟨ A ⟩ ⊢ ⟨ B ⟩ ∷ [])
entry impl = derive implication (⟨ P ⟩ ⊢ ∅) (⟨ B ⟩ ⊢ ⟨ ~A ⟩ ∷ ∅ ⊢ ⟨ A ⟩ ∷ [])
entry notr = derive negation (∅ ⊢ ⟨ P ⟩) (⟨ A ⟩ ⊢ ∅ ∷ [])
entry rcut = cut
entry unst = unstable
entry xini = initial
entry xnnl = refute double_negation (⟨ P ⟩ ⊢ ∅) (∅ ⊢ ⟨ ~A ⟩)
entry xnnr = refute double_negation (∅ ⊢ ⟨ P ⟩) (⟨ ~A ⟩ ⊢ ∅)
entry xandl = refute conjunction (⟨ P ⟩ ⊢ ∅) (⟨ A ⁏ B ⟩ ⊢ ∅)
entry xandr1 = refute conjunction (∅ ⊢ ⟨ P ⟩) (∅ ⊢ ⟨ A ⟩)
entry xandr2 = refute conjunction (∅ ⊢ ⟨ P ⟩) (∅ ⊢ ⟨ B ⟩)
entry xorr = refute disjunction (∅ ⊢ ⟨ P ⟩) (∅ ⊢ ⟨ A ⁏ B ⟩)
entry xorl1 = refute disjunction (⟨ P ⟩ ⊢ ∅) (⟨ A ⟩ ⊢ ∅)
entry xorl2 = refute disjunction (⟨ P ⟩ ⊢ ∅) (⟨ B ⟩ ⊢ ∅)
entry ximpl1 = refute implication (⟨ P ⟩ ⊢ ∅) (∅ ⊢ ⟨ A ⁏ ~B ⟩)
entry ximpl2 = refute implication (⟨ P ⟩ ⊢ ∅) (⟨ B ⟩ ⊢ ∅)
entry ximpl3 = refute implication (⟨ P ⟩ ⊢ ∅) (⟨ ~A ⟩ ⊢ ∅)
entry ximpr1 = refute implication (∅ ⊢ ⟨ P ⟩) (⟨ A ⟩ ⊢ ⟨ B ⟩)
entry ximpr2 = refute implication (∅ ⊢ ⟨ P ⟩) (⟨ ~B ⟩ ⊢ ⟨ ~A ⟩)
entry xnimpl = refute negated_implication (⟨ P ⟩ ⊢ ∅) (⟨ ~B ⟩ ⊢ ⟨ ~A ⟩)
entry xnimpr1 = refute negated_implication (∅ ⊢ ⟨ P ⟩) (⟨ ~A ⟩ ⊢ ∅)
entry xnimpr2 = refute negated_implication (∅ ⊢ ⟨ P ⟩) (∅ ⊢ ⟨ ~B ⟩)
entry xnandl1 = refute negated_conjunction (⟨ P ⟩ ⊢ ∅) (⟨ ~A ⟩ ⊢ ∅)
entry xnandl2 = refute negated_conjunction (⟨ P ⟩ ⊢ ∅) (⟨ ~B ⟩ ⊢ ∅)
entry xnandr = refute negated_conjunction (∅ ⊢ ⟨ P ⟩) (∅ ⊢ ⟨ ~A ⁏ ~B ⟩)
entry xnorl = refute negated_disjunction (⟨ P ⟩ ⊢ ∅) (⟨ ~A ⁏ ~B ⟩ ⊢ ∅)
entry xnorr1 = refute negated_disjunction (∅ ⊢ ⟨ P ⟩) (∅ ⊢ ⟨ ~A ⟩)
entry xnorr2 = refute negated_disjunction (∅ ⊢ ⟨ P ⟩) (∅ ⊢ ⟨ ~B ⟩)
entry swap = exchange

-- the calculus that a rule's conclusion belongs to
abbrev pub kind_of : Entry → Kind
kind_of (schema t) = t.kind
kind_of default = elk
kind_of cut = elk
kind_of unstable = elk
kind_of initial = refutation
kind_of exchange = elk

-- whether a rule names a principal formula
abbrev pub has_principal : Entry → Bool
has_principal (schema t) = true
has_principal default = true
has_principal cut = true
has_principal unstable = false
has_principal initial = false
has_principal exchange = true

-- the kinds of a rule's premises, in their order
abbrev pub premise_kinds : Entry → List Kind
premise_kinds (schema t) = map (λ p. t.kind) t.premises
premise_kinds default = []
premise_kinds cut = elk ∷ elk ∷ []
premise_kinds unstable = elk ∷ refutation ∷ []
premise_kinds initial = []
premise_kinds exchange = elk ∷ []

-- the rules of 01 in its order
abbrev pub first_rules : List Rule
first_rules =
    def ∷ same ∷ andl ∷ andr ∷ wr ∷ bot ∷ orr ∷ orl ∷ notl ∷ impr ∷ impl ∷ notr ∷ rcut ∷ unst
    ∷ xini ∷ xnnl ∷ xnnr ∷ xandl ∷ xandr1 ∷ xandr2 ∷ xorr ∷ xorl1 ∷ xorl2 ∷ ximpl1 ∷ ximpl2 ∷ ximpl3 ∷ ximpr1 ∷ ximpr2
    ∷ xnimpl ∷ xnimpr1 ∷ xnimpr2 ∷ xnandl1 ∷ xnandl2 ∷ xnandr ∷ xnorl ∷ xnorr1 ∷ xnorr2 ∷ []

-- all rules, later ones at the end; a rule's code is its place less one
abbrev pub rules : List Rule
rules = first_rules ++ swap ∷ []

abbrev pub code_of : Rule → ℕ
code_of def = 0
code_of same = 1
code_of andl = 2
code_of andr = 3
code_of wr = 4
code_of bot = 5
code_of orr = 6
code_of orl = 7
code_of notl = 8
code_of impr = 9
code_of impl = 10
code_of notr = 11
code_of rcut = 12
code_of unst = 13
code_of xini = 14
code_of xnnl = 15
code_of xnnr = 16
code_of xandl = 17
code_of xandr1 = 18
code_of xandr2 = 19
code_of xorr = 20
code_of xorl1 = 21
code_of xorl2 = 22
code_of ximpl1 = 23
code_of ximpl2 = 24
code_of ximpl3 = 25
code_of ximpr1 = 26
code_of ximpr2 = 27
code_of xnimpl = 28
code_of xnimpr1 = 29
code_of xnimpr2 = 30
code_of xnandl1 = 31
code_of xnandl2 = 32
code_of xnandr = 33
code_of xnorl = 34
code_of xnorr1 = 35
code_of xnorr2 = 36
code_of swap = 37

-- the word of a rule in a text
abbrev pub word_of : Rule → String
word_of def = "def"
word_of same = "same"
word_of andl = "andl"
word_of andr = "andr"
word_of wr = "wr"
word_of bot = "bot"
word_of orr = "orr"
word_of orl = "orl"
word_of notl = "notl"
word_of impr = "impr"
word_of impl = "impl"
word_of notr = "notr"
word_of rcut = "rcut"
word_of unst = "unst"
word_of xini = "xini"
word_of xnnl = "xnnl"
word_of xnnr = "xnnr"
word_of xandl = "xandl"
word_of xandr1 = "xandr1"
word_of xandr2 = "xandr2"
word_of xorr = "xorr"
word_of xorl1 = "xorl1"
word_of xorl2 = "xorl2"
word_of ximpl1 = "ximpl1"
word_of ximpl2 = "ximpl2"
word_of ximpl3 = "ximpl3"
word_of ximpr1 = "ximpr1"
word_of ximpr2 = "ximpr2"
word_of xnimpl = "xnimpl"
word_of xnimpr1 = "xnimpr1"
word_of xnimpr2 = "xnimpr2"
word_of xnandl1 = "xnandl1"
word_of xnandl2 = "xnandl2"
word_of xnandr = "xnandr"
word_of xnorl = "xnorl"
word_of xnorr1 = "xnorr1"
word_of xnorr2 = "xnorr2"
word_of swap = "swap"
