-- A row of a rule of the table, judged by its sides as numbers.
use Rattle.std.specs.Prelude.{ℕ, ◌<◌, Bool, true, false, List, [], ◌∷◌, map, ◌≡◌, length, take}
use Rattle.elk.specs.Sequent.{Kind, Sequent}
use Rattle.elk.specs.Rules.{Rule, code_of, Schema, schema, entry}
use Rattle.elk.specs.Instance.{SchemaInstance}
use Rattle.elk.specs.CommonSets.{Shared}
use Rattle.format.specs.File.{Node, Body, decoded_at, decoded}
use Rattle.format.specs.Tests.{unknown_formula}
use Rattle.rules.specs.RuleTable.{rule_number}
use Rattle.sides.specs.Deciding.{DecidesIf}
use Rattle.sides.specs.Members.{AllRise}
use Rattle.tables.specs.Holding.{Formulas}
use Rattle.schema.specs.Principal.{Apart, parts_in}
use Rattle.schema.specs.Additions.{sides_in}

-- the antecedent and the succedent of a sequent, as numbers
pub record Sides : Type 0 where
  pub left : List ℕ
  pub right : List ℕ

infix 4 ◌⊣◌
-- these two sides
abbrev pub ◌⊣◌ : List ℕ → List ℕ → Sides
left ⊣ right = record { left = left; right = right }

-- what is handed over: a rule's code, a principal formula, the count of premises, and the sides of the row and of two premises,
-- of which those past the count are none
pub record Handed : Type 0 where
  pub rule : ℕ
  pub principal : ℕ
  pub count : ℕ
  pub row : Sides
  pub one : Sides
  pub two : Sides

module _ (h : Handed) where
  -- the sides of the premises that there are
  abbrev pub premises_handed : List Sides
  premises_handed = take h.count (h.one ∷ h.two ∷ [])

  -- the sides that there are rise strictly
  pub record SidesRise : Type 0 where
    pub left : AllRise (h.row.left ∷ take h.count (h.one.left ∷ h.two.left ∷ []))
    pub right : AllRise (h.row.right ∷ take h.count (h.one.right ∷ h.two.right ∷ []))

  module _ (formulas : List ℕ) where
    -- the principal formula and its parts, by the form that the rule asks for
    abbrev pub parts_handed : Apart
    parts_handed = parts_in formulas (rule_number h.rule 0) h.principal

    -- the principal formula is of the form; some L gives the left sides and some R the right sides, each with what is added
    pub record SchemaSides : Type 0 where
      pub fits : parts_handed.fits ≡ true
      pub left : Shared (sides_in formulas parts_handed h.rule h.count 0 h.row.left h.one.left h.two.left)
      pub right : Shared (sides_in formulas parts_handed h.rule h.count 1 h.row.right h.one.right h.two.right)

-- the sequent of this kind with these sides
abbrev pub sequent_with : List Node → Kind → Sides → Sequent
sequent_with nodes k s = record { kind = k; left = decoded nodes s.left; right = decoded nodes s.right }

-- both sides are of known formulas
pub record KnownSides (b : Body) (s : Sides) : Type 0 where
  pub left : unknown_formula b s.left ≡ false
  pub right : unknown_formula b s.right ≡ false

-- the table holds the formulas of a good body, the code is that of a rule of the table, there are as many premises as it has, and
-- the principal formula and the sides that there are have known numbers
pub record OfBody (b : Body) (s : Rule) (t : Schema) (formulas : List ℕ) (h : Handed) : Type 0 where
  pub held : Formulas b formulas
  pub code : code_of s ≡ h.rule
  pub rule : entry s ≡ schema t
  pub count : h.count ≡ length t.premises
  pub principal : h.principal < length b.nodes
  pub row : KnownSides b h.row
  pub one : 0 < h.count → KnownSides b h.one
  pub two : 1 < h.count → KnownSides b h.two

-- the row is an instance of the rule with its premises
abbrev pub InstanceHanded : Body → Schema → Handed → Type 0
InstanceHanded b t h =
    SchemaInstance t (decoded_at b.nodes h.principal) (map (sequent_with b.nodes t.kind) (premises_handed h))
    (sequent_with b.nodes t.kind h.row)

-- Where the table holds a body, whether the row is an instance. Where it holds none, by the records that stand there. Where a side
-- does not rise strictly the answer is free, but it is true only where the sides fit, or the row is an instance.
pub record SchemaAnswer (formulas : List ℕ) (h : Handed) (r : Bool) : Type 0 where
  pub numbers : DecidesIf (SidesRise h) (SchemaSides h formulas) r
  pub instances : (b : Body) (s : Rule) (t : Schema) → OfBody b s t formulas h → DecidesIf (SidesRise h) (InstanceHanded b t h) r
