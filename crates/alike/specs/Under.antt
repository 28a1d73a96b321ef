-- The formulas under some that are marked, listed so that backwards each comes after its parts, and their records with slots for parts.
use Rattle.std.specs.Prelude.{ℕ, suc, ◌*◌, ◌≤◌, ◌<◌, cond, List, ◌≡◌, eqb, ltb, length, get_or, take, drop}
use Rattle.equilibrium.specs.Meaning.{◌∈◌}
use Rattle.format.specs.Tables.{most_formulas, node_width}
use Rattle.tables.specs.Records.{node_at, record_from}
use Rattle.tables.specs.declared.records.NodeRecord.{NodeRecord}

-- p is a part of the formula of a record: its operand, or one of two
pub data PartOf (n : NodeRecord) : ℕ → Type 0 where
  first_part : 2 ≤ n.word → PartOf n n.first
  second_part : 3 ≤ n.word → PartOf n n.second

-- p is a part of formula i of a table, and before it
pub record PartIn (formulas : List ℕ) (i p : ℕ) : Type 0 where
  pub part : PartOf (record_from (node_at formulas i)) p
  pub before : p < i

-- formula i is marked
abbrev pub Marked : List ℕ → ℕ → Type 0
Marked marks i = get_or marks i 0 ≡ 1

-- what was marked stays so, formula x is marked if it is before `end` and in the table, and nothing changes from `end` on
pub record MarkedBefore (x end : ℕ) (before after : List ℕ) : Type 0 where
  pub long : length after ≡ length before
  pub kept : (y : ℕ) → Marked before y → Marked after y
  pub marked : x < end → end ≤ length before → Marked after x
  pub others : (y : ℕ) → end ≤ y → get_or after y 0 ≡ get_or before y 0

-- what was marked stays so, the parts of formula i are marked as far as the table goes, and nothing changes from i on
pub record PartsMarked (formulas : List ℕ) (i : ℕ) (before after : List ℕ) : Type 0 where
  pub long : length after ≡ length before
  pub kept : (x : ℕ) → Marked before x → Marked after x
  pub parts : (p : ℕ) → PartIn formulas i p → i ≤ length before → Marked after p
  pub others : (x : ℕ) → i ≤ x → get_or after x 0 ≡ get_or before x 0

-- the parts of each formula of the list come after it there
abbrev pub PartsAfter : List ℕ → List ℕ → Type 0
PartsAfter formulas list = (k : ℕ) → k < length list → (p : ℕ) → PartIn formulas (get_or list k 0) p → p ∈ drop (suc k) list

-- tables of their full lengths
pub record Room (marks list slots : List ℕ) : Type 0 where
  pub marks_long : length marks ≡ most_formulas
  pub list_long : length list ≡ most_formulas
  pub slots_long : length slots ≡ most_formulas

-- the first n of the list are the formulas under the marked ones before `end`, and each has its place there as its slot
pub record Listed (formulas : List ℕ) (end : ℕ) (marks list slots : List ℕ) (n : ℕ) : Type 0 where
  pub within : n ≤ length list
  pub few : n ≤ end
  pub marked : (x : ℕ) → x < end → Marked marks x → x ∈ take n list
  pub below : (x : ℕ) → x ∈ take n list → x < end
  pub ordered : PartsAfter formulas (take n list)
  pub placed : (k : ℕ) → k < n → get_or slots (get_or (take n list) k 0) 0 ≡ k

-- the slot of a formula
abbrev pub slot_of : List ℕ → ℕ → ℕ
slot_of slots i = get_or slots i 0

-- the last part of a formula: its second, or the first where it has one alone
abbrev pub last_part : NodeRecord → ℕ
last_part r = cond (eqb r.word 2) r.first r.second

-- the step of a formula: its record, with the slots of its first and last part where it has parts
unfoldable pub step_of : List ℕ → NodeRecord → NodeRecord
step_of slots r = cond (ltb r.word 2) r (record { word = r.word; first = slot_of slots r.first; second = slot_of slots (last_part r) })

-- the steps of a list of so many formulas are in a table, one record each
pub record Steps (formulas list slots steps : List ℕ) (count : ℕ) : Type 0 where
  pub many : length list ≡ count
  pub each : (k : ℕ) → k < count → record_from (node_at steps k) ≡ step_of slots (record_from (node_at formulas (get_or list k 0)))

-- they are, where the table has room for them
pub record StepsFilled (formulas list slots before after : List ℕ) : Type 0 where
  pub long : length after ≡ length before
  pub filled : node_width * length list ≤ length before → Steps formulas list slots after (length list)
