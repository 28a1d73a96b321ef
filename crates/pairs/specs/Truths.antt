-- Truth in a pair by the records of a formulas table: each formula by those before it, in the table's order. A table is any list of
-- numbers: where it has no formula's record nothing holds, and an operand that is not before counts as failing.
use Rattle.std.specs.Prelude.{ℕ, zero, suc, ◌<◌, min, Bool, true, false, cond, not, ◌&&◌, ◌||◌, List, [], ◌∷◌, ◌++◌, map, ◌≡◌, eqb, length, get_or, drop}
use Rattle.format.specs.File.{Body, decoded_at}
use Rattle.atomset.specs.AtomSet.{has}
use Rattle.tables.specs.Records.{node_at, record_from}
use Rattle.tables.specs.Holding.{Formulas}
use Rattle.tables.specs.declared.records.NodeRecord.{NodeRecord}
use Rattle.pairs.specs.Pairs.{holds_in}

-- the truth of formula i among those of 0, 1, 2, ..
abbrev pub truth_of : List Bool → ℕ → Bool
truth_of before i = get_or before i false

-- what a formula's word makes of it: an atom, a negation, a conjunction, a disjunction or an implication
unfoldable pub by_word : ℕ → Bool → Bool → Bool → Bool → Bool → Bool
by_word word atom neg conj disj imp =
    cond (eqb word 1) atom (cond (eqb word 2) neg (cond (eqb word 3) conj (cond (eqb word 4) disj (cond (eqb word 5) imp false))))

-- the formula of a record, by the truths of those before it: an atom holds if the set has it, a negation is as true as `neg` says, and
-- an implication holds only where `allowed`
abbrev pub judged_by : ℕ → Bool → Bool → List Bool → NodeRecord → Bool
judged_by set neg allowed before n =
    let A = truth_of before n.first in
    let B = truth_of before n.second in
    by_word n.word (has set n.first) neg (A && B) (A || B) (allowed && (not A || B))

-- in the pair (t,t), where a negation holds if its operand fails
abbrev pub there_by : ℕ → List Bool → NodeRecord → Bool
there_by t before n = judged_by t (not (truth_of before n.first)) true before n

-- in a pair (h,t), where a negation is as true as in (t,t), and an implication has to hold there too: `there` is the formula's truth
-- in (t,t)
abbrev pub here_by : ℕ → Bool → List Bool → NodeRecord → Bool
here_by h there before n = judged_by h there there before n

-- the truths of the first n formulas, each by its number, those before it and its record
unfoldable pub truths : (ℕ → List Bool → NodeRecord → Bool) → List ℕ → ℕ → List Bool
truths rule formulas zero = []
truths rule formulas (suc n) = truths rule formulas n ++ rule n (truths rule formulas n) (record_from (node_at formulas n)) ∷ []

-- those in the pair (t,t)
abbrev pub truths_there : List ℕ → ℕ → ℕ → List Bool
truths_there formulas t n = truths (λ i. there_by t) formulas n

-- and in a pair (h,t), by those in (t,t)
abbrev pub truths_here : List ℕ → ℕ → (ℕ → Bool) → ℕ → List Bool
truths_here formulas h there n = truths (λ i. here_by h (there i)) formulas n

-- a truth as a number: truths are noted in tables of bytes, one a formula
abbrev pub digit : Bool → ℕ
digit true = 1
digit false = 0

-- the table with these truths in front
abbrev pub noted : List Bool → List ℕ → List ℕ
noted ts table = map digit ts ++ drop (length ts) table

-- the truth that is noted of formula i
abbrev pub noted_at : List ℕ → ℕ → Bool
noted_at table i = eqb (get_or table i 0) 1

-- the table notes the truth in (h,t) of the formulas below n
abbrev pub Notes : Body → ℕ → ℕ → ℕ → List ℕ → Type 0
Notes b n h t table = (i : ℕ) → i < n → i < length b.nodes → noted_at table i ≡ holds_in h t (decoded_at b.nodes i)

-- The truths of the first formulas in (t,t) are noted, as far as the count and the table go; where the formulas table begins with
-- those of a good body, they are the truths of its formulas.
pub record NotedThere (formulas : List ℕ) (count t : ℕ) (before after : List ℕ) : Type 0 where
  pub answer : after ≡ noted (truths_there formulas t (min count (length before))) before
  pub judges : (b : Body) → Formulas b formulas → Notes b (min count (length before)) t t after

-- The same in a pair (h,t), by the truths that are noted of (t,t).
pub record NotedHere (formulas : List ℕ) (count h : ℕ) (there before after : List ℕ) : Type 0 where
  pub answer : after ≡ noted (truths_here formulas h (noted_at there) (min count (length before))) before
  pub judges :
      (b : Body) → Formulas b formulas → (t : ℕ) → Notes b (min count (length before)) t t there
      → Notes b (min count (length before)) h t after
