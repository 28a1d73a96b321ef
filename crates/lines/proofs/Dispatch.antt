-- The kind of a line by its first field, and what each kind's function says of the line.
use Prim.Native.Nat.{ℕ, ◌≤◌}
use mathlib.Core.Path.{◌≡◌, refl, sym, subst, ◌∙◌}
use mathlib.Core.Bool.{Bool, true, false, cond}
use mathlib.Core.List.{List, [], ◌∷◌}
use mathlib.Core.Option.{none}
use lib.ListN.{length, get_or}
use Rattle.format.specs.Text.{Bytes, bytes, fields_of, is}
use Rattle.format.specs.Line.{line_of, of_kind}
use Rattle.format.proofs.Booleans.{same_list_lem}
use Rattle.parts.specs.Parts.{between}
use Rattle.keywords.specs.Words.{kind_named, KindRead}
use Rattle.keywords.specs.declared.Kind.{Kind}
use Rattle.keywords.specs.declared.Kind.TheVariants.{Atom, Formula, Row, Model, Claim}
use Rattle.std.specs.Prelude.{Option as Answer, None, Some}
use Rattle.refusals.specs.declared.Refusal.TheVariants.{BadLine}
use Rattle.state.specs.State.{Stepped, refused_by, Memory}
use Rattle.state.specs.Lined.{Lined}
use Rattle.lines.specs.Stepping.{LineStepped}
use Rattle.state.specs.declared.State.{State}
use Rattle.lines.proofs.LineLaws.{line_bad}

-- what a kind says of the field that names it
abbrev Named : Answer Kind → Bytes → Type 0
Named (Some Atom) field = field ≡ bytes "A"
Named (Some Formula) field = field ≡ bytes "F"
Named (Some Row) field = field ≡ bytes "N"
Named (Some Model) field = field ≡ bytes "M"
Named (Some Claim) field = field ≡ bytes "C"
Named None field = (is "A" field ≡ false) × (is "F" field ≡ false) × (is "N" field ≡ false) × (is "M" field ≡ false) × (is "C" field ≡ false)

named : (field : Bytes) → Named (kind_named field) field
unfolding kind_named
named field = cases (is "A" field) (is "F" field) (is "N" field) (is "M" field) (is "C" field) refl refl refl refl refl
  where
    cases : (a b c d e : Bool) → is "A" field ≡ a → is "F" field ≡ b → is "N" field ≡ c → is "M" field ≡ d → is "C" field ≡ e
        → Named (cond a (Some Atom) (cond b (Some Formula) (cond c (Some Row) (cond d (Some Model) (cond e (Some Claim) None))))) field
    cases true b c d e i j k l m = same_list_lem field (bytes "A") i
    cases false true c d e i j k l m = same_list_lem field (bytes "F") j
    cases false false true d e i j k l m = same_list_lem field (bytes "N") k
    cases false false false true e i j k l m = same_list_lem field (bytes "M") l
    cases false false false false true i j k l m = same_list_lem field (bytes "C") m
    cases false false false false false i j k l m = (i, j, k, l, m)

unknown_fields : (fs : List Bytes) → Named None (get_or fs 0 []) → of_kind fs ≡ none
unknown_fields [] e = refl
unknown_fields (kind ∷ fs) e = simp (e.0, e.1, e.2, e.3, e.4)

unknown_line : (line : Bytes) → Named None (get_or (fields_of line) 0 []) → line_of line ≡ none
unfolding line_of
unknown_line line e = unknown_fields (fields_of line) e

-- the kind that was read names the line's first field
pub kind_is : (line : Bytes) {first : Bytes} {read : Answer Kind} (kind : Answer Kind) → first ≡ get_or (fields_of line) 0 [] → KindRead first read → read ≡ kind → Named kind (get_or (fields_of line) 0 [])
kind_is line {first = first} kind part found told =
    subst (Named kind) part (subst (λ (k : Answer Kind). Named k first) (sym found.answer ∙ told) (named first))

module _ (text : Bytes) (start end number : ℕ) (s : State) (r : Stepped) where
  pub stepped_outside : (t : Memory) → ((start ≤ end) × (end ≤ length text) → ⊥) → r ≡ refused_by BadLine number → LineStepped text start end number s r t t
  stepped_outside t h given = record { inside = λ a b. absurd (h (a, b)); outside = λ _. (given, refl) }

  module _ (ordered : start ≤ end) (within : end ≤ length text) where
    module _ {line : Bytes} (is : line ≡ between text start end) where
      pub stepped : (t u : Memory) → Lined text start line number s r t u → LineStepped text start end number s r t u
      stepped t u lined =
          record {
            inside = λ a b. subst (λ (l : Bytes). Lined text start l number s r t u) is lined;
            outside = λ h. absurd (h (ordered, within));
          }

      pub stepped_unknown : (t : Memory) → Named None (get_or (fields_of line) 0 []) → r ≡ refused_by BadLine number → LineStepped text start end number s r t t
      stepped_unknown t e given = stepped t t (line_bad t (unknown_line line e) given)
