-- The table of rules is 01's, and `swap` is 02's: the rows of Rows are instances or are none, each list by one computed
-- test, and 01's whole file is a derivation of its claim. No two rules have one word.
use mathlib.Core.Path.{◌≡◌, refl, ◌∙◌, ap₂}
use mathlib.Core.Bool.{Bool, true, false}
use mathlib.Core.List.{List, [], ◌∷◌, map, map-map}
use mathlib.Core.Option.{Option, none, some, IsSome}
use mathlib.Core.Logic.{◌↔◌}
use native.Mathlib.Decide.{ℕ_discrete}
use lib.Dec.{T}
use lib.Text.{eqt, eqt_refl}
use Rattle.equilibrium.specs.Formula.{Formula}
use Rattle.equilibrium.specs.Meaning.{◌∈◌, ◌⊆◌}
use Rattle.equilibrium.proofs.Sets.{from_yes, dec_not, dec_implies, dec_all, ≈-refl}
use Rattle.elk.specs.Sequent.{Sequent, AllSame}
use Rattle.elk.specs.Rules.{Rule, Entry, schema, default, cut, unstable, initial, exchange, has_principal, premise_kinds, kind_of, rules, code_of, word_of}
use Rattle.elk.specs.Instance.{Exchanged, InstanceOf, Instance, TooManyAtomsOf, TooManyAtoms}
use Rattle.elk.specs.Derivation.{Derivation, start, row, EndsIn}
use Rattle.elk.proofs.RuleCodes.{rule_at_code, every_rule}
use Rattle.elk.proofs.Sides.{nil_part, first_in, second_in}
use Rattle.elk.proofs.CommonSets.{every_cons}
use Rattle.elk.proofs.Decision.{instance?, too_many_atoms?}
use Rattle.elk.proofs.Rows.{Row, instances, near_misses, too_wide, not_too_wide, whole_file, #, ~◌, ◌->◌, a}

abbrev pub IsInstance : Row → Type 0
IsInstance r = Instance r.rule r.principal r.premises r.conclusion

unfoldable is_instance? : (r : Row) → Dec (IsInstance r)
unfolding instance?
is_instance? r = instance? r.rule r.principal r.premises r.conclusion

pub instances_hold : (r : Row) → r ∈ instances → IsInstance r
unfolding is_instance? dec_all ℕ_discrete
instances_hold = from_yes (dec_all is_instance? instances) tt

pub near_misses_fail : (r : Row) → r ∈ near_misses → IsInstance r → ⊥
unfolding is_instance? dec_all dec_not ℕ_discrete
near_misses_fail = from_yes (dec_all (λ r. dec_not (is_instance? r)) near_misses) tt

-- number 18 is given
abbrev pub IsTooWide : Row → Type 0
IsTooWide r = TooManyAtoms r.rule r.principal r.premises r.conclusion

unfoldable is_too_wide? : (r : Row) → Dec (IsTooWide r)
unfolding too_many_atoms?
is_too_wide? r = too_many_atoms? r.rule r.principal r.premises r.conclusion

pub too_wide_hold : (r : Row) → r ∈ too_wide → IsTooWide r
unfolding is_too_wide? dec_all ℕ_discrete
too_wide_hold = from_yes (dec_all is_too_wide? too_wide) tt

pub not_too_wide_fail : (r : Row) → r ∈ not_too_wide → IsTooWide r → ⊥
unfolding is_too_wide? dec_all dec_not ℕ_discrete
not_too_wide_fail = from_yes (dec_all (λ r. dec_not (is_too_wide? r)) not_too_wide) tt

-- what number 10 asks of a row: a principal formula or none, and the kinds of the row and its premises
pub record Shaped (e : Entry) (F : Option Formula) (premises : List Sequent) (conclusion : Sequent) : Type 0 where
  pub principal : T (has_principal e) ↔ IsSome F
  pub above : map (λ s. s.kind) premises ≡ premise_kinds e
  pub below : conclusion.kind ≡ kind_of e

same_kinds_lem : (ss ts : List Sequent) → AllSame ss ts → map (λ s. s.kind) ss ≡ map (λ t. t.kind) ts
same_kinds_lem [] [] h = refl
same_kinds_lem [] (t ∷ ts) h = absurd h
same_kinds_lem (s ∷ ss) [] h = absurd h
same_kinds_lem (s ∷ ss) (t ∷ ts) h = ap₂ ◌∷◌ h.0.kind (same_kinds_lem ss ts h.1)

exchanged_shaped : {F G : Formula} {premises : List Sequent} {conclusion : Sequent}
    → Exchanged F G premises conclusion → Shaped exchange (some F) premises conclusion
exchanged_shaped {premises = premises} i =
    record { principal = (λ x. x, λ x. x); above = same_kinds_lem premises _ i.above; below = i.below.kind }

-- every instance has what number 10 asks, so that 11 is left for the sets alone
pub instance_shaped : (e : Entry) (F : Option Formula) {premises : List Sequent} {conclusion : Sequent}
    → InstanceOf e F premises conclusion → Shaped e F premises conclusion
instance_shaped (schema t) (some F) {premises} i =
    record { principal = (λ x. x, λ x. x); above = same_kinds_lem premises _ i.above ∙ map-map {B = Sequent} _ _ t.premises; below = i.below.kind }
instance_shaped (schema t) none i = absurd i
instance_shaped default (some F) {premises} i = record { principal = (λ x. x, λ x. x); above = same_kinds_lem premises _ i.above; below = i.below.kind }
instance_shaped default none i = absurd i
instance_shaped cut (some F) {premises} i = record { principal = (λ x. x, λ x. x); above = same_kinds_lem premises _ i.above; below = i.below.kind }
instance_shaped cut none i = absurd i
instance_shaped unstable (some F) i = absurd i
instance_shaped unstable none {premises} i = record { principal = (λ x. x, λ x. x); above = same_kinds_lem premises _ i.above; below = i.below.kind }
instance_shaped initial (some F) i = absurd i
instance_shaped initial none {premises} i = record { principal = (λ x. x, λ x. x); above = same_kinds_lem premises _ i.above; below = i.below.kind }
instance_shaped exchange (some F) i = exchanged_shaped i.sides
instance_shaped exchange none i = absurd i

-- so has every row that number 18 is given
pub wide_shaped : (e : Entry) (F : Option Formula) {premises : List Sequent} {conclusion : Sequent}
    → TooManyAtomsOf e F premises conclusion → Shaped e F premises conclusion
wide_shaped (schema t) F w = absurd w
wide_shaped default F w = absurd w
wide_shaped cut F w = absurd w
wide_shaped unstable F w = absurd w
wide_shaped initial F w = absurd w
wide_shaped exchange (some F) w = exchanged_shaped w.sides
wide_shaped exchange none w = absurd w

-- and no such row is an instance
pub wide_no_instance : (e : Entry) (F : Option Formula) (premises : List Sequent) (conclusion : Sequent)
    → TooManyAtomsOf e F premises conclusion → InstanceOf e F premises conclusion → ⊥
wide_no_instance (schema t) F ps s w i = w
wide_no_instance default F ps s w i = w
wide_no_instance cut F ps s w i = w
wide_no_instance unstable F ps s w i = w
wide_no_instance initial F ps s w i = w
wide_no_instance exchange (some F) ps s w i = w.none_fits i
wide_no_instance exchange none ps s w i = w

-- rows, the last one first, each with its premises earlier
abbrev Linked : List Row → Type 0
Linked [] = Unit {0}
Linked (r ∷ rs) = (r.premises ⊆ map (λ q. q.conclusion) rs) × Linked rs

derived : (rs : List Row) → Linked rs → ((r : Row) → r ∈ rs → IsInstance r) → Derivation rules (map (λ r. r.conclusion) rs)
derived [] l h = start
derived (r ∷ rs) l h =
    row (derived rs l.1 (every_cons.0 h).1) r.rule (every_rule r.rule) r.principal r.premises l.0 (h r first_in)

-- 01's whole file ends in its claim ~p->p => #
pub whole_file_derives : EndsIn (~ a -> a ∷ []) (# ∷ [])
unfolding is_instance? dec_all ℕ_discrete
whole_file_derives = record {
  last = _;
  earlier = _;
  derivation =
      derived whole_file (
        every_cons.1 (second_in, every_cons.1 (first_in, nil_part)),
        (nil_part, (every_cons.1 (first_in, nil_part), (every_cons.1 (first_in, nil_part), (nil_part, tt)))),
      ) (from_yes (dec_all is_instance? whole_file) tt);
  ends = record { kind = refl; left = ≈-refl; right = ≈-refl };
}

unfoldable test? : (t : Bool) → Dec (T t)
test? true = yes tt
test? false = no (λ t. t)

-- no two rules have one word, by one computed test of all pairs
pub words_differ : (r q : Rule) → word_of r ≡ word_of q → r ≡ q
unfolding dec_all dec_implies test? ℕ_discrete
words_differ r q e =
    let code : code_of r ≡ code_of q = from_yes
    (dec_all (λ s. dec_all (λ t. dec_implies (test? (eqt (word_of s) (word_of t))) (ℕ_discrete (code_of s) (code_of t))) rules) rules) tt r
    (every_rule r) q (every_rule q) (rw (← e) (eqt_refl (word_of r))) in
    cc (rule_at_code r, rule_at_code q)
