-- Derivable sequents: those that some derivation ends in, its last row read as sets. A rule takes derivable premises
-- to a derivable conclusion, so that a derivation is built with no word about its rows. Only 01's rules are used.
use Prim.Native.Nat.{ℕ}
use mathlib.Core.List.Memᴰ
use mathlib.Core.List.{List, [], ◌∷◌, ◌++◌, map}
use mathlib.Core.Option.{Option, none, some}
use mathlib.Core.Logic.{⊎_elim}
use mathlib.Core.Path.{◌≡◌, refl, sym, subst}
use Rattle.equilibrium.specs.Formula.{Formula, atom, neg, atoms_in}
use Rattle.equilibrium.specs.Meaning.{◌∈◌, ◌⊆◌, ◌≈◌}
use Rattle.elk.specs.Sequent.{Sequent, ◌⇒◌, ◌⨾◌, Same, AllSame}
use Rattle.elk.specs.Rules.{Rule, rcut, unst, xini, swap, Fits, Entry, schema, default, cut, unstable, initial, exchange, entry, first_rules, code_of}
use Rattle.elk.specs.Instance.{meant, filled, Choice, domain, chosen, literal, fixed, excluded_middle}
use Rattle.elk.specs.Instance.{joined, Rising, LeftLiteral, RightLiteral, InstanceOf, Instance}
use Rattle.elk.specs.Derivation.{Derivation, start, row, DerivableBy}
use Rattle.elk.proofs.RuleCodes.{at_in, first_or_swap}
use Rattle.elk.proofs.Steps.{same_refl, same_trans, All, form_of, Keeps}

-- derivable by 01's rules alone
abbrev pub Derivable : Sequent → Type 0
Derivable s = DerivableBy first_rules s

-- being derivable is a matter of the sides as sets
pub derivable_same : {s t : Sequent} → Same s t → Derivable s → Derivable t
derivable_same e d = record { last = d.last; earlier = d.earlier; derivation = d.derivation; ends = same_trans d.ends e }

-- two derivations one after the other
join : {usable : List Rule} {ss ts : List Sequent} → Derivation usable ss → Derivation usable ts → Derivation usable (ss ++ ts)
join start e = e
join {ts = ts} (row d r u F premises inside i) e = row (join d e) r u F premises (λ s m. Memᴰ.append_left ts (inside s m)) i

-- with more rules to use a derivation is still one
more : {few many : List Rule} → few ⊆ many → {rows : List Sequent} → Derivation few rows → Derivation many rows
more s start = start
more s (row d r u F premises inside i) = row (more s d) r (s r u) F premises inside i

pub derivable_more : {few many : List Rule} → few ⊆ many → {s : Sequent} → DerivableBy few s → DerivableBy many s
derivable_more i d = record { last = d.last; earlier = d.earlier; derivation = more i d.derivation; ends = d.ends }

-- one derivation with all of these sequents among its rows
record Gathered (ss : List Sequent) : Type 0 where
  rows : List Sequent
  derivation : Derivation first_rules rows
  found : List Sequent
  inside : found ⊆ rows
  same : AllSame found ss

gather : (ss : List Sequent) → All Derivable ss → Gathered ss
gather [] d = record { rows = []; derivation = start; found = []; inside = λ s m. m; same = tt }
gather (s ∷ ss) d = add d.0 (gather ss d.1)
  where
    add : Derivable s → Gathered ss → Gathered (s ∷ ss)
    add e g =
        record {
          rows = (e.last ∷ e.earlier) ++ g.rows;
          derivation = join e.derivation g.derivation;
          found = e.last ∷ g.found;
          inside =
              λ t m. ⊎_elim (λ k. Memᴰ.head k) (λ k. Memᴰ.append_right (e.last ∷ e.earlier) (g.inside t k)) (Memᴰ.cases_cons m);
          same = (e.ends, g.same);
        }

-- one more row, with premises that are derivable
by_instance : (r : Rule) → r ∈ first_rules → (F : Option Formula) (premises : List Sequent) {s : Sequent}
    → All Derivable premises → ((found : List Sequent) → AllSame found premises → Instance r F found s) → Derivable s
by_instance r u F premises {s} d i = last (gather premises d)
  where
    last : Gathered premises → Derivable s
    last g = record { last = s; earlier = g.rows; derivation = row g.derivation r u F g.found g.inside (i g.found g.same); ends = same_refl }

-- by-rule andr is-conjunction L R (d, (e, tt)) : Derivable (L ⇒ conj A B ∷ R)
pub by_rule : (r : Rule) {F G H : Formula} → Fits (form_of (entry r)) F G H → (L R : List Formula) → Keeps Derivable (entry r) F G H L R
by_rule r {F} {G} {H} f L R =
    ⊎_elim (λ u. go u (entry r) (λ ps s i. i) f) (λ (e : r ≡ swap). subst (λ q. Keeps Derivable (entry q) F G H L R) (sym e) tt) (first_or_swap r)
  where
    go : r ∈ first_rules → (e : Entry)
        → ((premises : List Sequent) (s : Sequent) → InstanceOf e (some F) premises s → Instance r (some F) premises s)
        → Fits (form_of e) F G H → Keeps Derivable e F G H L R
    go u (schema t) up f =
        λ d. by_instance r u (some F) (map (filled (meant F G H) L R t.kind) t.premises) d
        (λ found e. up found _ (record { first = G; second = H; fits = f; L = L; R = R; above = e; below = same_refl }))
    go u default up f = tt
    go u cut up f = tt
    go u unstable up f = tt
    go u initial up f = tt
    go u exchange up f = tt

pub by_cut : {F : Formula} {L R Q : List Formula} → Derivable (L ⇒ F ∷ R) → Derivable (F ∷ L ⇒ Q) → Derivable (L ⇒ R ++ Q)
by_cut {F} {L} {R} {Q} d e =
    by_instance rcut (at_in first_rules (code_of rcut) refl) (some F) ((L ⇒ F ∷ R) ∷ (F ∷ L ⇒ Q) ∷ []) (d, (e, tt))
    (λ found k. record { L = L; R = R; Q = Q; above = k; below = same_refl })

pub by_unstable : (c : Choice) {p : ℕ} {L R : List Formula} → Rising (domain c) → domain c ≈ atoms_in L → p ∈ chosen c
    → Derivable (L ⇒ joined (map literal c) ∷ []) → Derivable (map fixed c ++ L ⨾ joined (map excluded_middle (chosen c)) ∷ []) → Derivable (L ⇒ R)
by_unstable c {p} {L} {R} rising atoms m d e =
    by_instance unst (at_in first_rules (code_of unst) refl) none
    ((L ⇒ joined (map literal c) ∷ []) ∷ (map fixed c ++ L ⨾ joined (map excluded_middle (chosen c)) ∷ []) ∷ []) (d, (e, tt))
    (λ found k. record { L = L; R = R; choice = c; rising = rising; atoms = atoms; member = p; not_empty = m; above = k; below = same_refl })

pub by_initial : {L R : List Formula} → ((F : Formula) → F ∈ L → LeftLiteral F) → ((F : Formula) → F ∈ R → RightLiteral F)
    → ((F : Formula) → F ∈ L → F ∈ R → ⊥) → ((p : ℕ) → atom p ∈ L → neg (atom p) ∈ L → ⊥) → Derivable (L ⨾ R)
by_initial {L} {R} lefts rights apart consistent =
    by_instance xini (at_in first_rules (code_of xini) refl) none [] tt
    (λ found k. record { L = L; R = R; lefts = lefts; rights = rights; apart = apart; consistent = consistent; above = k; below = same_refl })
