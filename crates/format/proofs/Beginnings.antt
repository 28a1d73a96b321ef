-- What every accepted beginning is: its body and its names are good, and its formulas and claim are those that its lines write.
use Prim.Native.Nat.{ℕ, ◌+◌, ◌≤◌, ◌<◌}
use native.Mathlib.Omega.{arith}
use mathlib.Core.Path.{◌≡◌, refl, sym, ap, ap₂, subst, ◌∙◌}
use mathlib.Core.Bool.{Bool, true, false, not, cond, true≢false}
use mathlib.Core.List.Memᴰ
use mathlib.Core.List.{
  List,
  [],
  ◌∷◌,
  ◌++◌,
  map-append,
  append-nil,
  append_assoc,
}
use mathlib.Core.Logic.{◌⊎◌, inl, inr, ⊎_elim}
use mathlib.Core.Option.{Option, none, some}
use lib.ListN.{length, length-append, length-map}
use borrow.Author.Tests.{leb-false}
use Rattle.equilibrium.specs.Meaning.{◌∈◌}
use Rattle.format.specs.Text.{Bytes, is_name, any, same_list}
use Rattle.format.specs.File.{Node, Row, Name, Model, Claim, Body, in_atoms, in_formulas, in_rows, modelled, claimed, File, no_file, atoms_given, decoded}
use Rattle.format.specs.Line.{Line, atom_line, formula_line, row_line, model_line, claim_line, line_of}
use Rattle.format.specs.Tables.{most_atoms}
use Rattle.format.specs.Tests.{Test, ◌when◌, first, rank, out_of_order, last_is}
use Rattle.format.specs.Tests.{atom_tests, node_tests, formula_tests, body_tests, row_tests, model_line_tests, claim_tests}
use Rattle.format.specs.Model.{ModelFits, claim_model_tests}
use Rattle.format.specs.Judged.{
  Place,
  Outcome,
  next,
  refused,
  settled,
  or_bad_line,
  step_read,
  step,
  after,
  below,
  run,
  with_atom,
  with_node,
  with_row,
  with_model,
  with_claim,
  reported_on,
  name_start,
  Said,
  saying,
  said_after,
  said_by,
}
use Rattle.format.specs.Good.{bare, GoodBody, atoms, formula, row, spellings, GoodNames, GoodModel, Good}
use Rattle.format.proofs.Booleans.{or_false, not_false, list_same}
use Rattle.format.proofs.Tested.{passes, follows_once, in_order}
use Rattle.format.proofs.GoodBodies.{Distinct, distinct_snoc}
use Rattle.format.proofs.ModelFits.{model_passes_iff}

pub settled_next : (o : Option ℕ) (line : ℕ) (f t : File) → settled o line f ≡ next t → (o ≡ none) × (f ≡ t)
settled_next none line f t e = (refl, cc)
settled_next (some n) line f t e = let z : ◌≡◌ {A = ℕ} 0 1 = cc in absurd (omega arith)

-- what one line more says
said_snoc : (s : Said) (ls : List Bytes) (l : Bytes) → said_after s (ls ++ l ∷ []) ≡ saying (said_after s ls) (line_of l)
said_snoc s [] l = refl
said_snoc s (k ∷ ks) l = said_snoc (saying s (line_of k)) ks l

-- what a file's lines have said
abbrev heard : File → Said
heard f = record { names = spellings f.names; nodes = f.body.nodes; model = atoms_given f.model }

said_with : {done : List Bytes} {f : File} (line : Bytes) (o : Option Line) → Good done f → line_of line ≡ o → said_by (done ++ line ∷ []) ≡ saying (heard f) o
said_with {done} line o g e = said_snoc _ done line ∙ ap₂ saying g.said e

-- the claims of the lines before, and of a line that is none
claims_kept :
    {done : List Bytes} {f : File} (line : Bytes) (t : File) → Good done f → t.claim ≡ f.claim → ((l r : List ℕ) → line_of line ≡ some (claim_line l r) → ⊥)
    → (m : Bytes) (l r : List ℕ) → m ∈ done ++ line ∷ [] → line_of m ≡ some (claim_line l r) → (c : Claim) × (t.claim ≡ some c) × (c.left ≡ l) × (c.right ≡ r)
claims_kept {done} {f} line t g same none_here m l r i e =
    ⊎_elim
    (λ k. let c = g.claims_read m l r k e in (c.0, same ∙ c.1, c.2, c.3))
    (λ k. absurd (none_here l r (sym (ap line_of (Memᴰ.eq_of_singleton k)) ∙ e)))
    (Memᴰ.append_cases done i)

-- the tests after the first, where none applies
later_none : (t : Test) (ts : List Test) → first (t ∷ ts) ≡ none → first ts ≡ none
later_none t ts e = cases t.applies e
  where
    cases : (b : Bool) → cond b (some t.number) (first ts) ≡ none → first ts ≡ none
    cases true k = let z : ◌≡◌ {A = ℕ} 0 1 = cc in absurd (omega arith)
    cases false k = k

-- what is absent is not this
no_such : {X : Type 0} {o : Option X} {x : X} → o ≡ none → o ≡ some x → ⊥
no_such a s = let z : ◌≡◌ {A = ℕ} 0 1 = cc in omega arith

-- a body of atoms alone
only_atoms : (b : Body) → b.nodes ≡ [] → b.rows ≡ [] → b ≡ bare b.atoms
only_atoms b n r = ap₂ (λ (nodes : List Node) (rows : List Row). record { atoms = b.atoms; nodes = nodes; rows = rows }) n r

-- one more name, of 01's form and not used before
module _ {atoms : ℕ} {names : List Name} (start : ℕ) (name : Bytes) (g : GoodNames atoms names) where
  names_with_lem : is_name name ≡ true → any (λ (m : Name). same_list m.name name) names ≡ false
      → GoodNames (atoms + 1) (names ++ record { start = start; name = name } ∷ [])
  names_with_lem form new =
      record {
        count = omega (arith, length-append names (record { start = start; name = name } ∷ []), g.count);
        form = λ n m. all_form n (Memᴰ.append_cases old (subst (λ (xs : List Bytes). n ∈ xs) spelled m));
        distinct = λ i j h k. all_apart i j (omega (arith, all)) (omega (arith, all));
      }
    where
      old : List Bytes
      old = spellings names

      spelled : spellings (names ++ record { start = start; name = name } ∷ []) ≡ old ++ name ∷ []
      spelled = map-append (λ (n : Name). n.name) names (record { start = start; name = name } ∷ [])

      as_many : length old ≡ atoms
      as_many = length-map names (λ (n : Name). n.name) ∙ g.count

      unused : (ns : List Name) → any (λ (m : Name). same_list m.name name) ns ≡ false → name ∈ spellings ns → ⊥
      unused [] e m = Memᴰ.not-nil m
      unused (n ∷ ns) e m =
          let parts = or_false (same_list n.name name) _ e in
          ⊎_elim (λ (k : name ≡ n.name). true≢false (sym (list_same name) ∙ ap (λ (x : Bytes). same_list x name) k ∙ parts.0)) (unused ns parts.1)
          (Memᴰ.cases_cons m)

      all_form : (n : Bytes) → (n ∈ old) ⊎ (n ∈ name ∷ []) → is_name n ≡ true
      all_form n (inl m) = g.form n m
      all_form n (inr m) = subst (λ (x : Bytes). is_name x ≡ true) (sym (Memᴰ.eq_of_singleton m)) form

      apart : Distinct [] old
      apart i j h k = g.distinct i j (omega (arith, as_many)) (omega (arith, as_many))

      all_apart : Distinct [] (spellings (names ++ record { start = start; name = name } ∷ []))
      all_apart = subst (Distinct []) (sym spelled) (distinct_snoc [] old name apart (unused names new))

      all : length (spellings (names ++ record { start = start; name = name } ∷ [])) ≡ atoms + 1
      all = ap length spelled ∙ length-append old (name ∷ []) ∙ omega (arith, as_many)

module _ {done : List Bytes} {f : File} (line : Bytes) (g : Good done f) where
  atom_good : (n at : ℕ) (name : Bytes) → line_of line ≡ some (atom_line n name) → first (atom_tests f n name) ≡ none
      → Good (done ++ line ∷ []) (with_atom f at name)
  atom_good n at name e through =
      record {
        body = subst GoodBody (sym (only_atoms (with_atom f at name).body nodes rows)) (atoms (f.body.atoms + 1) (omega (arith, room)));
        names = names_with_lem at name g.names (not_false _ six.0) six.1;
        no_nodes = λ h. nodes;
        no_rows = λ h. rows;
        no_model = λ h. model;
        model_made = λ k. absurd (omega arith);
        model = λ m k. absurd (no_such model k);
        no_claim = λ h. claim;
        claim_made = λ h. absurd (omega arith);
        said =
            said_with line _ g e
            ∙ ap (λ (xs : List Bytes). record { names = xs; nodes = f.body.nodes; model = atoms_given f.model })
            (sym (map-append (λ (m : Name). m.name) f.names (record { start = at; name = name } ∷ [])));
        claims_read = claims_kept line (with_atom f at name) g refl (λ l r k. let z : ◌≡◌ {A = ℕ} 0 1 = cc in omega arith);
        claim_said = λ c k. absurd (no_such claim k);
        claim_last = λ c k. absurd (no_such claim k);
        fits = λ c k. absurd (no_such claim k);
      }
    where
      order : rank f.stage ≤ 0
      order = in_order f.stage in_atoms f.body.atoms n (passes 4 (atom_tests f n name) through)

      nodes : f.body.nodes ≡ []
      nodes = g.no_nodes order

      rows : f.body.rows ≡ []
      rows = g.no_rows (omega (arith, order))

      model : f.model ≡ none
      model = g.no_model (omega (arith, order))

      claim : f.claim ≡ none
      claim = g.no_claim (omega (arith, order))

      room : f.body.atoms < most_atoms
      room = leb-false most_atoms f.body.atoms (passes 5 (atom_tests f n name) through)

      six : (not (is_name name) ≡ false) × (any (λ (m : Name). same_list m.name name) f.names ≡ false)
      six = or_false _ _ (passes 6 (atom_tests f n name) through)

  formula_good : (n : ℕ) (node : Node) → line_of line ≡ some (formula_line n node) → first (formula_tests f n node) ≡ none
      → Good (done ++ line ∷ []) (with_node f node)
  formula_good n node e through =
      record {
        body =
            formula g.body rows node (later_none (4 when out_of_order f.stage in_formulas (length f.body.nodes) n) (node_tests f.body node) through);
        names = g.names;
        no_nodes = λ h. absurd (omega arith);
        no_rows = λ h. rows;
        no_model = λ h. model;
        model_made = λ k. absurd (omega arith);
        model = λ m k. absurd (no_such model k);
        no_claim = λ h. claim;
        claim_made = λ h. absurd (omega arith);
        said = said_with line _ g e;
        claims_read = claims_kept line (with_node f node) g refl (λ l r k. let z : ◌≡◌ {A = ℕ} 0 1 = cc in omega arith);
        claim_said = λ c k. absurd (no_such claim k);
        claim_last = λ c k. absurd (no_such claim k);
        fits = λ c k. absurd (no_such claim k);
      }
    where
      order : rank f.stage ≤ 1
      order = in_order f.stage in_formulas (length f.body.nodes) n (passes 4 (formula_tests f n node) through)

      rows : f.body.rows ≡ []
      rows = g.no_rows order

      model : f.model ≡ none
      model = g.no_model (omega (arith, order))

      claim : f.claim ≡ none
      claim = g.no_claim (omega (arith, order))

  row_good : (n : ℕ) (r : Row) → line_of line ≡ some (row_line n r) → first (row_tests f n r) ≡ none → Good (done ++ line ∷ []) (with_row f r)
  row_good n r e through =
      record {
        body = row g.body r (later_none (4 when out_of_order f.stage in_rows (length f.body.rows) n) (body_tests f.body r) through);
        names = g.names;
        no_nodes = λ h. absurd (omega arith);
        no_rows = λ h. absurd (omega arith);
        no_model = λ h. model;
        model_made = λ k. absurd (omega arith);
        model = λ m k. absurd (no_such model k);
        no_claim = λ h. claim;
        claim_made = λ h. absurd (omega arith);
        said = said_with line _ g e;
        claims_read = claims_kept line (with_row f r) g refl (λ l q k. let z : ◌≡◌ {A = ℕ} 0 1 = cc in omega arith);
        claim_said = λ c k. absurd (no_such claim k);
        claim_last = λ c k. absurd (no_such claim k);
        fits = λ c k. absurd (no_such claim k);
      }
    where
      order : rank f.stage ≤ 2
      order = in_order f.stage in_rows (length f.body.rows) n (passes 4 (row_tests f n r) through)

      model : f.model ≡ none
      model = g.no_model order

      claim : f.claim ≡ none
      claim = g.no_claim (omega (arith, order))

  model_good : (at : ℕ) (given : List ℕ) → line_of line ≡ some (model_line given) → first (model_line_tests f given) ≡ none
      → Good (done ++ line ∷ []) (with_model f (record { line = at; atoms = given }))
  model_good at given e through =
      record {
        body = g.body;
        names = g.names;
        no_nodes = λ h. absurd (omega arith);
        no_rows = λ h. absurd (omega arith);
        no_model = λ h. absurd (omega arith);
        model_made = λ k. (record { line = at; atoms = given }, refl);
        model = λ m k. own m (cc);
        no_claim = λ h. claim;
        claim_made = λ h. absurd (omega arith);
        said = said_with line _ g e;
        claims_read =
            claims_kept line (with_model f (record { line = at; atoms = given })) g refl (λ l r k. let z : ◌≡◌ {A = ℕ} 0 1 = cc in omega arith);
        claim_said = λ c k. absurd (no_such claim k);
        claim_last = λ c k. absurd (no_such claim k);
        fits = λ c k. absurd (no_such claim k);
      }
    where
      order : rank f.stage < 3
      order = follows_once f.stage modelled (omega arith) (not_false _ (passes 4 (model_line_tests f given) through))

      claim : f.claim ≡ none
      claim = g.no_claim (omega (arith, order))

      own : (m : Model) → record { line = at; atoms = given } ≡ m → GoodModel f.body.atoms m.atoms
      own m k =
          subst (λ (m : Model). GoodModel f.body.atoms m.atoms) k
          (record { known = passes 7 (model_line_tests f given) through; side = passes 9 (model_line_tests f given) through })

  claim_good : (at : ℕ) (left right : List ℕ) → line_of line ≡ some (claim_line left right) → first (claim_tests f left right) ≡ none
      → first (claim_model_tests f left right) ≡ none → Good (done ++ line ∷ []) (with_claim f (record { line = at; left = left; right = right }))
  claim_good at left right e through confirming =
      record {
        body = g.body;
        names = g.names;
        no_nodes = λ h. absurd (omega arith);
        no_rows = λ h. absurd (omega arith);
        no_model = λ h. absurd (omega arith);
        model_made = λ k. absurd (omega arith);
        model = g.model;
        no_claim = λ h. absurd (omega arith);
        claim_made = λ h. (record { line = at; left = left; right = right }, refl);
        said = said_with line _ g e;
        claims_read = claims;
        claim_said = λ c k. (line, Memᴰ.append_right done (Memᴰ.head refl), said_here c (cc));
        claim_last = λ c k. last c (cc);
        fits = λ c k. own c (cc);
      }
    where
      claim : f.claim ≡ none
      claim = g.no_claim (omega (arith, follows_once f.stage claimed (omega arith) (not_false _ (passes 4 (claim_tests f left right) through))))

      own : (c : Claim) → record { line = at; left = left; right = right } ≡ c
          → ModelFits (decoded f.body.nodes c.left) (decoded f.body.nodes c.right) (atoms_given f.model)
      own c k =
          subst (λ (d : Claim). ModelFits (decoded f.body.nodes d.left) (decoded f.body.nodes d.right) (atoms_given f.model)) k
          ((model_passes_iff _ _ (atoms_given f.model)).0 confirming)

      claims : (m : Bytes) (l r : List ℕ) → m ∈ done ++ line ∷ [] → line_of m ≡ some (claim_line l r)
          → (c : Claim) × ((with_claim f (record { line = at; left = left; right = right })).claim ≡ some c) × (c.left ≡ l) × (c.right ≡ r)
      claims m l r i k = ⊎_elim (λ j. absurd (earlier j)) here (Memᴰ.append_cases done i)
        where
          earlier : m ∈ done → ⊥
          earlier j =
              let c = g.claims_read m l r j k in
              let none_some : ◌≡◌ {A = Option Claim} none (some c.0) = sym claim ∙ c.1 in
              let z : ◌≡◌ {A = ℕ} 0 1 = cc in
              omega arith

          here : m ∈ line ∷ []
              → (c : Claim) × (◌≡◌ {A = Option Claim} (some (record { line = at; left = left; right = right })) (some c)) × (c.left ≡ l) × (c.right ≡ r)
          here j =
              let read = ap line_of (Memᴰ.eq_of_singleton j) in
              let same : ◌≡◌ {A = Option Line} (some (claim_line left right)) (some (claim_line l r)) = sym e ∙ sym read ∙ k in
              (record { line = at; left = left; right = right }, refl, cc, cc)

      said_here : (c : Claim) → record { line = at; left = left; right = right } ≡ c → line_of line ≡ some (claim_line c.left c.right)
      said_here c k = subst (λ (d : Claim). line_of line ≡ some (claim_line d.left d.right)) k e

      last : (c : Claim) → record { line = at; left = left; right = right } ≡ c → last_is f.body.rows c.left c.right ≡ true
      last c k = subst (λ (d : Claim). last_is f.body.rows d.left d.right ≡ true) k (not_false _ (passes 12 (claim_tests f left right) through))

pub step_good : {done : List Bytes} {f t : File} (p : Place) (line : Bytes) → Good done f → step f p line ≡ next t → Good (done ++ line ∷ []) t
unfolding step step_read
step_good {done} {f} {t} p line g e = read (line_of line) refl e
  where
    settle : (o : Option ℕ) (at : ℕ) (u : File) → settled o at u ≡ next t → (o ≡ none → Good (done ++ line ∷ []) u) → Good (done ++ line ∷ []) t
    settle o at u k good = let s = settled_next o at u t k in subst (Good (done ++ line ∷ [])) s.1 (good s.0)

    claim : (l r : List ℕ) → line_of line ≡ some (claim_line l r) → (o : Option ℕ) → first (claim_tests f l r) ≡ o
        → after (settled o p.line f) (λ g. settled (first (claim_model_tests g l r)) (reported_on g.model p.line)
        (with_claim g (record { line = p.line; left = l; right = r }))) ≡ next t → Good (done ++ line ∷ []) t
    claim l r q none through k = settle (first (claim_model_tests f l r)) _ _ k (claim_good line g p.line l r q through)
    claim l r q (some n) through k = let z : ◌≡◌ {A = ℕ} 0 1 = cc in absurd (omega arith)

    read : (o : Option Line) → line_of line ≡ o → or_bad_line o p (step_read f p line) ≡ next t → Good (done ++ line ∷ []) t
    read none q k = let z : ◌≡◌ {A = ℕ} 0 1 = cc in absurd (omega arith)
    read (some (atom_line n name)) q k = settle (first (atom_tests f n name)) _ _ k (atom_good line g n (name_start p line) name q)
    read (some (formula_line n node)) q k = settle (first (formula_tests f n node)) _ _ k (formula_good line g n node q)
    read (some (row_line n r)) q k = settle (first (row_tests f n r)) _ _ k (row_good line g n r q)
    read (some (model_line given)) q k = settle (first (model_line_tests f given)) _ _ k (model_good line g p.line given q)
    read (some (claim_line l r)) q k = claim l r q (first (claim_tests f l r)) refl k

pub run_good : {done : List Bytes} {f t : File} (p : Place) (lines : List Bytes) → Good done f → run step p lines f ≡ next t → Good (done ++ lines) t
unfolding run
run_good {done} {f} {t} p [] g e = subst (Good (done ++ [])) same (subst (λ (ls : List Bytes). Good ls f) (sym (append-nil done)) g)
  where
    same : f ≡ t
    same = cc
run_good {done} {f} {t} p (l ∷ ls) g e = further (step f p l) refl e (λ u. run_good {done = done ++ l ∷ []} {f = u} (below p l) ls)
  where
    further : (o : Outcome File) → step f p l ≡ o → after o (run step (below p l) ls) ≡ next t
        → ((u : File) → Good (done ++ l ∷ []) u → run step (below p l) ls u ≡ next t → Good ((done ++ l ∷ []) ++ ls) t) → Good (done ++ l ∷ ls) t
    further (next u) q k rest = subst (λ (ms : List Bytes). Good ms t) (append_assoc done (l ∷ []) ls) (rest u (step_good p l g q) k)
    further (refused n m) q k rest = let z : ◌≡◌ {A = ℕ} 0 1 = cc in absurd (omega arith)

pub good_start : Good [] no_file
good_start =
    record {
      body = atoms 0 (omega arith);
      names = record { count = refl; form = λ n m. absurd (Memᴰ.not-nil m); distinct = λ i j h k e. absurd (omega arith) };
      no_nodes = λ h. refl;
      no_rows = λ h. refl;
      no_model = λ h. refl;
      model_made = λ k. absurd (omega arith);
      model = λ m k. absurd (no_such refl k);
      no_claim = λ h. refl;
      claim_made = λ h. absurd (omega arith);
      said = refl;
      claims_read = λ line l r m e. absurd (Memᴰ.not-nil m);
      claim_said = λ c k. absurd (no_such refl k);
      claim_last = λ c k. absurd (no_such refl k);
      fits = λ c k. absurd (no_such refl k);
    }
