-- Every good document is accepted as written, with its claim's line, and the tables then hold its file.
use Prim.Native.Nat.{ℕ, ◌+◌, ◌-◌, ◌≤◌}
use mathlib.Core.Path.{◌≡◌, refl, sym, ap, ap₂, subst, ◌∙◌}
use mathlib.Core.Bool.{true, false}
use mathlib.Core.List.Memᴰ
use mathlib.Core.List.{List, [], ◌∷◌, ◌++◌, map, append_assoc}
use mathlib.Core.Option.{Option, none, some}
use native.Mathlib.Omega.{arith}
use lib.ListN.{length, length-append}
use borrow.Author.Tests.{le-ltb}
use Rattle.equilibrium.specs.Meaning.{◌∈◌}
use Rattle.format.specs.Text.{◌<$>◌, lines_of, Lines}
use Rattle.format.specs.File.{Row, Name, Model, Claim, Body, Stage, modelled, claimed}
use Rattle.format.specs.File.{File, no_file, atoms_given, decoded}
use Rattle.format.specs.Line.{Line, model_line, claim_line}
use Rattle.format.specs.Tables.{Lent, too_short, encode, most_bytes}
use Rattle.format.specs.Tests.{first, rank, unknown_formula, bad_side, last_is}
use Rattle.format.specs.Tests.{model_line_tests, claim_tests}
use Rattle.format.specs.Model.{ModelFits}
use Rattle.format.specs.Judged.{Place, next, settled, step, run}
use Rattle.format.specs.Judged.{top, beginning, accepted, finish, answer_from, judged, contents, held_by}
use Rattle.format.specs.Judged.{with_model, with_claim, reported_on}
use Rattle.format.specs.Good.{atoms, GoodModel}
use Rattle.format.specs.Written.{Each, Small, Writable, bytes_of}
use Rattle.format.specs.Document.{Document, model_lines, lines_in, written}
use Rattle.format.specs.Document.{names_in, body_of, model_on, file_of, GoodDocument}
use Rattle.format.proofs.Stepping.{step_model, step_claim}
use Rattle.format.proofs.GoodBodies.{Held, good_held}
use Rattle.format.proofs.Enough.{follow_later}
use Rattle.format.proofs.ModelFits.{model_passes_iff}
use Rattle.format.proofs.Accepted.{last_row_lem}
use Rattle.format.proofs.WrittenLines.{line_back, lines_back}
use Rattle.format.proofs.WrittenBodies.{Leads, leads_nil, leads_cons, past, leads_append, past_line, unclaimed, small_numbers}
use Rattle.format.proofs.WrittenBodies.{lines_before, LeadsTo, body_leads}

-- ---- the M line

module _ (names : List Name) (b : Body) (held : Held b) (s : Stage) (h : rank s ≤ 2) (p : Place) where
  -- atoms that are there, in rising order, pass
  model_leads : (given : List ℕ) → GoodModel b.atoms given
      → Leads p (model_line given ∷ []) (unclaimed names s none b) (unclaimed names modelled (some (model_on p.line given)) b)
  model_leads given good = leads_cons writable stepped (leads_nil refl)
    where
      writable : Writable (model_line given)
      writable = small_numbers b.atoms (omega (arith, held.few_atoms)) given good.known

      passing : first (model_line_tests (unclaimed names s none b) given) ≡ none
      passing = rw (follow_later s modelled (omega arith), good.known, good.side)

      stepped : step (unclaimed names s none b) p (bytes_of (model_line given)) ≡ next (unclaimed names modelled (some (model_on p.line given)) b)
      stepped =
          step_model (unclaimed names s none b) p _ given (line_back (model_line given) writable)
          ∙ ap (λ o. settled o p.line (with_model (unclaimed names s none b) (model_on p.line given))) passing

  -- the M line, if there is one, leads to a file with that model, which still lacks its claim
  models_lead : (m : Option (List ℕ)) → ((given : List ℕ) → m ≡ some given → GoodModel b.atoms given)
      → (t : Stage) × (rank t ≤ 3) × Leads p (model_lines m) (unclaimed names s none b) (unclaimed names t (model_on p.line <$> m) b)
  models_lead none good = (s, omega arith, leads_nil refl)
  models_lead (some given) good = (modelled, omega arith, model_leads given (good given refl))

-- ---- the C line

-- the sides of the last row are known and rise, so a claim of them that is confirmed passes
module _ (names : List Name) (b : Body) (held : Held b) (left right : List ℕ) (last : last_is b.rows left right ≡ true) where
  claim_sides : (unknown_formula b left ≡ false) × (unknown_formula b right ≡ false) × (bad_side left ≡ false) × (bad_side right ≡ false)
  claim_sides =
      let at = last_row_lem b.rows left right last in
      let among : at.last ∈ b.rows = subst (λ (rs : List Row). at.last ∈ rs) (sym at.split) (Memᴰ.append_right at.before (Memᴰ.head refl)) in
      let h = held.rows at.last among in
      let l = at.left_side in
      let r = at.right_side in
      (rw l at h.left_known, rw r at h.right_known, rw l at h.left_good, rw r at h.right_good)

  claim_leads : (s : Stage) → rank s ≤ 3 → (m : Option Model) → ModelFits (decoded b.nodes left) (decoded b.nodes right) (atoms_given m) → (p : Place)
      → Leads p (claim_line left right ∷ []) (unclaimed names s m b) (with_claim (unclaimed names s m b) (record { line = p.line; left = left; right = right }))
  claim_leads s h m confirmed p = leads_cons writable stepped (leads_nil refl)
    where
      now : File
      now = unclaimed names s m b

      small_side : (is : List ℕ) → unknown_formula b is ≡ false → Each Small is
      small_side is e = small_numbers (length b.nodes) (omega (arith, held.few_nodes)) is e

      writable : Writable (claim_line left right)
      writable = (small_side left claim_sides.0, small_side right claim_sides.1)

      claim : Claim
      claim = record { line = p.line; left = left; right = right }

      passing : first (claim_tests now left right) ≡ none
      passing = let sides = claim_sides in rw (follow_later s claimed (omega arith), sides.0, sides.1, sides.2, sides.3, last)

      stepped : step now p (bytes_of (claim_line left right)) ≡ next (with_claim now claim)
      stepped =
          step_claim now p _ left right (line_back (claim_line left right) writable) passing
          ∙ ap (λ o. settled o (reported_on m p.line) (with_claim now claim)) ((model_passes_iff _ _ (atoms_given m)).1 confirmed)

-- ---- the whole

module _ (d : Document) (good : GoodDocument d) where
  abbrev before : List Line
  before = lines_before d.names (body_of d)

  abbrev claims : Line
  claims = claim_line d.left d.right

  -- where the M line stands, if there is one, and where the claim stands
  abbrev model_place : Place
  model_place = past top before

  abbrev claim_place : Place
  claim_place = past model_place (model_lines d.model)

  all_lines : before ++ (model_lines d.model ++ claims ∷ []) ≡ lines_in d
  all_lines = rw (append_assoc, append_assoc)

  -- the claim stands on the last line
  claim_line_lem : claim_place.line ≡ length (lines_in d)
  claim_line_lem =
      let ms = model_lines d.model in
      let counted = length-append before (ms ++ claims ∷ []) in
      past_line model_place ms ∙ omega (arith, past_line top before, ap length all_lines, counted, length-append ms (claims ∷ []))

  -- and the M line on the one before
  model_line_lem : model_on model_place.line <$> d.model ≡ model_on (length (lines_in d) - 1) <$> d.model
  model_line_lem = by d.model claim_line_lem
    where
      by : (m : Option (List ℕ)) → (past model_place (model_lines m)).line ≡ length (lines_in d)
          → model_on model_place.line <$> m ≡ model_on (length (lines_in d) - 1) <$> m
      by none e = refl
      by (some given) e = let same : model_place.line ≡ length (lines_in d) - 1 = omega arith in ap (λ n. some (model_on n given)) same

  to_body : LeadsTo d.names (body_of d)
  to_body = body_leads d.names good.body good.names

  document_leads : Leads top (lines_in d) no_file (file_of d)
  document_leads =
      let names = names_in d.names in
      let held = good_held good.body in
      let model = models_lead names (body_of d) held to_body.stage to_body.no_model model_place d.model good.model in
      let given : Option Model = model_on model_place.line <$> d.model in
      let confirmed = subst (ModelFits _ _) (same_atoms d.model) good.fits in
      let claim = claim_leads names (body_of d) held d.left d.right good.claim model.0 model.1 given confirmed claim_place in
      let file : ℕ → Option Model → File =
      λ n m. with_claim (unclaimed names model.0 m (body_of d)) (record { line = n; left = d.left; right = d.right }) in
      let last = subst (Leads _ _ _) (ap₂ file claim_line_lem model_line_lem) claim in
      subst (λ (ls : List Line). Leads top ls no_file (file_of d)) all_lines (leads_append to_body.leads (leads_append model.2 last))
    where
      same_atoms : (m : Option (List ℕ)) → m ≡ atoms_given (model_on model_place.line <$> m)
      same_atoms none = refl
      same_atoms (some given) = refl

  lines : lines_of (written d) ≡ record { complete = map bytes_of (lines_in d); rest = [] }
  lines = lines_back (lines_in d) document_leads.writable

  -- the lines of the text come to the document's file
  pub written_beginning : beginning (written d) ≡ next (file_of d)
  unfolding beginning
  written_beginning = ap (λ (ls : Lines). run step top ls.complete no_file) lines ∙ document_leads.runs

  written_answer : answer_from top (written d) no_file ≡ accepted (length (lines_in d))
  unfolding beginning
  written_answer = ap₂ (λ o rest. finish o rest (top.line + length (lines_of (written d)).complete)) written_beginning (ap (λ (ls : Lines). ls.rest) lines)

  -- the text is accepted, with the claim's line
  pub written_accepted : (t : Lent) → too_short t ≡ false → judged t (written d) ≡ accepted (length (lines_in d))
  unfolding judged
  written_accepted t long = rw (long, le-ltb most_bytes (length (written d)) good.short) written_answer

  -- and the tables hold the document's file
  pub written_contents : (t : Lent) → too_short t ≡ false → contents t (written d) ≡ encode (file_of d)
  unfolding contents
  written_contents t long = ap₂ held_by (written_accepted t long) written_beginning
