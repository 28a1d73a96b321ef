-- What acceptance shows: the rows of an accepted text, decoded, are a derivation that ends in its claim; so its claim
-- does not fail. And the claim is confirmed by a model, or shows a contradiction.
use Prim.Native.Nat.{ℕ}
use native.Mathlib.Omega.{arith}
use mathlib.Core.Path.{◌≡◌, refl, sym, ap, subst, subst₃, ◌∙◌}
use mathlib.Core.Bool.{true, ◌&&◌, false≢true}
use mathlib.Core.List.{List, [], ◌∷◌, ◌++◌}
use mathlib.Core.Option.{Option, none, some}
use Rattle.equilibrium.specs.Meaning.{◌∈◌, ◌≈◌, Fails}
use Rattle.equilibrium.proofs.Sets.{≈-refl}
use Rattle.equilibrium.proofs.Models.{entails_not_fails}
use Rattle.elk.specs.Sequent.{Kind, elk, refutation}
use Rattle.elk.specs.Rules.{entry, kind_of, rules}
use Rattle.elk.specs.Derivation.{Derivation, EndsIn}
use Rattle.elk.proofs.Soundness.{ends_in_sound}
use Rattle.format.specs.Text.{Bytes, lines_of, same_list}
use Rattle.format.specs.File.{Node, Row, Claim, File, no_file, sequent_of, decoded}
use Rattle.format.specs.Line.{claim_line, line_of}
use Rattle.format.specs.Tables.{Lent}
use Rattle.format.specs.Tests.{first, same_kind, last_is}
use Rattle.format.specs.Model.{Shown}
use Rattle.format.specs.Judged.{Outcome, next, refused, top, beginning, accepted, turned_down}
use Rattle.format.specs.Judged.{or_no_claim, finish, answer_from, whole_tests, or_whole, judged, Said, ClaimFails, ClaimShown}
use Rattle.format.proofs.Booleans.{and_true, same_list_lem}
use Rattle.format.specs.Good.{derived, Good}
use Rattle.format.proofs.GoodBodies.{derived_snoc, good_derivation}
use Rattle.format.proofs.ModelFits.{fitting_shown}
use Rattle.format.proofs.Beginnings.{run_good, good_start}

-- an accepted text: the file that its lines come to, and its claim
pub record Accepted (text : Bytes) (line : ℕ) : Type 0 where
  pub file : File
  pub is_beginning : beginning text ≡ next file
  pub claim : Claim
  pub is_claim : file.claim ≡ some claim
  pub is_line : claim.line ≡ line

turned_down_lem : {n k l : ℕ} → turned_down n k ≡ accepted l → ⊥
turned_down_lem e = let z : ◌≡◌ {A = ℕ} 0 1 = cc in omega arith

pub accepted_file : (t : Lent) (text : Bytes) (line : ℕ) → judged t text ≡ accepted line → Accepted text line
unfolding judged beginning
accepted_file t text line e = whole (first (whole_tests t text)) e
  where
    claim_of_lem : (f : File) (o : Option Claim) (n : ℕ) → f.claim ≡ o → beginning text ≡ next f → or_no_claim o n ≡ accepted line → Accepted text line
    claim_of_lem f none n q b k = absurd (turned_down_lem k)
    claim_of_lem f (some c) n q b k = record { file = f; is_beginning = b; claim = c; is_claim = q; is_line = cc }

    finished : (o : Outcome File) (rest : Bytes) (n : ℕ) → beginning text ≡ o → finish o rest n ≡ accepted line → Accepted text line
    finished (refused m k) rest n b q = absurd (turned_down_lem q)
    finished (next f) [] n b q = claim_of_lem f f.claim n refl b q
    finished (next f) (x ∷ xs) n b q = absurd (turned_down_lem q)

    whole : (o : Option ℕ) → or_whole o (answer_from top text no_file) ≡ accepted line → Accepted text line
    whole none k = finished (beginning text) (lines_of text).rest _ refl k
    whole (some n) k = absurd (turned_down_lem k)

pub accepted_good : {text : Bytes} {line : ℕ} (a : Accepted text line) → Good (lines_of text).complete a.file
unfolding beginning
accepted_good {text} a = run_good top (lines_of text).complete good_start a.is_beginning

is_elk : (k : Kind) → same_kind k elk ≡ true → k ≡ elk
is_elk elk e = refl
is_elk refutation e = absurd (false≢true e)

pub record LastRow (rows : List Row) (left right : List ℕ) : Type 0 where
  pub before : List Row
  pub last : Row
  pub split : rows ≡ before ++ last ∷ []
  pub kind : kind_of (entry last.rule) ≡ elk
  pub left_side : last.left ≡ left
  pub right_side : last.right ≡ right

pub last_row_lem : (rows : List Row) (left right : List ℕ) → last_is rows left right ≡ true → LastRow rows left right
last_row_lem [] left right e = absurd (false≢true e)
last_row_lem (r ∷ []) left right e =
    let rights = and_true (same_kind (kind_of (entry r.rule)) elk && same_list r.left left) (same_list r.right right) e in
    let lefts = and_true (same_kind (kind_of (entry r.rule)) elk) (same_list r.left left) rights.0 in
    record { before = []; last = r; split = refl; kind = is_elk _ lefts.0; left_side = same_list_lem _ _ lefts.1; right_side = same_list_lem _ _ rights.1 }
last_row_lem (r ∷ q ∷ qs) left right e =
    let rest = last_row_lem (q ∷ qs) left right e in
    record {
      before = r ∷ rest.before;
      last = rest.last;
      split = ap (λ (rs : List Row). r ∷ rs) rest.split;
      kind = rest.kind;
      left_side = rest.left_side;
      right_side = rest.right_side;
    }

-- the rows of an accepted text, decoded, are a derivation that ends in its claim
pub accepted_derives : {text : Bytes} {line : ℕ} (a : Accepted text line)
    → EndsIn (decoded a.file.body.nodes a.claim.left) (decoded a.file.body.nodes a.claim.right)
accepted_derives {text} a =
    record {
      last = sequent_of nodes l.last;
      earlier = derived nodes l.before;
      derivation = subst (Derivation rules) (ap (derived nodes) l.split ∙ derived_snoc nodes l.before l.last) (good_derivation g.body);
      ends = record { kind = l.kind; left = decoded_same l.left_side; right = decoded_same l.right_side };
    }
  where
    nodes : List Node
    nodes = a.file.body.nodes

    decoded_same : {is js : List ℕ} → is ≡ js → decoded nodes is ≈ decoded nodes js
    decoded_same {is} e = subst (λ (ks : List ℕ). decoded nodes is ≈ decoded nodes ks) e ≈-refl

    g : Good (lines_of text).complete a.file
    g = accepted_good a

    l : LastRow a.file.body.rows a.claim.left a.claim.right
    l = last_row_lem _ _ _ (g.claim_last a.claim a.is_claim)

-- whatever text is handed in and whoever wrote it: if it is accepted, its claim does not fail
pub accepted_holds : (t : Lent) (text : Bytes) (line : ℕ) → judged t text ≡ accepted line → ClaimFails text → ⊥
accepted_holds t text line e bad = entails_not_fails (ends_in_sound (accepted_derives a)) fails
  where
    a : Accepted text line
    a = accepted_file t text line e

    nodes : List Node
    nodes = a.file.body.nodes

    g : Good (lines_of text).complete a.file
    g = accepted_good a

    -- the one claim of the text
    own : (c : Claim) × (a.file.claim ≡ some c) × (c.left ≡ bad.left) × (c.right ≡ bad.right)
    own = g.claims_read bad.line bad.left bad.right bad.in_text bad.is_claim

    same_claim : own.0 ≡ a.claim
    same_claim = let k : ◌≡◌ {A = Option Claim} (some own.0) (some a.claim) = sym own.1 ∙ a.is_claim in cc

    fails : Fails (decoded nodes a.claim.left) (decoded nodes a.claim.right)
    fails =
        let same_nodes = ap (λ (s : Said). s.nodes) g.said in
        subst (λ (c : Claim). Fails (decoded nodes c.left) (decoded nodes c.right)) same_claim
        (subst₃ (λ (ns : List Node) (l r : List ℕ). Fails (decoded ns l) (decoded ns r)) same_nodes (sym own.2) (sym own.3) bad.fails)

-- and it is confirmed by the model on its M line, or shows a contradiction
pub accepted_shown : (t : Lent) (text : Bytes) (line : ℕ) → judged t text ≡ accepted line → ClaimShown text
accepted_shown t text line e =
    record {
      line = made.0;
      left = a.claim.left;
      right = a.claim.right;
      in_text = made.1;
      is_claim = made.2;
      only = only;
      shown =
          subst (λ (s : Said). Shown (decoded s.nodes a.claim.left) (decoded s.nodes a.claim.right) s.model) (sym g.said)
          (fitting_shown _ _ (ends_in_sound (accepted_derives a)) (g.fits a.claim a.is_claim));
    }
  where
    a : Accepted text line
    a = accepted_file t text line e

    g : Good (lines_of text).complete a.file
    g = accepted_good a

    made : (m : Bytes) × (m ∈ (lines_of text).complete) × (line_of m ≡ some (claim_line a.claim.left a.claim.right))
    made = g.claim_said a.claim a.is_claim

    only : (m : Bytes) (l r : List ℕ) → m ∈ (lines_of text).complete → line_of m ≡ some (claim_line l r) → (l ≡ a.claim.left) × (r ≡ a.claim.right)
    only m l r i k =
        let own = g.claims_read m l r i k in
        let same : ◌≡◌ {A = Option Claim} (some own.0) (some a.claim) = sym own.1 ∙ a.is_claim in
        let claim : own.0 ≡ a.claim = cc in
        (sym own.2 ∙ ap (λ (c : Claim). c.left) claim, sym own.3 ∙ ap (λ (c : Claim). c.right) claim)
