-- All ways to write one set give equal tables (paper 02, M-102): sides that rise strictly and have the same members are one list, so
-- a line whose sides are written in another way is read the same.
use Prim.Native.Nat.{ℕ, ◌≤◌, ◌<◌}
use mathlib.Core.Path.{◌≡◌, refl, sym, ap, ap₂, ◌∙◌}
use mathlib.Core.List.{List, [], ◌∷◌, map}
use mathlib.Core.Logic.{inl, inr}
use mathlib.Core.Option.{Option, some}
use lib.ListN.{length}
use Rattle.format.specs.Text.{Bytes, lines_of, number_of, side_of, premise_list_of, principal_of, same_list, ◌<$>◌, ◌<*>◌}
use Rattle.format.specs.Line.{Line, row_line, model_line, claim_line, rule_of, make_row, row_fields, model_fields, claim_fields, of_kind, line_of}
use Rattle.format.specs.Tables.{Lent, most_bytes}
use Rattle.format.specs.Judged.{judged, contents}
use Rattle.format.specs.Same.{MeanTheSame, SideRewritten, LineRewritten, kept, row, model, claim, LinesRewritten, Rewritten}
use Rattle.elk.proofs.Rising.{rising_unique}
use Rattle.format.proofs.RisingNumbers.{rising_of}
use Rattle.format.proofs.Same.{same_meaning_same_answer}

-- ---- sides and lines written in another way are read the same

side_same : {one other : Bytes} → SideRewritten one other → side_of one ≡ side_of other
side_same (inl e) = ap side_of e
side_same (inr w) =
    let same = rising_unique w.first w.second (rising_of _ w.first_rises) (rising_of _ w.second_rises) w.same_set.0 w.same_set.1 in
    w.reads_first ∙ ap (λ (l : List ℕ). some l) same ∙ sym w.reads_second

line_same : {one other : Bytes} → LineRewritten one other → line_of one ≡ line_of other
unfolding line_of row_fields model_fields claim_fields same_list
line_same (kept e) = ap line_of e
line_same (row number word principal premises l r l' r' e k left right) =
    ap of_kind e
    ∙ ap₂ (λ (x y : Option (List ℕ)). (λ n row. row_line n row) <$> number_of number
    <*> (make_row <$> rule_of word <*> principal_of principal <*> premise_list_of premises <*> x <*> y)) (side_same left) (side_same right)
    ∙ sym (ap of_kind k)
line_same (model atoms atoms' e k given) =
    ap of_kind e ∙ ap (λ (x : Option (List ℕ)). (λ a. model_line a) <$> x) (side_same given) ∙ sym (ap of_kind k)
line_same (claim l r l' r' e k left right) =
    ap of_kind e ∙ ap₂ (λ (x y : Option (List ℕ)). (λ a b. claim_line a b) <$> x <*> y) (side_same left) (side_same right) ∙ sym (ap of_kind k)

lines_same : (ls ms : List Bytes) → LinesRewritten ls ms → map line_of ls ≡ map line_of ms
lines_same [] [] h = refl
lines_same [] (m ∷ ms) h = absurd h
lines_same (l ∷ ls) [] h = absurd h
lines_same (l ∷ ls) (m ∷ ms) h = ap₂ (λ (o : Option Line) (os : List (Option Line)). o ∷ os) (line_same h.0) (lines_same ls ms h.1)

-- ---- texts

pub rewritten_means_the_same : (one other : Bytes) → Rewritten one other → MeanTheSame one other
rewritten_means_the_same one other w =
    record {
      lines = lines_same (lines_of one).complete (lines_of other).complete w.lines;
      ended = (λ e. sym w.rest ∙ e, λ e. w.rest ∙ e);
    }

-- all ways to write one set give the same answer and the same tables, in texts that are not too long
pub rewritten_same_tables : (t : Lent) (one other : Bytes) → length one ≤ most_bytes → length other ≤ most_bytes → Rewritten one other
    → (judged t one ≡ judged t other) × (contents t one ≡ contents t other)
rewritten_same_tables t one other h k w = same_meaning_same_answer t one other h k (rewritten_means_the_same one other w)
