-- Paper 01's whole file ("A whole file") as a document: it is a good one, and its text is the one that 01 shows.
use Prim.Native.Nat.{ℕ}
use mathlib.Core.Path.{◌≡◌, refl, ap}
use mathlib.Core.Bool.{true}
use mathlib.Core.List.Memᴰ
use mathlib.Core.List.{[], ◌∷◌}
use mathlib.Core.Option.{none, some}
use native.Mathlib.Decide.{ℕ_discrete}
use native.Mathlib.Omega.{arith}
use lib.Dec.{lit≤}
use Rattle.elk.proofs.Decision.{instance?, too_many_atoms?}
use Rattle.elk.specs.Rules.{same, notl, notr, def, impl}
use Rattle.format.specs.Text.{Bytes, bytes, same_list, is_name, strictly_rising}
use Rattle.format.specs.File.{Node, formulas}
use Rattle.format.specs.Line.{make_row}
use Rattle.format.specs.Tests.{wrong_premises, too_many_atoms, wrong_step}
use Rattle.format.specs.Model.{none_wanted}
use Rattle.format.specs.Good.{GoodBody, atoms, formula, row}
use Rattle.format.specs.Written.{parted, ended, digits, decimal, list_bytes, principal_bytes, bytes_of}
use Rattle.format.specs.Document.{Document, written, body_of, GoodDocument}
use Rattle.format.proofs.WrittenBodies.{names_good}

abbrev pub whole : Document
whole =
    record {
      names = bytes "p" ∷ [];
      nodes = Node.atom 0 ∷ Node.not 0 ∷ Node.imp 1 0 ∷ Node.bot ∷ Node.not 1 ∷ [];
      rows =
          make_row same (some 0) [] (0 ∷ []) (0 ∷ 3 ∷ [])
          ∷ make_row notl (some 1) (0 ∷ []) (0 ∷ 1 ∷ []) (3 ∷ [])
          ∷ make_row notr (some 4) (1 ∷ []) (0 ∷ []) (3 ∷ 4 ∷ [])
          ∷ make_row def (some 1) [] [] (1 ∷ 3 ∷ [])
          ∷ make_row impl (some 2) (2 ∷ 3 ∷ []) (2 ∷ []) (3 ∷ [])
          ∷ [];
      model = none;
      left = 2 ∷ [];
      right = 3 ∷ [];
    }

pub whole_written : written whole
    ≡ ended (
    bytes "A\t0\tp"
    ∷ bytes "F\t0\tatom\t0\t-"
    ∷ bytes "F\t1\tnot\t0\t-"
    ∷ bytes "F\t2\timp\t1\t0"
    ∷ bytes "F\t3\tbot\t-\t-"
    ∷ bytes "F\t4\tnot\t1\t-"
    ∷ bytes "N\t0\tsame\t0\t-\t0\t0,3"
    ∷ bytes "N\t1\tnotl\t1\t0\t0,1\t3"
    ∷ bytes "N\t2\tnotr\t4\t1\t0\t3,4"
    ∷ bytes "N\t3\tdef\t1\t-\t-\t1,3"
    ∷ bytes "N\t4\timpl\t2\t2,3\t2\t3"
    ∷ bytes "C\t2\t3"
    ∷ [])
unfolding ended parted bytes_of decimal digits list_bytes principal_bytes
whole_written = refl

-- so the theorem on good documents is not empty
pub whole_good : GoodDocument whole
unfolding is_name same_list strictly_rising formulas wrong_premises too_many_atoms too_many_atoms? wrong_step instance? ℕ_discrete
    ended parted bytes_of decimal digits list_bytes principal_bytes
whole_good =
    record {
      names = names_good (bytes "p" ∷ []) (λ name m. is_name_lem (Memᴰ.eq_of_singleton m)) (λ i j h k e. omega arith);
      body = rows;
      model = λ given e. let z : ◌≡◌ {A = ℕ} 0 1 = cc in absurd (omega arith);
      claim = refl;
      fits = none_wanted (λ A m. Memᴰ.eq_of_singleton m);
      short = lit≤ tt;
    }
  where
    is_name_lem : {name : Bytes} → name ≡ bytes "p" → is_name name ≡ true
    is_name_lem e = ap is_name e

    nodes : GoodBody (record { atoms = 1; nodes = whole.nodes; rows = [] })
    nodes = formula (formula (formula (formula (formula (atoms 1 (lit≤ tt)) refl _ refl) refl _ refl) refl _ refl) refl _ refl) refl _ refl

    rows : GoodBody (body_of whole)
    rows = row (row (row (row (row nodes _ refl) _ refl) _ refl) _ refl) _ refl

-- the numbers at which the count of digits grows
pub numbers_written : decimal 0 ∷ decimal 9 ∷ decimal 10 ∷ decimal 2047 ∷ decimal 99999 ∷ []
    ≡ bytes "0" ∷ bytes "9" ∷ bytes "10" ∷ bytes "2047" ∷ bytes "99999" ∷ []
unfolding decimal digits
numbers_written = refl
