-- Paper 01's examples of texts ("A whole file"), texts with an M line, with runs and with `swap`, each with its answer, by one
-- computed proof over the table. And a text with its sets written in two ways.
use Prim.Native.Nat.{ℕ}
use mathlib.Core.Path.{◌≡◌, refl}
use mathlib.Core.Bool.{true}
use mathlib.Core.List.{List, [], ◌∷◌, ◌++◌, map}
use mathlib.Core.Logic.{inl, inr}
use mathlib.Core.Option.{some}
use native.Mathlib.Omega.{arith}
use native.Mathlib.Decide.{ℕ_discrete}
use Rattle.equilibrium.proofs.Sets.{≈-refl}
use Rattle.equilibrium.proofs.Models.{equilibrium?}
use Rattle.elk.proofs.Decision.{instance?, too_many_atoms?}
use Rattle.format.specs.Text.{Bytes, bytes, parts_at, lines_of, fields_of, same_list, number_of, list_of, item_of, items_of, up_from, side_of}
use Rattle.format.specs.Text.{principal_of, is_name, strictly_rising}
use Rattle.format.specs.Line.{rule_of, node_of, atom_fields, formula_fields, row_fields, model_fields, claim_fields, line_of}
use Rattle.format.specs.File.{formulas}
use Rattle.format.specs.Tables.{Lent, too_short}
use Rattle.format.specs.Tests.{wrong_premises, too_many_atoms, wrong_step}
use Rattle.format.specs.Model.{contradiction?}
use Rattle.format.specs.Judged.{Ruling, accepted, turned_down, judged, contents, beginning, run, step, step_read}
use Rattle.format.specs.Same.{SideRewritten, LineRewritten, kept, row, model, claim, Rewritten}
use Rattle.format.proofs.Rewritten.{rewritten_same_tables}

pub record Example : Type 0 where
  pub text : Bytes
  pub answer : Ruling

infix 4 ◌earns◌
abbrev ◌earns◌ : Bytes → Ruling → Example
text earns answer = record { text = text; answer = answer }

-- tables of full length
abbrev pub full : Lent
full = record { names = 128; formulas = 3072; rows = 16384; left = 16384; right = 16384 }

-- the lines of the whole file before row 4
abbrev front : Bytes
front =
    bytes "A\t0\tp\nF\t0\tatom\t0\t-\nF\t1\tnot\t0\t-\nF\t2\timp\t1\t0\nF\t3\tbot\t-\t-\nF\t4\tnot\t1\t-\n"
    ++ bytes "N\t0\tsame\t0\t-\t0\t0,3\nN\t1\tnotl\t1\t0\t0,1\t3\nN\t2\tnotr\t4\t1\t0\t3,4\nN\t3\tdef\t1\t-\t-\t1,3\n"

-- atoms 0 to 63
abbrev sixty_four_atoms : Bytes
sixty_four_atoms =
    bytes "A\t0\ta0\nA\t1\ta1\nA\t2\ta2\nA\t3\ta3\nA\t4\ta4\nA\t5\ta5\nA\t6\ta6\nA\t7\ta7\n"
    ++ bytes "A\t8\ta8\nA\t9\ta9\nA\t10\ta10\nA\t11\ta11\nA\t12\ta12\nA\t13\ta13\nA\t14\ta14\nA\t15\ta15\n"
    ++ bytes "A\t16\ta16\nA\t17\ta17\nA\t18\ta18\nA\t19\ta19\nA\t20\ta20\nA\t21\ta21\nA\t22\ta22\nA\t23\ta23\n"
    ++ bytes "A\t24\ta24\nA\t25\ta25\nA\t26\ta26\nA\t27\ta27\nA\t28\ta28\nA\t29\ta29\nA\t30\ta30\nA\t31\ta31\n"
    ++ bytes "A\t32\ta32\nA\t33\ta33\nA\t34\ta34\nA\t35\ta35\nA\t36\ta36\nA\t37\ta37\nA\t38\ta38\nA\t39\ta39\n"
    ++ bytes "A\t40\ta40\nA\t41\ta41\nA\t42\ta42\nA\t43\ta43\nA\t44\ta44\nA\t45\ta45\nA\t46\ta46\nA\t47\ta47\n"
    ++ bytes "A\t48\ta48\nA\t49\ta49\nA\t50\ta50\nA\t51\ta51\nA\t52\ta52\nA\t53\ta53\nA\t54\ta54\nA\t55\ta55\n"
    ++ bytes "A\t56\ta56\nA\t57\ta57\nA\t58\ta58\nA\t59\ta59\nA\t60\ta60\nA\t61\ta61\nA\t62\ta62\nA\t63\ta63\n"

-- formulas 0 to 64: bot, and each later one the negation of the one before
abbrev sixty_five_formulas : Bytes
sixty_five_formulas =
    bytes "F\t0\tbot\t-\t-\nF\t1\tnot\t0\t-\nF\t2\tnot\t1\t-\nF\t3\tnot\t2\t-\nF\t4\tnot\t3\t-\nF\t5\tnot\t4\t-\n"
    ++ bytes "F\t6\tnot\t5\t-\nF\t7\tnot\t6\t-\nF\t8\tnot\t7\t-\nF\t9\tnot\t8\t-\nF\t10\tnot\t9\t-\nF\t11\tnot\t10\t-\n"
    ++ bytes "F\t12\tnot\t11\t-\nF\t13\tnot\t12\t-\nF\t14\tnot\t13\t-\nF\t15\tnot\t14\t-\nF\t16\tnot\t15\t-\nF\t17\tnot\t16\t-\n"
    ++ bytes "F\t18\tnot\t17\t-\nF\t19\tnot\t18\t-\nF\t20\tnot\t19\t-\nF\t21\tnot\t20\t-\nF\t22\tnot\t21\t-\nF\t23\tnot\t22\t-\n"
    ++ bytes "F\t24\tnot\t23\t-\nF\t25\tnot\t24\t-\nF\t26\tnot\t25\t-\nF\t27\tnot\t26\t-\nF\t28\tnot\t27\t-\nF\t29\tnot\t28\t-\n"
    ++ bytes "F\t30\tnot\t29\t-\nF\t31\tnot\t30\t-\nF\t32\tnot\t31\t-\nF\t33\tnot\t32\t-\nF\t34\tnot\t33\t-\nF\t35\tnot\t34\t-\n"
    ++ bytes "F\t36\tnot\t35\t-\nF\t37\tnot\t36\t-\nF\t38\tnot\t37\t-\nF\t39\tnot\t38\t-\nF\t40\tnot\t39\t-\nF\t41\tnot\t40\t-\n"
    ++ bytes "F\t42\tnot\t41\t-\nF\t43\tnot\t42\t-\nF\t44\tnot\t43\t-\nF\t45\tnot\t44\t-\nF\t46\tnot\t45\t-\nF\t47\tnot\t46\t-\n"
    ++ bytes "F\t48\tnot\t47\t-\nF\t49\tnot\t48\t-\nF\t50\tnot\t49\t-\nF\t51\tnot\t50\t-\nF\t52\tnot\t51\t-\nF\t53\tnot\t52\t-\n"
    ++ bytes "F\t54\tnot\t53\t-\nF\t55\tnot\t54\t-\nF\t56\tnot\t55\t-\nF\t57\tnot\t56\t-\nF\t58\tnot\t57\t-\nF\t59\tnot\t58\t-\n"
    ++ bytes "F\t60\tnot\t59\t-\nF\t61\tnot\t60\t-\nF\t62\tnot\t61\t-\nF\t63\tnot\t62\t-\nF\t64\tnot\t63\t-\n"

-- the numbers 0 to 63, as a list
abbrev to_sixty_three : Bytes
to_sixty_three =
    bytes "0,1,2,3,4,5,6,7,8,9,10,11,12,13,14,15,16,17,18,19,20,21,22,23,24,25,26,27,28,29,30,31,"
    ++ bytes "32,33,34,35,36,37,38,39,40,41,42,43,44,45,46,47,48,49,50,51,52,53,54,55,56,57,58,59,60,61,62,63"

-- a derivation of ~# => ~#, whose one equilibrium model is empty
abbrev truth : Bytes
truth = bytes "F\t0\tbot\t-\t-\nF\t1\tnot\t0\t-\nN\t0\tsame\t1\t-\t1\t1\n"

-- a derivation of #&# => #&#
abbrev falsity : Bytes
falsity = bytes "F\t0\tbot\t-\t-\nF\t1\tand\t0\t0\nN\t0\tsame\t1\t-\t1\t1\n"

-- the last row of the whole file
abbrev last_row : Bytes
last_row = bytes "N\t4\timpl\t2\t2,3\t2\t3\n"

-- two atoms, both as formulas, and bot
abbrev pair : Bytes
pair = bytes "A\t0\tp\nA\t1\tq\nF\t0\tatom\t0\t-\nF\t1\tatom\t1\t-\nF\t2\tbot\t-\t-\n"

-- a derivation of p, q => p, q, # with its model, without runs and with them
abbrev long : Bytes
long = pair ++ bytes "N\t0\tsame\t0\t-\t0,1\t0,1,2\nM\t0,1\nC\t0,1\t0,1,2\n"

abbrev short : Bytes
short = pair ++ bytes "N\t0\tsame\t0\t-\t0-1\t0-2\nM\t0-1\nC\t0,1\t0,1-2\n"

-- p&q and q&p, and a derivation of q&p => q&p
abbrev turned : Bytes
turned = bytes "A\t0\tp\nA\t1\tq\nF\t0\tatom\t0\t-\nF\t1\tatom\t1\t-\nF\t2\tand\t0\t1\nF\t3\tand\t1\t0\nN\t0\tsame\t3\t-\t3\t3\n"

-- nine atoms; formula 15 joins eight of them, and 16 all
abbrev nine_atoms : Bytes
nine_atoms =
    bytes "A\t0\tp0\nA\t1\tp1\nA\t2\tp2\nA\t3\tp3\nA\t4\tp4\nA\t5\tp5\nA\t6\tp6\nA\t7\tp7\nA\t8\tp8\n"
    ++ bytes "F\t0\tatom\t0\t-\nF\t1\tatom\t1\t-\nF\t2\tatom\t2\t-\nF\t3\tatom\t3\t-\nF\t4\tatom\t4\t-\n"
    ++ bytes "F\t5\tatom\t5\t-\nF\t6\tatom\t6\t-\nF\t7\tatom\t7\t-\nF\t8\tatom\t8\t-\n"
    ++ bytes "F\t9\tand\t0\t1\nF\t10\tand\t2\t9\nF\t11\tand\t3\t10\nF\t12\tand\t4\t11\n"
    ++ bytes "F\t13\tand\t5\t12\nF\t14\tand\t6\t13\nF\t15\tand\t7\t14\nF\t16\tand\t8\t15\n"

abbrev pub examples : List Example
examples =
    -- the whole file
    (front ++ last_row ++ bytes "C\t2\t3\n" earns accepted 12)
    -- with premises 3,2 in row 4
    ∷ (front ++ bytes "N\t4\timpl\t2\t3,2\t2\t3\nC\t2\t3\n" earns turned_down 11 11)
    -- without the C line
    ∷ (front ++ last_row earns turned_down 13 12)
    -- empty text
    ∷ (bytes "" earns turned_down 13 1)
    -- only the atom line and an empty claim
    ∷ (bytes "A\t0\tp\nC\t-\t-\n" earns turned_down 12 2)
    -- an atom numbered 63 fits
    ∷ (sixty_four_atoms earns turned_down 13 65)
    -- 64 earns 5
    ∷ (sixty_four_atoms ++ bytes "A\t64\ta64\n" earns turned_down 5 65)
    -- 64 formulas on a side fit
    ∷ (sixty_five_formulas ++ bytes "N\t0\tsame\t1\t-\t1\t" ++ to_sixty_three ++ bytes "\nM\t-\nC\t1\t" ++ to_sixty_three ++ bytes "\n" earns accepted 68)
    -- 65 earn 9
    ∷ (sixty_five_formulas ++ bytes "N\t0\tsame\t0\t-\t0\t" ++ to_sixty_three ++ bytes ",64\n" earns turned_down 9 66)
    -- no LF after the claim
    ∷ (front ++ last_row ++ bytes "C\t2\t3" earns turned_down 3 12)
    -- a line after the claim
    ∷ (front ++ last_row ++ bytes "C\t2\t3\nC\t2\t3\n" earns turned_down 4 13)
    -- a model beside the claim
    ∷ (truth ++ bytes "M\t-\nC\t1\t1\n" earns accepted 5)
    -- none though one is wanted: 15, on the claim's line
    ∷ (truth ++ bytes "C\t1\t1\n" earns turned_down 15 4)
    -- one though the claim reports a contradiction: 15, on the M line
    ∷ (front ++ last_row ++ bytes "M\t-\nC\t2\t3\n" earns turned_down 15 12)
    -- a claim that differs comes first
    ∷ (truth ++ bytes "C\t1\t-\n" earns turned_down 12 4)
    -- #&# is not #: it wants a model
    ∷ (falsity ++ bytes "C\t1\t1\n" earns turned_down 15 4)
    -- a model of 17 atoms earns 16, on its own line, and before a line after the claim is looked at
    ∷ (sixty_four_atoms ++ truth ++ bytes "M\t0,1,2,3,4,5,6,7,8,9,10,11,12,13,14,15,16\nC\t1\t1\nC\n" earns turned_down 16 68)
    -- one of 16 is tried: 17
    ∷ (sixty_four_atoms ++ truth ++ bytes "M\t0,1,2,3,4,5,6,7,8,9,10,11,12,13,14,15\nC\t1\t1\n" earns turned_down 17 68)
    -- an atom that is not there
    ∷ (bytes "A\t0\tp\nM\t1\n" earns turned_down 7 2)
    -- atoms that do not rise
    ∷ (bytes "A\t0\tp\nM\t0,0\n" earns turned_down 9 2)
    -- a second M line, and a row after it
    ∷ (truth ++ bytes "M\t-\nM\t-\n" earns turned_down 4 5)
    ∷ (truth ++ bytes "M\t-\nN\t1\tsame\t1\t-\t1\t1\n" earns turned_down 4 5)
    -- runs in a row, a model and a claim
    ∷ (short earns accepted 8)
    -- first and last are numbers of 01's form, the first smaller; 3
    ∷ (bytes "C\t0-0\t-\n" earns turned_down 3 1)
    ∷ (bytes "C\t2-0\t-\n" earns turned_down 3 1)
    ∷ (bytes "C\t0-02\t-\n" earns turned_down 3 1)
    ∷ (bytes "C\t0-1-2\t-\n" earns turned_down 3 1)
    ∷ (bytes "C\t0-\t-\n" earns turned_down 3 1)
    ∷ (bytes "C\t-2\t-\n" earns turned_down 3 1)
    ∷ (bytes "C\t0,-\t-\n" earns turned_down 3 1)
    ∷ (bytes "M\t1-0\n" earns turned_down 3 1)
    -- no runs in premises
    ∷ (bytes "N\t0\tandr\t0\t0-1\t-\t-\n" earns turned_down 3 1)
    -- a badly written run comes before 4, a well written one after it
    ∷ (bytes "N\t1\tsame\t0\t-\t0-0\t0\n" earns turned_down 3 1)
    ∷ (bytes "N\t1\tsame\t0\t-\t0-1\t0\n" earns turned_down 4 1)
    -- 7 by the last of a run
    ∷ (pair ++ bytes "N\t0\tsame\t0\t-\t0-3\t0\n" earns turned_down 7 6)
    ∷ (pair ++ bytes "M\t0-2\n" earns turned_down 7 6)
    ∷ (pair ++ bytes "C\t0\t0-3\n" earns turned_down 7 6)
    -- runs that meet do not rise
    ∷ (pair ++ bytes "N\t0\tsame\t0\t-\t0-1,1-2\t0\n" earns turned_down 9 6)
    -- limits count what is meant: 64 on a side fit, 65 earn 9, and a model of 17 atoms earns 16
    ∷ (sixty_five_formulas ++ bytes "N\t0\tsame\t1\t-\t1\t0-63\nM\t-\nC\t1\t0-63\n" earns accepted 68)
    ∷ (sixty_five_formulas ++ bytes "N\t0\tsame\t0\t-\t0\t0-64\n" earns turned_down 9 66)
    ∷ (sixty_four_atoms ++ truth ++ bytes "M\t0-16\nC\t1\t1\n" earns turned_down 16 68)
    -- 16,385 entries pass the pool before 7 is asked, 16,384 do not
    ∷ (bytes "N\t0\tsame\t0\t-\t0-16384\t0\n" earns turned_down 5 1)
    ∷ (bytes "N\t0\tsame\t0\t-\t0-16383\t0\n" earns turned_down 7 1)
    -- p&q swapped for q&p; an ELK row, so that the claim may be its sides
    ∷ (turned ++ bytes "N\t1\tswap\t2\t0\t2\t3\nM\t0,1\nC\t2\t3\n" earns accepted 10)
    -- p for q&p earns 11, p for ~~p too
    ∷ (turned ++ bytes "N\t1\tswap\t0\t0\t0\t3\n" earns turned_down 11 8)
    ∷ (bytes "A\t0\tp\nF\t0\tatom\t0\t-\nF\t1\tnot\t0\t-\nF\t2\tnot\t1\t-\nN\t0\tsame\t2\t-\t2\t2\nN\t1\tswap\t0\t0\t0\t2\n"
    earns turned_down 11 6)
    -- eight atoms fit, nine earn 18, equal formulas or not
    ∷ (nine_atoms ++ bytes "N\t0\tsame\t15\t-\t15\t15\nN\t1\tswap\t15\t0\t15\t15\n" earns turned_down 13 29)
    ∷ (nine_atoms ++ bytes "N\t0\tsame\t16\t-\t16\t16\nN\t1\tswap\t16\t0\t16\t16\n" earns turned_down 18 28)
    ∷ (nine_atoms ++ bytes "N\t0\tsame\t16\t-\t16\t16\nN\t1\tswap\t0\t0\t0\t16\n" earns turned_down 18 28)
    -- without its premise the row earns 10, with another right side 11
    ∷ (nine_atoms ++ bytes "N\t0\tsame\t16\t-\t16\t16\nN\t1\tswap\t16\t-\t16\t16\n" earns turned_down 10 28)
    ∷ (nine_atoms ++ bytes "N\t0\tsame\t16\t-\t16\t16\nN\t1\tswap\t16\t0\t16\t15,16\n" earns turned_down 11 28)
    ∷ []

pub examples_hold : map (λ e. judged full e.text) examples ≡ map (λ e. e.answer) examples
unfolding judged beginning run step step_read line_of atom_fields formula_fields row_fields model_fields claim_fields rule_of node_of
    lines_of fields_of parts_at same_list number_of list_of item_of items_of up_from side_of principal_of is_name strictly_rising formulas
    too_short wrong_premises too_many_atoms too_many_atoms? wrong_step instance? contradiction? equilibrium? ℕ_discrete
examples_hold = refl

-- the text with runs is the other one, with its sets written in another way
rewritten : Rewritten long short
unfolding lines_of fields_of parts_at same_list number_of item_of items_of up_from side_of strictly_rising
rewritten =
    record { lines = (kept refl, (kept refl, (kept refl, (kept refl, (kept refl, (in_row, (in_model, (in_claim, tt)))))))); rest = refl }
  where
    set : (one other : Bytes) (xs : List ℕ) → side_of one ≡ some xs → side_of other ≡ some xs → strictly_rising xs ≡ true → SideRewritten one other
    set one other xs e k r =
        inr (record { first = xs; second = xs; reads_first = e; reads_second = k; first_rises = r; second_rises = r; same_set = ≈-refl })

    two : SideRewritten (bytes "0,1") (bytes "0-1")
    two = set _ _ (0 ∷ 1 ∷ []) refl refl refl

    in_row : LineRewritten (bytes "N\t0\tsame\t0\t-\t0,1\t0,1,2") (bytes "N\t0\tsame\t0\t-\t0-1\t0-2")
    in_row = row (bytes "0") (bytes "same") (bytes "0") (bytes "-") _ _ _ _ refl refl two (set _ _ (0 ∷ 1 ∷ 2 ∷ []) refl refl refl)

    in_model : LineRewritten (bytes "M\t0,1") (bytes "M\t0-1")
    in_model = model _ _ refl refl two

    in_claim : LineRewritten (bytes "C\t0,1\t0,1,2") (bytes "C\t0,1\t0,1-2")
    in_claim = claim _ _ _ _ refl refl (inl refl) (set _ _ (0 ∷ 1 ∷ 2 ∷ []) refl refl refl)

pub two_ways : (judged full long ≡ judged full short) × (contents full long ≡ contents full short)
two_ways = rewritten_same_tables full long short (omega arith) (omega arith) rewritten
