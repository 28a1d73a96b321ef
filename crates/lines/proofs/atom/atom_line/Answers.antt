-- `lines::atom::atom_line` meets its contract: a bad line, a number that the atom earns, or the name stored. Assumes nothing.
use Prim.Native.Nat.{ℕ, ◌+◌, ◌%◌}
use native.Mathlib.Omega.{arith}
use mathlib.Core.Path.{◌≡◌, refl, sym, ap, ◌∙◌}
use mathlib.Core.List.{[]}
use lib.ListN.{length, get_or}
use Rattle.format.specs.Text.{Bytes, fields_of, number_of}
use Rattle.text.specs.Numbers.{number_as, NumberRead}
use Rattle.std.specs.Prelude.{Option as Answer, Ok, Err}
use Rattle.std.proofs.lemmas.Result.{err_from_is_err_and}
use Rattle.refusals.specs.declared.Refusal.{Refusal}
use Rattle.refusals.specs.Refusals.{outcome}
use Rattle.format.specs.File.{in_atoms}
use Rattle.format.specs.Tests.{rank}
use Rattle.counts.specs.declared.Counts.{Counts}
use Rattle.state.specs.State.{passed_by}
use Rattle.state.specs.declared.State.{State}
use Rattle.lines.proofs.AtomLines.{
  atom_miscounted,
  atom_unnumbered,
  atom_read,
  name_of_line,
  numbered_as,
  atom_bad,
  atom_refused,
  atom_put,
}
use Rattle.lines.proofs.atom.atom_line.Goals as goal

number_told : (line : Bytes) {field : Bytes} {own : Answer ℕ} → field ≡ get_or (fields_of line) 1 [] → NumberRead field own
    → number_as (number_of (get_or (fields_of line) 1 [])) ≡ own
number_told line part read = ap (λ (x : Bytes). number_as (number_of x)) (sym part) ∙ sym read.answer

pub returns-then-line-ne3 : goal.returns-then-line-ne3
returns-then-line-ne3 c = let pre = c.requires in atom_bad _ (atom_miscounted _ _ c.args.line.fielded pre.3 c.if-line-ne3.true) refl

pub returns-in_default : goal.returns-in_default
returns-in_default c =
    let pre = c.requires in
    let bad = number_told _ c.field-number_field.ensures c.read_number.ensures ∙ c.in_default.is in
    atom_bad _ (atom_unnumbered _ _ c.args.line.fielded pre.3 c.if-line-ne3.false bad) refl

pub returns-in_err-atom_number : goal.returns-in_err-atom_number
returns-in_err-atom_number c =
    let p = err_from_is_err_and c.from_residual.result c.from_residual.ensures.1 in
    let pre = c.requires in
    let value = number_told _ c.field-number_field.ensures c.read_number.ensures ∙ c.in-Some.is in
    let numbers = numbered_as c.field-name.ensures c.atom_number.ensures in
    atom_refused _ _ _ _ _ _ _ (atom_read _ _ c.args.line.fielded pre.3 c.if-line-ne3.false _ value) _ numbers _ (ap outcome c.in_err-atom_number.was) (p.1 ∙ ap (λ (e : Refusal). Err e) p.2)

pub overflow_add-name_start-2 : goal.overflow_add-name_start-2
overflow_add-name_start-2 c =
    let pre = c.requires in
    let at = name_of_line _ _ _ pre.0 pre.1 _ pre.2 _ c.args.line.fielded pre.3 c.if-line-ne3.false in
    omega (arith, at.fits, ap length c.field-number_field.ensures)

pub returns : goal.returns
returns c =
    let pre = c.requires in
    let value = number_told _ c.field-number_field.ensures c.read_number.ensures ∙ c.in-Some.is in
    let first = c.field-number_field.ensures in
    let name = c.field-name.ensures in
    let numbers = numbered_as name c.atom_number.ensures in
    atom_put _ _ _ _ _ _ _ (atom_read _ _ c.args.line.fielded pre.3 c.if-line-ne3.false _ value) _ numbers
    (name_of_line _ _ _ pre.0 pre.1 _ pre.2 _ c.args.line.fielded pre.3 c.if-line-ne3.false)
    (ap outcome c.in_ok-atom_number.was) (ap (λ (s : State). Ok s) (c.passed.ensures ∙ ap (λ (x : Counts). passed_by c.args.state x (rank in_atoms)) c.with_atom.ensures))
    _ _ (c.narrow_place.ensures ∙ ap (λ (x : Bytes). (c.args.start + 3 + length x) % 65536) first)
    (c.narrow_place-2.ensures ∙ ap (λ (x : Bytes). length x % 65536) name) _ c.put_name.ensures
