use mathlib.Core.Path.{sym, ◌∙◌}
use native.Mathlib.Omega.{arith}
use borrow.Author.Tests.{tests}
use Rattle.std.proofs.Common.{rules}
use Rattle.std.proofs.lemmas.Iterator.{YieldsList-from_slice}
use Rattle.std.proofs.lemmas.Iterator.Search.{all_from_yields_List}
use Rattle.text.specs.Names.{name_byte}
use Rattle.text.proofs.NameLaws.{all_listed, name_empty, name_start_lem, name_long, name_bytes}
use Rattle.text.proofs.names.is_name.Goals as goal

pub returns-then-field-eq0 : goal.returns-then-field-eq0
returns-then-field-eq0 c = sym (name_empty _ c.if-field-eq0.true)

pub returns-then-field-gt24 : goal.returns-then-field-gt24
returns-then-field-gt24 c = sym (name_long _ c.if-field-gt24.true)

pub returns-then-not-is_ascii_lowercase : goal.returns-then-not-is_ascii_lowercase
returns-then-not-is_ascii_lowercase c = sym (name_start_lem _ (sym c.is_ascii_lowercase.ensures.value ∙ c.if-not-is_ascii_lowercase.true))

pub returns : goal.returns
returns c =
    let letter = sym c.is_ascii_lowercase.ensures.value ∙ c.if-not-is_ascii_lowercase.false in
    let bytes =
    all_from_yields_List name_byte _ _ c.all.result c.all.ensures.ran (YieldsList-from_slice c.args.field.now cc) (λ x b q k. search (rules, tests)) in
    bytes ∙ sym (all_listed name_byte c.args.field.now) ∙ sym (name_bytes _ (omega arith) letter)
