-- `keywords::formula_word` meets its contract. Assumes nothing.
use mathlib.Core.Path.{◌≡◌, sym, ◌∙◌}
use native.Mathlib.Omega.{arith}
use borrow.Author.Tests.{ne_eqb}
use Rattle.keywords.proofs.WordLaws.{formula_key, word_answered}
use Rattle.keywords.proofs.formula_word.Goals as goal

pub returns-in-24407906 : goal.returns-in-24407906
returns-in-24407906 c = word_answered _ (sym (formula_key _ _ c.pack.ensures ∙ simp c.in-24407906.is))

pub returns-in-6130988129 : goal.returns-in-6130988129
returns-in-6130988129 c = word_answered _ (sym (formula_key _ _ c.pack.ensures ∙ simp c.in-6130988129.is))

pub returns-in-24407918 : goal.returns-in-24407918
returns-in-24407918 c = word_answered _ (sym (formula_key _ _ c.pack.ensures ∙ simp c.in-24407918.is))

pub returns-in-23359073 : goal.returns-in-23359073
returns-in-23359073 c = word_answered _ (sym (formula_key _ _ c.pack.ensures ∙ simp c.in-23359073.is))

pub returns-in-94831 : goal.returns-in-94831
returns-in-94831 c = word_answered _ (sym (formula_key _ _ c.pack.ensures ∙ simp c.in-94831.is))

pub returns-in-24145257 : goal.returns-in-24145257
returns-in-24145257 c = word_answered _ (sym (formula_key _ _ c.pack.ensures ∙ simp c.in-24145257.is))

-- none of the keys
pub returns-in_default : goal.returns-in_default
returns-in_default c =
    word_answered _ (sym (
    formula_key _ _ c.pack.ensures
    ∙ simp (
      ne_eqb _ 24407906 (λ (h : c.pack.result ≡ 24407906). omega arith),
      ne_eqb _ 6130988129 (λ (h : c.pack.result ≡ 6130988129). omega arith),
      ne_eqb _ 24407918 (λ (h : c.pack.result ≡ 24407918). omega arith),
      ne_eqb _ 23359073 (λ (h : c.pack.result ≡ 23359073). omega arith),
      ne_eqb _ 94831 (λ (h : c.pack.result ≡ 94831). omega arith),
      ne_eqb _ 24145257 (λ (h : c.pack.result ≡ 24145257). omega arith),
    )))
