-- `atomset::without_first` meets its contract: without its lowest 1 a word has the members that come after the first. Assumes nothing.
use mathlib.Core.Path.{sym, ap, ◌∙◌}
use Prim.Native.Nat.{ℕ}
use lib.ListN.{drop}
use borrow.Author.Rules.{rules}
use Rattle.atomset.specs.AtomSet.{members}
use Rattle.atomset.proofs.Members.{members_step, members_zero}
use Rattle.atomset.proofs.without_first.Goals as goal

pub returns-then-set-eq0 : goal.returns-then-set-eq0
returns-then-set-eq0 c = members_zero ∙ sym (ap (λ (set : ℕ). drop 1 (members set)) c.if-set-eq0.true ∙ ap (drop 1) members_zero)

pub returns : goal.returns
returns c = sym (ap (drop 1) (members_step c.args.set (search rules) (search rules)))
