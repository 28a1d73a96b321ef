-- `meanings::meaning` meets its contract: each arm by computation, and what is left lies past the table.
use mathlib.Core.Path.{sym, ap}
use Rattle.rules.proofs.RuleNumbers.{past_all}
use Rattle.words.specs.Meanings.{meaning_of, meaning_at}
use Rattle.words.proofs.Meanings.{meaning_past}
use borrow.Author.Rules.{rules}
use Rattle.meanings.proofs.meaning.Goals as goal

pub returns-in-0 : goal.returns-in-0
unfolding meaning_at meaning_of
returns-in-0 c = sym (ap meaning_at c.in-0.is)

pub returns-in-1 : goal.returns-in-1
unfolding meaning_at meaning_of
returns-in-1 c = sym (ap meaning_at c.in-1.is)

pub returns-in-2 : goal.returns-in-2
unfolding meaning_at meaning_of
returns-in-2 c = sym (ap meaning_at c.in-2.is)

pub returns-in-3 : goal.returns-in-3
unfolding meaning_at meaning_of
returns-in-3 c = sym (ap meaning_at c.in-3.is)

pub returns-in-4 : goal.returns-in-4
unfolding meaning_at meaning_of
returns-in-4 c = sym (ap meaning_at c.in-4.is)

pub returns-in-5 : goal.returns-in-5
unfolding meaning_at meaning_of
returns-in-5 c = sym (ap meaning_at c.in-5.is)

pub returns-in-6 : goal.returns-in-6
unfolding meaning_at meaning_of
returns-in-6 c = sym (ap meaning_at c.in-6.is)

pub returns-in-7 : goal.returns-in-7
unfolding meaning_at meaning_of
returns-in-7 c = sym (ap meaning_at c.in-7.is)

pub returns-in-8 : goal.returns-in-8
unfolding meaning_at meaning_of
returns-in-8 c = sym (ap meaning_at c.in-8.is)

pub returns-in-9 : goal.returns-in-9
unfolding meaning_at meaning_of
returns-in-9 c = sym (ap meaning_at c.in-9.is)

pub returns-in-10 : goal.returns-in-10
unfolding meaning_at meaning_of
returns-in-10 c = sym (ap meaning_at c.in-10.is)

pub returns-in-11 : goal.returns-in-11
unfolding meaning_at meaning_of
returns-in-11 c = sym (ap meaning_at c.in-11.is)

pub returns-in-12 : goal.returns-in-12
unfolding meaning_at meaning_of
returns-in-12 c = sym (ap meaning_at c.in-12.is)

pub returns-in-13 : goal.returns-in-13
unfolding meaning_at meaning_of
returns-in-13 c = sym (ap meaning_at c.in-13.is)

pub returns-in-14 : goal.returns-in-14
unfolding meaning_at meaning_of
returns-in-14 c = sym (ap meaning_at c.in-14.is)

pub returns-in-15 : goal.returns-in-15
unfolding meaning_at meaning_of
returns-in-15 c = sym (ap meaning_at c.in-15.is)

pub returns-in-16 : goal.returns-in-16
unfolding meaning_at meaning_of
returns-in-16 c = sym (ap meaning_at c.in-16.is)

pub returns-in-17 : goal.returns-in-17
unfolding meaning_at meaning_of
returns-in-17 c = sym (ap meaning_at c.in-17.is)

pub returns-in-18 : goal.returns-in-18
unfolding meaning_at meaning_of
returns-in-18 c = sym (ap meaning_at c.in-18.is)

pub returns-in-19 : goal.returns-in-19
unfolding meaning_at meaning_of
returns-in-19 c = sym (ap meaning_at c.in-19.is)

pub returns-in-20 : goal.returns-in-20
unfolding meaning_at meaning_of
returns-in-20 c = sym (ap meaning_at c.in-20.is)

pub returns-in-21 : goal.returns-in-21
unfolding meaning_at meaning_of
returns-in-21 c = sym (ap meaning_at c.in-21.is)

pub returns-in-22 : goal.returns-in-22
unfolding meaning_at meaning_of
returns-in-22 c = sym (ap meaning_at c.in-22.is)

pub returns-in-23 : goal.returns-in-23
unfolding meaning_at meaning_of
returns-in-23 c = sym (ap meaning_at c.in-23.is)

pub returns-in-24 : goal.returns-in-24
unfolding meaning_at meaning_of
returns-in-24 c = sym (ap meaning_at c.in-24.is)

pub returns-in-25 : goal.returns-in-25
unfolding meaning_at meaning_of
returns-in-25 c = sym (ap meaning_at c.in-25.is)

pub returns-in-26 : goal.returns-in-26
unfolding meaning_at meaning_of
returns-in-26 c = sym (ap meaning_at c.in-26.is)

pub returns-in-27 : goal.returns-in-27
unfolding meaning_at meaning_of
returns-in-27 c = sym (ap meaning_at c.in-27.is)

pub returns-in-28 : goal.returns-in-28
unfolding meaning_at meaning_of
returns-in-28 c = sym (ap meaning_at c.in-28.is)

pub returns-in-29 : goal.returns-in-29
unfolding meaning_at meaning_of
returns-in-29 c = sym (ap meaning_at c.in-29.is)

pub returns-in-30 : goal.returns-in-30
unfolding meaning_at meaning_of
returns-in-30 c = sym (ap meaning_at c.in-30.is)

pub returns-in-31 : goal.returns-in-31
unfolding meaning_at meaning_of
returns-in-31 c = sym (ap meaning_at c.in-31.is)

pub returns-in-32 : goal.returns-in-32
unfolding meaning_at meaning_of
returns-in-32 c = sym (ap meaning_at c.in-32.is)

pub returns-in-33 : goal.returns-in-33
unfolding meaning_at meaning_of
returns-in-33 c = sym (ap meaning_at c.in-33.is)

pub returns-in-34 : goal.returns-in-34
unfolding meaning_at meaning_of
returns-in-34 c = sym (ap meaning_at c.in-34.is)

pub returns-in-35 : goal.returns-in-35
unfolding meaning_at meaning_of
returns-in-35 c = sym (ap meaning_at c.in-35.is)

pub returns-in-36 : goal.returns-in-36
unfolding meaning_at meaning_of
returns-in-36 c = sym (ap meaning_at c.in-36.is)

pub returns-in-37 : goal.returns-in-37
unfolding meaning_at meaning_of
returns-in-37 c = sym (ap meaning_at c.in-37.is)

pub returns-in_default : goal.returns-in_default
returns-in_default c = sym (meaning_past c.args.rule (past_all 38 c.args.rule (search rules)))
