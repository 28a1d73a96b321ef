-- `rows::step::step_number` meets its contract: the number of the rule's entry picks the test. Assumes nothing.
use native.Mathlib.Omega.{arith}
use mathlib.Core.Path.{refl, sym, ◌∙◌}
use Rattle.elk.specs.Rules.{entry}
use Rattle.rows.proofs.Numbering.{instance_numbered, instance_among}
use Rattle.rows.proofs.PremiseKinds.{asked_number}
use Rattle.rows.proofs.Steps.{is_default, is_initial, is_cut, is_unstable, is_schema, is_exchange, default_decided, initial_decided}
use Rattle.rows.proofs.Refetched.{cut_refetched, unstable_refetched, schema_refetched, swap_refetched}
use Rattle.rows.proofs.step.step_number.Goals as goal

pub returns-in-Default : goal.returns-in-Default
returns-in-Default c =
    record {
      given = λ b q j right-premises.
          let asked = sym (asked_number j 0 (omega arith)) in
          let is = is_default (entry q.rule) (asked ∙ c.in-Default.ensures) in
          instance_numbered b q right-premises (λ e. omega (arith, asked, c.in-Default.ensures, e))
          (default_decided j right-premises is _ c.principal_number-p.ensures _ c.default_step.ensures) c.instance.ensures;
      one_of = instance_among _ c.instance.ensures;
    }

pub returns-in-Initial : goal.returns-in-Initial
returns-in-Initial c =
    record {
      given = λ b q j right-premises.
          let asked = sym (asked_number j 0 (omega arith)) in
          let is = is_initial (entry q.rule) (asked ∙ c.in-Initial.ensures) in
          instance_numbered b q right-premises (λ e. omega (arith, asked, c.in-Initial.ensures, e))
          (initial_decided j right-premises is _ c.initial_step.ensures) c.instance-in-Initial.ensures;
      one_of = instance_among _ c.instance-in-Initial.ensures;
    }

pub returns-in-Cut : goal.returns-in-Cut
returns-in-Cut c =
    record {
      given = λ b q j right-premises.
          let asked = sym (asked_number j 0 (omega arith)) in
          let is = is_cut (entry q.rule) (asked ∙ c.in-Cut.ensures) in
          instance_numbered b q right-premises (λ e. omega (arith, asked, c.in-Cut.ensures, e))
          (cut_refetched j right-premises _ _ refl refl c.sides-one.ensures.left c.sides-one.ensures.right c.sides-two.ensures.left c.sides-two.ensures.right
          is _ c.principal_number-p.ensures _ c.cut_step.ensures) c.instance-in-Cut.ensures;
      one_of = instance_among _ c.instance-in-Cut.ensures;
    }

pub returns-in-Unstable : goal.returns-in-Unstable
returns-in-Unstable c =
    record {
      given = λ b q j right-premises.
          let asked = sym (asked_number j 0 (omega arith)) in
          let is = is_unstable (entry q.rule) (asked ∙ c.in-Unstable.ensures) in
          instance_numbered b q right-premises (λ e. omega (arith, asked, c.in-Unstable.ensures, e))
          (unstable_refetched j right-premises _ _ refl refl c.sides-one-in-Unstable.ensures.left c.sides-one-in-Unstable.ensures.right c.sides-two-in-Unstable.ensures.left c.sides-two-in-Unstable.ensures.right
          is _ c.unstable_step.ensures) c.instance-in-Unstable.ensures;
      one_of = instance_among _ c.instance-in-Unstable.ensures;
    }

pub returns-in-Schema : goal.returns-in-Schema
returns-in-Schema c =
    record {
      given = λ b q j right-premises.
          let asked = sym (asked_number j 0 (omega arith)) in
          let is = is_schema (entry q.rule) (λ h. omega (arith, asked, c.in-Schema.ensures, h)) in
          instance_numbered b q right-premises (λ e. omega (arith, asked, c.in-Schema.ensures, e))
          (schema_refetched j right-premises _ _ refl refl c.sides-one-in-Schema.ensures.left c.sides-one-in-Schema.ensures.right c.sides-two-in-Schema.ensures.left c.sides-two-in-Schema.ensures.right
          is.0 is.1 _ c.principal_number-p.ensures _ c.schema_step.ensures) c.instance-in-Schema.ensures;
      one_of = instance_among _ c.instance-in-Schema.ensures;
    }

pub returns-in-Swap : goal.returns-in-Swap
returns-in-Swap c =
    record {
      given = λ b q j right-premises.
          let asked = sym (asked_number j 0 (omega arith)) in
          swap_refetched j right-premises _ refl c.sides-one-in-Swap.ensures.left c.sides-one-in-Swap.ensures.right
          (is_exchange (entry q.rule) (asked ∙ c.in-Swap.ensures)) _ c.principal_number-p.ensures _ c.swap_number.ensures;
      one_of = c.swap_number.ensures.one_of;
    }
