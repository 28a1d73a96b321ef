use mathlib.Core.Path.{sym, subst, ◌∙◌}
use Rattle.std.specs.Prelude.{Option as Answer}
use Rattle.text.specs.Lists.{ListedInto}
use Rattle.text.specs.declared.lists.Listed.{Listed}
use native.Mathlib.Omega.{arith}
use Rattle.text.proofs.Listing.{listing_none, listing_length, listing_count, listing_more, listed_bad, listed_last}
use Rattle.text.proofs.Listing.{item_ordered, item_bounds}
use Rattle.text.proofs.lists.read_items.Goals as goal

pub loop-item-init : goal.loop-item-init
loop-item-init c = listing_none _ _ _ c.requires c.no_entries-listed.ensures

pub read_item-requires : goal.read_item-requires
read_item-requires c = c.loop-item.invariant.within

pub shape_of-out-in_err-item : goal.shape_of-out-in_err-item
shape_of-out-in_err-item c = listing_length _ _ _ _ _ _ c.loop-item.invariant

pub returns-in_err-item : goal.returns-in_err-item
returns-in_err-item c = subst (λ (r : Answer Listed). ListedInto c.args.runs c.args.field.now c.args.out.now c.loop-item.out r) (sym c.from_residual.ensures) (listed_bad _ _ _ _ _ _ c.loop-item.invariant (sym c.read_item.ensures ∙ c.in_err-item.was))

pub enter-listed-requires : goal.enter-listed-requires
enter-listed-requires c =
    let value = sym c.read_item.ensures ∙ c.in_ok-item.was in
    (listing_count _ _ _ _ _ _ c.loop-item.invariant, item_ordered _ _ _ _ _ _ c.loop-item.invariant _ _ _ value)

pub shape_of-out-then-item-field : goal.shape_of-out-then-item-field
shape_of-out-then-item-field c = c.enter-listed.auto.out ∙ listing_length _ _ _ _ _ _ c.loop-item.invariant

pub returns-then-item-field : goal.returns-then-item-field
returns-then-item-field c =
    let value = sym c.read_item.ensures ∙ c.in_ok-item.was in
    let held = c.enter-listed.ensures _ _ c.loop-item.invariant.holds in
    listed_last _ _ _ _ _ _ c.loop-item.invariant _ _ _ value _ _ held c.if-item-field.true

pub overflow_add-at : goal.overflow_add-at
overflow_add-at c =
    let value = sym c.read_item.ensures ∙ c.in_ok-item.was in
    omega (arith, item_bounds _ _ _ _ _ _ c.loop-item.invariant _ _ _ value)

pub loop-item-smaller : goal.loop-item-smaller
loop-item-smaller c =
    let value = sym c.read_item.ensures ∙ c.in_ok-item.was in
    omega (arith, item_bounds _ _ _ _ _ _ c.loop-item.invariant _ _ _ value)

pub loop-item-preserved : goal.loop-item-preserved
loop-item-preserved c =
    let value = sym c.read_item.ensures ∙ c.in_ok-item.was in
    let held = c.enter-listed.ensures _ _ c.loop-item.invariant.holds in
    listing_more _ _ _ _ _ _ c.loop-item.invariant _ _ _ value _ _ held c.if-item-field.false
