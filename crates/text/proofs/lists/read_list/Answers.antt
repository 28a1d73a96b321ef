-- `text::lists::read_list` meets its contract. Assumes nothing.
use mathlib.Core.Path.{sym, ◌∙◌}
use Rattle.text.proofs.Listing.{listed_none}
use Rattle.text.proofs.lists.read_list.Goals as goal

pub returns-then-is_dash : goal.returns-then-is_dash
returns-then-is_dash c = listed_none _ _ _ (sym c.is_dash.ensures ∙ c.if-is_dash.true) c.no_entries.ensures

pub read_items-requires : goal.read_items-requires
read_items-requires c = sym c.is_dash.ensures ∙ c.if-is_dash.false
