use Rattle.std.proofs.Common.{sym, ap, ◌∙◌}
use Rattle.std.specs.Ordering.{is_lt}
use Rattle.metadata_table.specs.Search.{ends_before}
use Rattle.metadata_table.proofs.places.Place.ends_before.Goals as goal

pub returns-in-Some : goal.returns-in-Some
returns-in-Some c = c.is_lt.ensures ∙ ap is_lt c.cmp.ensures ∙ ap (λ (end : _). ends_before end c.args.row.now) (sym c.in-Some.is)
