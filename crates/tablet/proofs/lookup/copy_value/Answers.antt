use Rattle.std.proofs.Common.{Some, ap, sym, ◌∙◌}
use Rattle.std.specs.Option.{option_copied}
use Rattle.tablet.proofs.lookup.copy_value.Goals as goal

pub returns-clause-copy : goal.returns-clause-copy
returns-clause-copy c = ap Some c.in_ok-copy.ensures.items ∙ ap option_copied (sym c.in-Some.is)
