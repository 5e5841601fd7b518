use Rattle.std.proofs.Common.{ap, ◌++◌, ◌∙◌}
use Rattle.tablet.specs.Views.{names_of}
use Rattle.tablet.proofs.tablet.Tablet.names.Goals as goal

pub returns-clause-names : goal.returns-clause-names
returns-clause-names c = c.in_ok-push_names.ensures.ok ∙ ap (λ (out : _). out ++ names_of c.args.self.now) c.new-names.ensures.items
