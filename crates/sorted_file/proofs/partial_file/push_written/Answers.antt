use Rattle.std.proofs.Common.{ℕ, true, Bool, sym, refl, ◌∙◌, ◌≡◌}
use Rattle.cell_key.specs.Entries.{lent_entry}
use Rattle.sorted_file.specs.Builder.{built}
use Rattle.sorted_file.specs.Written.{is_written}
use Rattle.sorted_file.proofs.InSteps.{not_fits, not_list}
use Rattle.sorted_file.proofs.partial_file.push_written.Goals as goal

pub returns-clause-damaged : goal.returns-clause-damaged
returns-clause-damaged g c = λ err.
    let written = sym c.is_written.ensures ∙ c.if-not-is_written.false in
    not_list c.args.keep_erasures (built c.args.builder.now) (lent_entry c.args.entry) written (c.push.ensures.damaged err)

pub returns-clause-large : goal.returns-clause-large
returns-clause-large g c = λ err.
    let written = sym c.is_written.ensures ∙ c.if-not-is_written.false in
    not_fits c.args.keep_erasures c.args.builder.now.opening.size (built c.args.builder.now) (lent_entry c.args.entry) written (c.push.ensures.large err)
