use Rattle.std.proofs.Common.{◌++◌, List, ℕ, ap, ◌∙◌}
use Rattle.cell_key.specs.Entries.{field}
use Rattle.sorted_file.specs.Grammar.{number_bytes}
use Rattle.sorted_file.specs.declared.format.Format.TheVariants.{Two}
use Rattle.sorted_file.proofs.Growth.{three}
use Rattle.sorted_file.proofs.Results.{on_ok}
use Rattle.sorted_file.proofs.builder.push_row.Goals as goal

pub returns-clause-ok : goal.returns-clause-ok
returns-clause-ok c =
    let row = c.args.row.now in
    on_ok c.push_field.result _ _ (λ ok.
    three c.args.index.now.items (number_bytes Two row.offset) (number_bytes Two row.length) (field row.first.items) c.push_number.new.out.items c.push_number-2.new.out.items c.push_field.new.out.items
    c.in_ok-push_number.ensures.ok c.in_ok-push_number-2.ensures.ok (ok ∙ ap (λ (l : List ℕ). c.push_number-2.new.out.items ++ field l) c.deref.ensures.value)) c.push_field.ensures.ok
