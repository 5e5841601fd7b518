use Rattle.std.proofs.Common.{◌≡◌, ◌∙◌, List, length, ap, arith}
use Rattle.std.proofs.lemmas.List.{take_all}
use Rattle.cell_key.specs.declared.edits.Edit.{Edit}
use Rattle.commit_log.specs.Edits.{spelled_entries}
use Rattle.commit_log.proofs.FieldParts.{all_fewer}
use Rattle.commit_log.proofs.edits.entries_len.Goals as goal

pub returns-clause-fields : goal.returns-clause-fields
returns-clause-fields c =
    let few = all_fewer c.args.edits.now in
    let whole = take_all c.loop-edit.edit-index c.args.edits.now (omega arith) in
    let all : c.loop-edit.len ≡ length (spelled_entries c.args.edits.now) = c.loop-edit.invariant.counted ∙ ap (λ (es : List Edit). length (spelled_entries es)) whole in
    omega (arith, all, few)
