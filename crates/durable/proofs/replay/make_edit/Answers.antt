use Rattle.std.proofs.Common.{◌≡◌, ◌++◌, ◌∷◌, [], List, ap, subst, ◌∙◌}
use Rattle.cell_key.specs.declared.edits.Edit.{Edit}
use Rattle.durable.specs.Replay.{Replays}
use Rattle.durable.proofs.Replayed.{applied}
use Rattle.durable.proofs.replay.make_edit.Goals as goal

pub returns-clause-ok : goal.returns-clause-ok
returns-clause-ok g c =
    let items : c.push.new.self.items ≡ c.args.edit ∷ [] = c.in_ok-push.ensures.items ∙ ap (λ (es : List Edit). es ++ c.args.edit ∷ []) c.new-edits.ensures.items in
    subst (λ (es : List Edit). Replays g.F.Files.contents es c.args.rows.now c.apply.new.self) items
    (applied g.F.Files.contents c.in_ok-row.row c.push.new.self.items c.args.rows.now c.apply.new.self c.in_ok-apply.ensures.ok c.in_ok-apply.ensures.written c.in_ok-apply.ensures.fits)
