use Rattle.std.proofs.Common.{[], ◌∷◌, ◌++◌, ◌∙◌, List, refl, ap}
use Rattle.std.specs.BTreeMap as btree
use Rattle.si_model.specs.Reads.{cell_of}
use Rattle.audit.specs.Histories.{name_cmp}
use Rattle.audit.specs.declared.audit.parts.Version.{Version}
use Rattle.audit.proofs.VersionMaps.{added_at, later_none, none_versions}
use Rattle.audit.proofs.audit.histories.add_first.Goals as goal

pub returns : goal.returns
returns c = λ t.
    added_at c.args.histories.now c.insert.new.self (cell_of c.args.name.0 c.args.name.1) c.args.version c.args.name c.push.new.self [] refl
    (none_versions (btree.get name_cmp c.args.histories.now c.args.name) c.requires) c.in_ok-insert.ensures.updates.0 c.in_ok-insert.ensures.updates.1
    (c.in_ok-push.ensures.items ∙ ap (λ (l : List Version). l ++ c.args.version ∷ []) c.new-versions.ensures.items) (later_none c.args.version)
