use Rattle.std.proofs.Common.{◌∙◌, sym, subst}
use Rattle.std.proofs.lemmas.List.Elements.{All-same}
use Rattle.sorted_file.specs.KeyFilters.{Covers}
use Rattle.sorted_file.specs.LockIndexes.{IsIndexOf}
use Rattle.tablet.proofs.OpenFiles.{none_valued, not_indexed}
use Rattle.tablet.proofs.open_files.OpenFiles.may_have.Goals as goal

pub returns-in-Data : goal.returns-in-Data
returns-in-Data c = λ no.
    let filter = c.self.inside.filter in
    let files = c.args.self.now in
    none_valued filter c.args.row.now c.args.qualifier c.args.lo c.args.hi (c.may_have.ensures no) files (All-same (Covers filter) files _ (sym c.self.view_is) c.self.invariant.0)

pub returns-in-Lock : goal.returns-in-Lock
returns-in-Lock c = λ no m opened key stored same kind low high.
    let index = c.self.inside.locks in
    let files = c.args.self.now in
    not_indexed index files (subst (IsIndexOf index) c.self.view_is c.self.invariant.1) m opened key stored (kind ∙ c.in-Lock.is)
    (λ there. c.may_have_row.ensures no key there same)
