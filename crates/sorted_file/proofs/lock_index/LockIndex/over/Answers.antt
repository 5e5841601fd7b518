use Rattle.std.proofs.Common.{◌∙◌, ◌∷◌, List, Contains, sym, subst}
use Rattle.std.proofs.lemmas.Result.{IfOk-weaker}
use Rattle.cell_key.specs.declared.keys.CellKey.{CellKey}
use Rattle.sorted_file.specs.LockIndexes.{IsIndexOf}
use Rattle.sorted_file.proofs.LockIndexes.{index_over}
use Rattle.sorted_file.proofs.lock_index.LockIndex.over.Goals as goal

pub returns-clause-over : goal.returns-clause-over
returns-clause-over c =
    let older = c.deref.ensures.value ∙ c.self.view_is in
    let file = c.args.file.now in
    let made = c.in_ok-values.values.items in
    IfOk-weaker c.of_values.result _ _ (λ index is files before.
    subst (λ (l : List CellKey). IsIndexOf l (file ∷ files)) (sym is)
    (index_over c.args.self.now made file
    (λ key there unnamed. c.in_ok-values.ensures.older key (subst (λ (l : List CellKey). Contains l key) (sym older) there)
    (λ named. unnamed (subst (λ (l : List CellKey). Contains l key) c.deref-3.ensures.value named)))
    (λ key there. c.in_ok-values.ensures.newer key (subst (λ (l : List CellKey). Contains l key) (sym c.deref-2.ensures.value) there))
    files before)) c.of_values.ensures.values
