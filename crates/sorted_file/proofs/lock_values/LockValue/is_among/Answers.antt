use Rattle.std.proofs.Common.{Contains, ◌∙◌, sym, subst}
use Rattle.cell_key.specs.declared.keys.CellKey.{CellKey}
use Rattle.sorted_file.proofs.KeptLocks.{found_among}
use Rattle.sorted_file.proofs.lock_values.LockValue.is_among.Goals as goal

pub returns : goal.returns
returns c = λ is.
    subst (λ (k : CellKey). Contains c.args.keys.now k) c.self.view_is
    (found_among c.args.keys.now c.self.inside.key c.binary_search.result c.binary_search.ensures.bound c.binary_search.ensures.ok (sym c.is_ok.ensures.value ∙ is))
