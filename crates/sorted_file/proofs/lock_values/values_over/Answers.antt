use Rattle.std.proofs.Common.{List, Contains, sym, subst}
use Rattle.std.proofs.lemmas.List.Elements.{Contains-append_left, Contains-append_right}
use Rattle.cell_key.specs.declared.keys.CellKey.{CellKey}
use Rattle.sorted_file.proofs.lock_values.values_over.Goals as goal

pub returns-clause-older : goal.returns-clause-older
returns-clause-older c = λ key there unnamed.
    subst (λ (l : List CellKey). Contains l key) (sym c.in_ok-push_copies.ensures.items)
    (Contains-append_left c.in_ok-locks.locks.items c.args.values.now key (c.in_ok-locks.ensures.keeps key there unnamed))

pub returns-clause-newer : goal.returns-clause-newer
returns-clause-newer c = λ key there.
    subst (λ (l : List CellKey). Contains l key) (sym c.in_ok-push_copies.ensures.items)
    (Contains-append_right c.in_ok-locks.locks.items c.args.values.now key there)
