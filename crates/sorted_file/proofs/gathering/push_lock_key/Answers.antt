-- A key that isn't a lock's needs no hash.
use Rattle.std.proofs.Common.{◌≡◌, true, false, ap, sym, ◌∙◌}
use Rattle.cell_key.specs.declared.keys.CellKey.{CellKey}
use Rattle.sorted_file.proofs.ColumnsOf.{lent_is}
use Rattle.sorted_file.proofs.gathering.push_lock_key.Goals as goal

pub returns-else-eq-clause-has : goal.returns-else-eq-clause-has
returns-else-eq-clause-has c = λ value key stored named lock.
    let same = lent_is c.args.key c.requires key stored named in
    let is_lock = c.requires.qualifier ∙ (ap (λ (k : CellKey). k.qualifier) same ∙ lock) in
    let not : false ≡ true = sym c.if-eq.false ∙ (rw is_lock at c.eq.ensures) in
    cc
