use Rattle.std.proofs.Common.{◌≡◌, ℕ, ap, subst, sym, ◌∙◌}
use Rattle.cell_key.specs.Keys.{text, IsStored}
use Rattle.cell_key.specs.LentKeys.{IsLentKey}
use Rattle.cell_key.specs.declared.keys.CellKey.{CellKey}
use Rattle.cell_key.specs.declared.keys.Qualifier.{Qualifier}
use Rattle.cell_key.specs.declared.lent_keys.KeyRef.{KeyRef}
use Rattle.sorted_file.specs.Bounds.{column_bounds, IsWithin}
use Rattle.sorted_file.specs.declared.bounds.ColumnBounds.{ColumnBounds}
use Rattle.sorted_file.proofs.Bounded.{by_kind}
use Rattle.sorted_file.proofs.ColumnsOf.{lent_is}
use Rattle.sorted_file.proofs.bounds.ColumnBounds.widen.Goals as goal

-- bounds widened to a borrowed key contain that key
has_key : (lent : KeyRef) (r : IsLentKey lent) (bounds : ColumnBounds) (kind : Qualifier) → lent.qualifier ≡ kind
    → (key : CellKey) → IsStored key → lent.text.now ≡ text key
    → IsWithin (column_bounds bounds kind) key.row lent.stamp → IsWithin (column_bounds bounds key.qualifier) key.row key.stamp
has_key lent r bounds kind is key stored named within =
    let same = lent_is lent r key stored named in
    subst (λ (q : Qualifier). IsWithin (column_bounds bounds q) key.row key.stamp) (sym is ∙ r.qualifier ∙ ap (λ (k : CellKey). k.qualifier) same)
    (subst (λ (s : ℕ). IsWithin (column_bounds bounds kind) key.row s) (r.stamp ∙ ap (λ (k : CellKey). k.stamp) same) within)

pub returns-in-Data-clause-has : goal.returns-in-Data-clause-has
returns-in-Data-clause-has c = λ value key stored named.
    has_key c.args.key c.requires _ _ c.in-Data.is key stored named (c.widen.ensures.has key.row (c.front_in-number.ensures key named))

pub returns-in-Lock-clause-has : goal.returns-in-Lock-clause-has
returns-in-Lock-clause-has c = λ value key stored named.
    has_key c.args.key c.requires _ _ c.in-Lock.is key stored named (c.widen-in-Lock.ensures.has key.row (c.front_in-number.ensures key named))

pub returns-in-Write-clause-has : goal.returns-in-Write-clause-has
returns-in-Write-clause-has c = λ value key stored named.
    has_key c.args.key c.requires _ _ c.in-Write.is key stored named (c.widen-in-Write.ensures.has key.row (c.front_in-number.ensures key named))

pub returns-in-Data-clause-keeps : goal.returns-in-Data-clause-keeps
returns-in-Data-clause-keeps c = by_kind c.args.self.now _ c.widen.ensures.keeps (λ r s h. h) (λ r s h. h)

pub returns-in-Lock-clause-keeps : goal.returns-in-Lock-clause-keeps
returns-in-Lock-clause-keeps c = by_kind c.args.self.now _ (λ r s h. h) c.widen-in-Lock.ensures.keeps (λ r s h. h)

pub returns-in-Write-clause-keeps : goal.returns-in-Write-clause-keeps
returns-in-Write-clause-keeps c = by_kind c.args.self.now _ (λ r s h. h) (λ r s h. h) c.widen-in-Write.ensures.keeps
