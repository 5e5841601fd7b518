use Rattle.std.proofs.Common.{subst}
use Rattle.sorted_file.specs.Bounds.{column_bounds, IsWithin}
use Rattle.cell_key.specs.declared.keys.Qualifier.{Qualifier}
use Rattle.sorted_file.proofs.Bounded.{none_bounded}
use Rattle.sorted_file.proofs.key_filter.KeyFilter.may_have.Goals as goal

pub returns : goal.returns
returns c = λ no file covers m o key stored kind low high.
    none_bounded file.bounds key stored
    (λ within. c.meet.ensures no key.row key.stamp low high
    (subst (λ (q : Qualifier). IsWithin (column_bounds c.args.self.now.bounds q) key.row key.stamp) kind (covers.bounds key.qualifier key.row key.stamp within)))
    _ o.bounds
