use Rattle.std.proofs.Common.{◌++◌, List, ℕ, ap, ◌∙◌}
use Rattle.sorted_file.proofs.ColumnsOf.{columns_joined}
use Rattle.sorted_file.proofs.gathering.Columns.join.Goals as goal

pub returns-clause-joined : goal.returns-clause-joined
returns-clause-joined c = λ es fs k m.
    columns_joined c.args.self.now c.args.more _ es fs c.joined-self.ensures.first c.joined-self.ensures.second
    (c.in_ok-extend_from_slice.ensures.items ∙ ap (λ (l : List ℕ). c.args.self.now.numbers.items ++ l) c.deref.ensures.value)
    (c.in_ok-extend_from_slice-2.ensures.items ∙ ap (λ (l : List ℕ). c.args.self.now.lock_keys.items ++ l) c.deref-2.ensures.value)
    c.in_ok-append.ensures.items c.in_ok-append-2.ensures.items k m
