use Rattle.std.proofs.Common.{◌≡◌, List, ℕ, ◌++◌, OnOk, sym, subst, ◌∙◌}
use Rattle.cell_key.proofs.EscapedParts.{escaped-plain}
use Rattle.memtable.proofs.StackTexts.{too_long}
use Rattle.memtable.proofs.stack_text.push_escaped.Goals as goal

pub returns-then-remaining_capacity-row-clause-full : goal.returns-then-remaining_capacity-row-clause-full
returns-then-remaining_capacity-row-clause-full g c =
    too_long c.try_extend_from_slice.result g.row.CAP c.remaining_capacity.result c.args.out.now.items c.args.row.now c.remaining_capacity.ensures c.if-remaining_capacity-row.true

pub returns-then-not-contains-clause-ok : goal.returns-then-not-contains-clause-ok
returns-then-not-contains-clause-ok g c =
    subst (λ (xs : List ℕ). OnOk c.try_extend_from_slice-then-not-contains.result (c.try_extend_from_slice-then-not-contains.new.self.items ≡ c.args.out.now.items ++ xs))
    (sym (escaped-plain c.args.row.now (sym c.contains.ensures.value ∙ c.if-not-contains.true))) c.try_extend_from_slice-then-not-contains.ensures.ok
