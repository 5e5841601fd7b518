use Rattle.std.proofs.Common.{sym, ap, subst, ◌∙◌}
use Rattle.std.specs.List.{AllByRecursion}
use Rattle.memtable.specs.Slots.{slot_entry, first_value}
use Rattle.memtable.specs.Blocks.{list_of, block_entries, IsEntryBlock}
use Rattle.memtable.proofs.Values.{back_value, front_value}
use Rattle.memtable.proofs.blocks.first_value.Goals as goal

pub returns-in-Some-first_value_in : goal.returns-in-Some-first_value_in
returns-in-Some-first_value_in c =
    let found = rw c.in-Some-first_value_in.is at c.first_value_in.ensures in
    front_value (list_of c.in-Some.block.now) (block_entries c.in-Some.later.now) (slot_entry c.in-Some-first_value_in.slot.now) found
    ∙ ap (λ (xs : _). first_value (block_entries xs)) (sym c.in-Some.ensures.cases.0)
    ∙ c.each.invariant.first

pub each-preserved : goal.each-preserved
each-preserved c =
    let none = rw c.in_default-first_value_in.is at c.first_value_in.ensures in
    record {
      blocks = (subst (AllByRecursion IsEntryBlock) c.in-Some.ensures.cases.0 c.each.invariant.blocks).1;
      first =
          back_value (list_of c.in-Some.block.now) (block_entries c.in-Some.later.now) none
          ∙ ap (λ (xs : _). first_value (block_entries xs)) (sym c.in-Some.ensures.cases.0)
          ∙ c.each.invariant.first;
    }
