use Rattle.sorted_file.proofs.Growth.{three}
use Rattle.sorted_file.proofs.format.push_foot.Goals as goal

pub returns-clause-ok : goal.returns-clause-ok
returns-clause-ok c =
    three c.args.out.now.items _ _ _ c.push_number.new.out.items c.push_number-2.new.out.items _ c.in_ok-push_number.ensures.ok c.in_ok-push_number-2.ensures.ok
    (three _ _ _ _ c.push_number-3.new.out.items c.push_number-4.new.out.items _ c.in_ok-push_number-3.ensures.ok c.in_ok-push_number-4.ensures.ok c.in_ok-extend_from_slice.ensures.items)
