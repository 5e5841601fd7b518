use Rattle.std.proofs.lemmas.Map.Iter.{rest_more}
use Rattle.std.specs.BTreeMap as btree
use Rattle.std.specs.Map.Iter.{deref_pair}
use Rattle.audit.specs.Histories.{name_cmp}
use Rattle.audit.specs.Spans.{Name}
use Rattle.audit.proofs.HeldCells.{entry_found, entry_passed}
use Rattle.audit.proofs.audit.marks.search.Goals as goal

pub returns-then-is_name : goal.returns-then-is_name
returns-then-is_name c =
    let k : Name = (c.args.row.now, c.args.family.now) in
    let whole = btree.get name_cmp c.args.holders.now k in
    let is = rest_more deref_pair c.loop-name.name-iterator c.next.new.self c.next.result (c.in-Some.name, c.in-Some.start) c.in-Some.is c.next.ensures.steps in
    entry_found k c.in-Some.start.now c.loop-name.name-iterator c.next.new.self whole c.in-Some.name.now c.loop-name.invariant is (c.is_name.ensures.0 c.if-is_name.true)

pub loop-name-preserved : goal.loop-name-preserved
loop-name-preserved c =
    let k : Name = (c.args.row.now, c.args.family.now) in
    let whole = btree.get name_cmp c.args.holders.now k in
    let is = rest_more deref_pair c.loop-name.name-iterator c.next.new.self c.next.result (c.in-Some.name, c.in-Some.start) c.in-Some.is c.next.ensures.steps in
    entry_passed k c.in-Some.start.now c.loop-name.name-iterator c.next.new.self whole c.in-Some.name.now c.loop-name.invariant is (λ e. cc (c.is_name.ensures.1 e, c.if-is_name.false))
