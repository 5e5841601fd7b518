use Rattle.std.proofs.Common.{inl, inr, refl, ◌∙◌, arith}
use Rattle.rows.proofs.Calls.{reads_none}
use Rattle.txn_client.specs.declared.scan.Batch.TheVariants.{End, Full}
use Rattle.txn_client.proofs.GatheredItems.{come_at, ended_found, stopped_ok}
use Rattle.txn_client.proofs.scan.Scan.run.Goals as goal

pub loop-gathered-init : goal.loop-gathered-init
loop-gathered-init g c = record {
  limits = c.in_ok-gathered.ensures.limits;
  cells = c.in_ok-gathered.ensures.cells;
  gathers = λ held. c.in_ok-gathered.ensures.none (g.R.Rows.seen.cells c.args.rows.now);
  reads = reads_none;
  faults = refl;
}

pub returns-in-End-clause-found : goal.returns-in-End-clause-found
returns-in-End-clause-found g c = λ held.
    let cells = g.R.Rows.seen.cells c.args.rows.now in
    let before = c.loop-gathered.invariant in
    let now = c.in_ok-take_batch.ensures in
    let come = come_at cells (g.R.Rows.seen.cells c.loop-gathered.rows) c.args.self.now c.loop-gathered.gathered c.take_batch.new.self c.in_ok-take_batch.field-0 End before.reads.kept c.in-End.is (now.come (λ row from. before.reads.readable row (held row from))) (before.gathers held) in
    ended_found cells c.args.self.now c.take_batch.new.self c.args.cells _ _ now.limits (now.cells ∙ before.cells) come.0 come.1 c.ended.ensures.items c.ended.ensures.reach

pub returns-in-Full-clause-found : goal.returns-in-Full-clause-found
returns-in-Full-clause-found g c = λ held.
    let cells = g.R.Rows.seen.cells c.args.rows.now in
    let before = c.loop-gathered.invariant in
    let now = c.in_ok-take_batch.ensures in
    let come = come_at cells (g.R.Rows.seen.cells c.loop-gathered.rows) c.args.self.now c.loop-gathered.gathered c.take_batch.new.self c.in_ok-take_batch.field-0 Full before.reads.kept c.in-Full.is (now.come (λ row from. before.reads.readable row (held row from))) (before.gathers held) in
    stopped_ok cells c.args.self.now c.take_batch.new.self c.args.cells c.stopped.result now.limits (now.cells ∙ before.cells) come.0 (now.full c.in-Full.is) (inr come.1) c.stopped.ensures.items c.stopped.ensures.reach

pub returns-clause-found : goal.returns-clause-found
returns-clause-found g c = λ held.
    let before = c.loop-gathered.invariant in
    let looked = before.limits.looked in
    let same = before.cells in
    let done = c.loop-gathered-test.false in
    stopped_ok (g.R.Rows.seen.cells c.args.rows.now) c.args.self.now c.loop-gathered.gathered c.args.cells c.stopped-2.result before.limits same (before.gathers held) (omega (arith, looked, same, done, c.requires.some)) (inl (omega (arith, looked, same, done))) c.stopped-2.ensures.items c.stopped-2.ensures.reach
