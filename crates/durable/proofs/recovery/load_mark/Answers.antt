use Rattle.std.proofs.Common.{◌≡◌, ℕ, max, subst, arith}
use Rattle.commit_log.specs.Frames.{bytes_of}
use Rattle.commit_log.specs.Records.{IsGreatest}
use Rattle.durable.proofs.OpenedLogs.{marked_high, marked_low}
use Rattle.durable.proofs.recovery.load_mark.Goals as goal

pub returns-then-stored-top-clause-damaged : goal.returns-then-stored-top-clause-damaged
returns-then-stored-top-clause-damaged g c = λ is. marked_low (g.M.MarkStore.mark c.args.marks) (bytes_of c.args.records.now) c.in-Ok.mark.stored c.args.top c.in-Ok.ensures.stored (let less = c.if-stored-top.true in omega (arith, less, c.stored.ensures.stored))

pub returns-then-covered-gt-MOST_STAMP-clause-damaged : goal.returns-then-covered-gt-MOST_STAMP-clause-damaged
returns-then-covered-gt-MOST_STAMP-clause-damaged g c = λ is.
    let small = c.in-Ok.ensures.limit in
    let high = c.if-covered-gt-MOST_STAMP.true in
    marked_high c.names_roots.ensures (g.M.MarkStore.mark c.args.marks) (bytes_of c.args.records.now) c.in-Ok.mark.stored c.args.top c.greatest_stamp-covered.result (omega (arith, small)) (subst (λ (n : ℕ). IsGreatest n (bytes_of c.args.records.now) c.greatest_stamp-covered.result) c.stored-2.ensures.stored c.greatest_stamp-covered.ensures) (omega (arith, high))

pub returns-clause-made : goal.returns-clause-made
returns-clause-made g c =
    let is : IsGreatest c.in-Ok.mark.stored (bytes_of c.args.records.now) c.greatest_stamp-covered.result = subst (λ (n : ℕ). IsGreatest n (bytes_of c.args.records.now) c.greatest_stamp-covered.result) c.stored-2.ensures.stored c.greatest_stamp-covered.ensures in
    let above = is.above in
    let begun = c.in-Ok.ensures.covered in
    let most : c.greatest_stamp-covered.result ≡ max c.in-Ok.mark.covered c.greatest_stamp-covered.result = omega (arith, above, begun) in
    rw c.cover.ensures (record { stored = c.in-Ok.ensures.stored; covered = subst (λ (n : ℕ). IsGreatest c.in-Ok.mark.stored (bytes_of c.args.records.now) n) most is })
