use Rattle.std.proofs.Common.{sym, true≢false}
use Rattle.audit.proofs.Versions.{found_long, long_found, no_value, some_write}
use Rattle.audit.proofs.audit.snapshots.is_long_among.Goals as goal

pub returns-in_default : goal.returns-in_default
returns-in_default c =
    (λ t. absurd (true≢false (sym t)), λ has. absurd (no_value c.args.commits.now c.args.cell.now c.args.versions.now c.requires c.args.stamp c.args.least c.in_default.ensures.none has))

pub returns-in-Some-write_at : goal.returns-in-Some-write_at
returns-in-Some-write_at c =
    let u = c.in-Some.version.now in
    let w = c.in-Some-write_at.write.now in (
      λ t. long_found c.args.commits.now c.args.cell.now c.args.versions.now c.requires c.args.stamp u c.in-Some.ensures.some w c.args.least c.in-Some-write_at.ensures.some (c.is_long.ensures.0 t),
      λ has. c.is_long.ensures.1 (found_long c.args.commits.now c.args.cell.now c.args.versions.now c.requires c.args.stamp u c.in-Some.ensures.some w c.args.least c.in-Some-write_at.ensures.some has),
    )

pub returns-in-None : goal.returns-in-None
returns-in-None c =
    let w = some_write c.args.commits.now c.args.cell.now c.args.versions.now c.requires c.args.stamp c.in-Some.version.now c.in-Some.ensures.some in
    (λ t. absurd (true≢false (sym t)), λ has. absurd (c.in-None.ensures.none w.0 w.1))
