use Rattle.std.proofs.Common.{ℕ, List, Bor, map, option_map, sym, true≢false}
use Rattle.si_model.specs.Reads.{cell_of}
use Rattle.audit.specs.Audits.{commit_of}
use Rattle.audit.proofs.Searches.{no_answer, none_snapshot, snapshot_none}
use Rattle.audit.proofs.Versions.{found_write, newest_none, some_write, write_found}
use Rattle.audit.proofs.audit.snapshots.is_latest_among.Goals as goal

pub returns-in_default : goal.returns-in_default
returns-in_default c =
    let cs = map commit_of c.args.commits.now in
    let x = cell_of c.args.row.now c.args.family.now in
    let v = option_map (λ (b : Bor (List ℕ)). b.now) c.args.answer in
    let none = newest_none c.args.commits.now x c.args.versions.now c.requires c.args.stamp c.in_default.ensures.none in
    let same = no_answer (λ (b : Bor (List ℕ)). b.now) c.args.answer c.is_none.result c.is_none.ensures in
    (λ t. snapshot_none cs c.args.stamp x v none (same.0 t), λ m. same.1 (none_snapshot cs c.args.stamp x v none m))

pub returns-in-Some-write_at : goal.returns-in-Some-write_at
returns-in-Some-write_at c =
    let x = cell_of c.args.row.now c.args.family.now in
    let v = option_map (λ (b : Bor (List ℕ)). b.now) c.args.answer in
    let u = c.in-Some.version.now in
    let w = c.in-Some-write_at.write.now in (
      λ t. write_found c.args.commits.now x c.args.versions.now c.requires c.args.stamp u c.in-Some.ensures.some w v c.in-Some-write_at.ensures.some (c.makes.ensures.0 t),
      λ s. c.makes.ensures.1 (found_write c.args.commits.now x c.args.versions.now c.requires c.args.stamp u c.in-Some.ensures.some w v c.in-Some-write_at.ensures.some s),
    )

pub returns-in-None : goal.returns-in-None
returns-in-None c =
    let x = cell_of c.args.row.now c.args.family.now in
    let w = some_write c.args.commits.now x c.args.versions.now c.requires c.args.stamp c.in-Some.version.now c.in-Some.ensures.some in
    (λ t. absurd (true≢false (sym t)), λ s. absurd (c.in-None.ensures.none w.0 w.1))
