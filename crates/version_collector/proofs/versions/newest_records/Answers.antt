use Rattle.std.proofs.Common.{◌<◌, length, map, arith}
use Rattle.std.proofs.lemmas.List.{length-map}
use Rattle.cell_key.specs.Versions.{stamped}
use Rattle.cell_key.specs.declared.keys.Qualifier.TheVariants.{Write}
use Rattle.si_model.specs.ShowsCells.{key_of}
use Rattle.version_collector.proofs.Starts.{all_newest, newest_then}
use Rattle.version_collector.proofs.versions.newest_records.Goals as goal

pub returns-then-len-lt-FEW_RECORDS-clause-found : goal.returns-then-len-lt-FEW_RECORDS-clause-found
returns-then-len-lt-FEW_RECORDS-clause-found g c = λ held.
    let few : length c.in_ok-found.found.items < 32 = omega (arith, c.if-len-lt-FEW_RECORDS.true, c.len.ensures, c.in_ok-found.found.ok.0) in
    all_newest (g.R.Rows.seen.cells c.args.rows.now) (key_of c.args.cell.now Write) c.args.hi 32 128 (map stamped c.in_ok-found.found.items) (c.in_ok-found.ensures.found held) (omega (arith, few, length-map c.in_ok-found.found.items stamped)) (omega arith)

pub returns-clause-found : goal.returns-clause-found
returns-clause-found g c = λ held.
    newest_then c.args.cell.now c.args.hi 128 c.in_ok-found.ensures.reads held c.versions.result c.versions.ensures.found
