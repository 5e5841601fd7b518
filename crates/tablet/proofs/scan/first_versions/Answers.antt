use Rattle.std.proofs.Common.{◌∙◌, map, arith}
use Rattle.std.proofs.lemmas.List.{length-map}
use Rattle.cell_key.specs.Versions.{stamped}
use Rattle.tablet.specs.Reads.{stamped_values}
use Rattle.tablet.proofs.NewestVersions.{found_full}
use Rattle.tablet.proofs.scan.first_versions.Goals as goal

pub returns-clause-found : goal.returns-clause-found
returns-clause-found g c = λ start.
    let i = c.wanted.invariant in
    let disk = g.F.Files.contents c.args.store.now in
    let found = c.wanted.found.items in
    let counted = c.wanted.found.ok.0 in
    let few = i.few in
    found_full (map stamped found) (stamped_values (g.S.Source.remaining disk c.args.source.now)) (g.S.Source.remaining disk c.wanted.source) c.args.most (i.told start).1
    (length-map found stamped ∙ omega (arith, few, counted, c.len.ensures, c.wanted-test.false))
