use Rattle.std.proofs.Common.{◌<◌, ◌≤◌, ◌^◌, ◌∙◌, ℕ, Some, ap, map, arith}
use Rattle.cell_key.specs.Versions.{stamped}
use Rattle.tablet.proofs.Lookups.{ok_map}
use Rattle.tablet.proofs.NewestVersions.{newest_found}
use Rattle.tablet.proofs.tablet.Tablet.versions.Goals as goal

pub returns-clause-found : goal.returns-clause-found
returns-clause-found g c =
    let least = c.min-newest.ensures in
    let last : (s : ℕ) → s < 2 ^ 63 → s ≤ c.args.hi → s ≤ c.min-newest.result = λ s small high. omega (arith, small, high) in
    ok_map c.merged_values.result c.merged_values.ensures.found (λ found h.
    newest_found c.args.row.now c.args.family.now c.args.qualifier c.in_ok-from.ensures.row c.in_ok-from.ensures.family
    c.args.self.now c.as_slice.result.now c.as_slice.ensures c.min-newest.result c.args.hi c.args.most (omega arith) (omega arith) last
    c.deref.result.now (Some c.deref-2.result.now) (c.deref.ensures.value ∙ c.in_ok-from.ensures.text) (ap Some (c.deref-2.ensures.value ∙ c.in_ok-end.ensures.text))
    (map stamped found.items) (g.F.Files.contents c.args.files.now) h)
