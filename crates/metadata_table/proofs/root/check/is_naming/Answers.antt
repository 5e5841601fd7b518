use Rattle.std.proofs.Common.{rules, ◌≤◌, ◌^◌}
use Rattle.std.specs.Prelude.{◌↔◌}
use Rattle.std.specs.List.{AllByRecursion}
use Rattle.metadata_table.specs.Places.{views}
use Rattle.metadata_table.specs.Roots.{AreFiles, IsNaming}
use Rattle.metadata_table.proofs.RootChecks.{naming_when}
use Rattle.metadata_table.proofs.root.check.is_naming.Goals as goal

pub returns-then-next_name-le-MOST_NEXT_NAME : goal.returns-then-next_name-le-MOST_NEXT_NAME
returns-then-next_name-le-MOST_NEXT_NAME c =
    let places = c.args.places.now in
    let next = c.args.next_name in
    let from : 1 ≤ next = search rules in
    let to : next ≤ 2 ^ 63 = search rules in
    let same : AllByRecursion (λ place. AreFiles next place.files.items) places ↔ IsNaming next (views places) = naming_when next places from to in
    (λ is. same.0 (c.all_files.ensures.0 is), λ n. c.all_files.ensures.1 (same.1 n))
