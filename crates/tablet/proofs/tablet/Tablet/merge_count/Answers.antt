-- The count of the policy is within the files.
use Rattle.std.proofs.Common.{map, arith}
use Rattle.std.proofs.lemmas.List.{length-map}
use Rattle.sorted_file.specs.File.{count_of, name_of}
use Rattle.tablet.proofs.Levels.{made_within}
use Rattle.tablet.proofs.tablet.Tablet.merge_count.Goals as goal

pub returns-in-Levels-clause-count : goal.returns-in-Levels-clause-count
returns-in-Levels-clause-count c = rw c.in-Levels.is (rw (← c.as_slice-in-Levels.ensures) c.count_of_small.ensures)

pub returns-in-Levels-clause-within : goal.returns-in-Levels-clause-within
returns-in-Levels-clause-within c =
    let within = made_within (map count_of c.as_slice-in-Levels.result.now) c.count_of_small.result c.count_of_small.ensures in
    let sizes = length-map c.as_slice-in-Levels.result.now count_of in
    let names = length-map c.as_slice-in-Levels.result.now name_of in
    rw (← c.as_slice-in-Levels.ensures) (omega (arith, within, sizes, names))
