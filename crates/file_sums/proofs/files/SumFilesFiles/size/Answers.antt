use Rattle.std.proofs.Common.{◌≡◌, rules, true, false}
use Rattle.std.specs.BTreeSet.{contains}
use Rattle.std.specs.Ordering.{nat_cmp}
use Rattle.file_sums.specs.Shown.{sums_in}
use Rattle.file_sums.proofs.Sums.{there, none_high, size_high, size_plain, size_none}
use Rattle.file_sums.proofs.files.SumFilesFiles.size.Goals as goal

pub returns-then-name-ge-SUMMED-clause-ok : goal.returns-then-name-ge-SUMMED-clause-ok
returns-then-name-ge-SUMMED-clause-ok g c =
    size_none (g.F.Files.contents c.args.self.now.inner) (sums_in c.args.self.now.summed) c.args.name c.if-name-ge-SUMMED.true (none_high c.args.self.now.summed c.args.name c.if-name-ge-SUMMED.true)

pub returns-then-contains-clause-ok : goal.returns-then-contains-clause-ok
returns-then-contains-clause-ok g c =
    let here : contains nat_cmp c.args.self.now.summed c.args.name ≡ true = search rules in
    size_high c.size_of_pieces.result (g.F.Files.contents c.args.self.now.inner) (sums_in c.args.self.now.summed) c.args.name
    (there c.args.self.now.summed c.args.name true c.if-name-ge-SUMMED.false here) (search rules)

pub returns-clause-ok : goal.returns-clause-ok
returns-clause-ok g c =
    let here : contains nat_cmp c.args.self.now.summed c.args.name ≡ false = search rules in
    size_plain c.size.result (g.F.Files.contents c.args.self.now.inner) (sums_in c.args.self.now.summed) c.args.name c.if-name-ge-SUMMED.false
    (there c.args.self.now.summed c.args.name false c.if-name-ge-SUMMED.false here) (search rules)
