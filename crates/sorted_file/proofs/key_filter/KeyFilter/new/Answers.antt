use Rattle.std.proofs.Common.{List, subst, take, arith}
use Rattle.std.specs.Prelude.{All}
use Rattle.std.proofs.lemmas.List.{take_all}
use Rattle.std.proofs.lemmas.List.Elements.{All-more, All-weaker}
use Rattle.sorted_file.specs.KeyFilters.{Covers}
use Rattle.sorted_file.specs.declared.file.SortedFile.{SortedFile}
use Rattle.sorted_file.proofs.key_filter.KeyFilter.new.Goals as goal

pub loop-file-preserved : goal.loop-file-preserved
loop-file-preserved c =
    let kept = All-weaker (Covers c.loop-file.filter) (Covers c.add.new.self) c.add.ensures.keeps (take c.loop-file.file-index c.args.files.now) c.loop-file.invariant in
    All-more (Covers c.add.new.self) c.args.files.now c.loop-file.file-index c.file-item.result c.loop-file-test.true kept (subst (Covers c.add.new.self) c.file-item.is c.add.ensures.covers)

pub returns-clause-covers : goal.returns-clause-covers
returns-clause-covers c = subst (λ (l : List SortedFile). All (Covers c.loop-file.filter) l) (take_all c.loop-file.file-index c.args.files.now (omega arith)) c.loop-file.invariant
