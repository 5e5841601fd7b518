use Rattle.std.proofs.Common.{◌∙◌, sym}
use Rattle.file_sums.specs.Shown.{sums_in}
use Rattle.file_sums.proofs.Changes.{first_failed, second_failed, removed_shown}
use Rattle.std.specs.Cmp.{unsigned_tied}
use Rattle.file_sums.proofs.Shows.{different}
use Rattle.file_sums.proofs.Places.{on_err}
use Rattle.file_sums.proofs.Sums.{but, none_high, nothing_removed}
use Rattle.file_sums.proofs.files.SumFilesFiles.remove.Goals as goal

pub returns-then-name-ge-SUMMED-clause-ok : goal.returns-then-name-ge-SUMMED-clause-ok
returns-then-name-ge-SUMMED-clause-ok g c =
    nothing_removed (g.F.Files.contents c.args.self.now.inner) (sums_in c.args.self.now.summed) c.args.name c.if-name-ge-SUMMED.true (none_high c.args.self.now.summed c.args.name c.if-name-ge-SUMMED.true)

pub returns-in_err-remove-clause-err : goal.returns-in_err-remove-clause-err
returns-in_err-remove-clause-err g c =
    on_err c.from_residual.result (first_failed (sums_in c.args.self.now.summed) (g.F.Files.contents c.args.self.now.inner) (g.F.Files.contents c.remove.new.self) c.args.name c.if-name-ge-SUMMED.false c.in_err-remove.ensures.err)

pub returns-in_err-remove-2-clause-err : goal.returns-in_err-remove-2-clause-err
returns-in_err-remove-2-clause-err g c =
    on_err c.from_residual-in_err-remove-2.result (second_failed (sums_in c.args.self.now.summed) (g.F.Files.contents c.args.self.now.inner) (g.F.Files.contents c.remove.new.self) (g.F.Files.contents c.remove-2.new.self) c.args.name c.if-name-ge-SUMMED.false
    c.in_ok-remove.ensures.ok c.in_err-remove-2.ensures.err)

pub returns-clause-ok : goal.returns-clause-ok
returns-clause-ok g c =
    removed_shown (sums_in c.args.self.now.summed) (sums_in c.remove-3.new.self) (g.F.Files.contents c.args.self.now.inner) (g.F.Files.contents c.remove.new.self) (g.F.Files.contents c.remove-2.new.self) c.args.name c.if-name-ge-SUMMED.false
    (but c.args.name c.args.self.now.summed c.remove-3.new.self (λ q apart. c.remove-3.ensures.updates.2 q (unsigned_tied c.args.name q ∙ different c.args.name q (λ e. apart (sym e))))) c.in_ok-remove.ensures.ok c.in_ok-remove-2.ensures.ok
