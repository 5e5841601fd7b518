use Rattle.std.proofs.Common.{◌∷◌, drop}
use Rattle.std.proofs.lemmas.Result.{IfOk-weaker}
use Rattle.sorted_file.specs.LockIndexes.{IsIndexOf}
use Rattle.tablet.proofs.open_files.OpenFiles.locks_over.Goals as goal

pub returns-clause-index : goal.returns-clause-index
returns-clause-index c =
    IfOk-weaker c.over-3.result _ (λ index. IsIndexOf index (c.args.file.now ∷ drop c.args.count c.args.self.now))
    (λ index is. is (drop c.args.count c.args.self.now) c.in_ok-locks_behind.ensures.index) c.over-3.ensures.over
