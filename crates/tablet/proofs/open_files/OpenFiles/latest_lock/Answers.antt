use Rattle.std.proofs.Common.{subst}
use Rattle.sorted_file.specs.LockIndexes.{IsIndexOf}
use Rattle.sorted_file.specs.Newest.{at_stamp}
use Rattle.tablet.proofs.OpenFiles.{not_indexed}
use Rattle.tablet.proofs.open_files.OpenFiles.latest_lock.Goals as goal

pub returns-clause-none : goal.returns-clause-none
returns-clause-none c = λ lock m each s after high stored.
    let index = c.self.inside.locks in
    not_indexed index c.args.self.now (subst (IsIndexOf index) c.self.view_is c.self.invariant.1) m each (at_stamp c.args.key.now s) stored lock (c.latest.ensures.none s after high)
