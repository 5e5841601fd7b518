use Rattle.std.proofs.Common.{◌≤◌, length, subst, sym}
use Rattle.row_atomic.specs.Journals.{JournalView}
use Rattle.row_atomic.proofs.Journals.{cut_view}
use Rattle.row_atomic.proofs.journal.Journal.cut.Goals as goal

pub returns : goal.returns
returns c =
    rw (← c.self.view_is) (cut_view c.self.inside.settled c.args.len c.self.inside.count c.args.count c.self.inside.entry_bytes c.args.entry_bytes c.self.inside.bytes.items c.truncate.new.self.items c.truncate.ensures.items c.self.invariant.0
    (subst (λ (j : JournalView). length j.logged ≤ c.args.len) (sym c.self.view_is) c.requires.waiting))
