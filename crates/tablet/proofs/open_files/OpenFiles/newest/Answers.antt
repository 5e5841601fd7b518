use Rattle.std.proofs.Common.{sym}
use Rattle.std.proofs.lemmas.List.Elements.{All-same}
use Rattle.sorted_file.specs.KeyFilters.{Covers}
use Rattle.tablet.proofs.OpenFiles.{covered_after, indexed_after, none_newest}
use Rattle.tablet.proofs.Passed.{over_any}
use Rattle.tablet.proofs.SameFiles.{same_files}
use Rattle.tablet.proofs.open_files.OpenFiles.newest.Goals as goal

pub returns-then-not-may_have_from-clause-found : goal.returns-then-not-may_have_from-clause-found
returns-then-not-may_have_from-clause-found g c =
    let filter = c.self.inside.filter in
    let files = c.args.self.now in
    let all = All-same (Covers filter) files _ (sym c.self.view_is) c.self.invariant.0 in
    over_any (g.F.Files.contents c.args.store.now) _ (λ m each.
    none_newest m filter c.args.key.now c.args.lo (c.may_have_from.ensures c.if-not-may_have_from.true) files all each)

pub returns-then-not-may_have_from-clause-stay : goal.returns-then-not-may_have_from-clause-stay
returns-then-not-may_have_from-clause-stay g c = same_files (g.F.Files.contents c.args.store.now) c.args.self.now

pub invariant_of-self : goal.invariant_of-self
invariant_of-self g c = (
  covered_after c.stays_covered.ensures (g.F.Files.contents c.args.store.now) c.self.inside.filter c.self.inside.files c.deref_mut.result.now c.newest.new.files c.deref_mut.ensures.value c.newest.auto.files c.newest.ensures.stay c.self.invariant.0,
  indexed_after c.stays_indexed.ensures (g.F.Files.contents c.args.store.now) c.self.inside.locks c.self.inside.files c.deref_mut.result.now c.newest.new.files c.deref_mut.ensures.value c.newest.auto.files c.newest.ensures.stay c.self.invariant.1,
)
