-- The row's cells are its tablet's, which is unchanged.
use Rattle.std.proofs.Common.{◌<◌, ℕ, sym, subst}
use Rattle.row_atomic.proofs.RowAnswers.{found_there, has_answer, holder_numbered, index_below, matched_set, not_damaged, owner_at}
use Rattle.row_atomic.specs.Changes.{IsOutOfOrder}
use Rattle.row_atomic.proofs.ChangedTablets.{numbered_old}
use Rattle.row_atomic.proofs.Calls.{tablet_read}
use Rattle.row_atomic.proofs.Readable.{refused_read}
use Rattle.row_atomic.proofs.Memtables.{set_same}
use Rattle.row_atomic.proofs.PlaceCaches.{at_kept}
use Rattle.row_atomic.proofs.cluster.row_calls.ClusterRows.has_version.Goals as goal

pub index_of-index-requires : goal.index_of-index-requires
index_of-index-requires g c = c.self.invariant.1

pub index_mut-requires : goal.index_mut-requires
index_mut-requires g c =
    let at = at_kept c.self.inside.table c.self.inside.tablets.items c.args.row.now c.index_of-index.result c.self.invariant.0.placed c.index_of-index.ensures.holder in
    subst (λ (n : ℕ). c.index_of-index.result < n) (sym c.self.inside.tablets.ok.0) (index_below c.self.inside.tablets.items c.index_of-index.result at.tablet at.there)

pub invariant_of-self : goal.invariant_of-self
invariant_of-self g c =
    let at = at_kept c.self.inside.table c.self.inside.tablets.items c.args.row.now c.index_of-index.result c.self.invariant.0.placed c.index_of-index.ensures.holder in
    let ts = c.self.inside.tablets.items in
    let there = found_there ts c.index_of-index.result at.tablet c.index_mut.result.now at.there c.index_mut.ensures.value in
    (matched_set c.self.inside.file_limit c.self.inside.next_name c.self.inside.table ts c.index_of-index.result c.index_mut.result.now c.has_version.new.self there c.has_version.ensures.stays.range c.has_version.ensures.stays.names c.self.invariant.0, c.index_of-index.ensures.right, set_same c.self.inside.most ts c.index_of-index.result c.self.invariant.2 c.index_mut.result.now c.has_version.new.self there c.has_version.ensures.stays.memory)

pub returns-clause-found : goal.returns-clause-found
returns-clause-found g c =
    let at = at_kept c.self.inside.table c.self.inside.tablets.items c.args.row.now c.index_of-index.result c.self.invariant.0.placed c.index_of-index.ensures.holder in
    let table = c.index_of-index.ensures.table in
    let ts = c.self.inside.tablets.items in
    let there = found_there ts c.index_of-index.result at.tablet c.index_mut.result.now at.there c.index_mut.ensures.value in
    let owns = owner_at c.self.inside.table ts c.args.row.now c.index_of-index.result c.index_mut.result.now table c.self.invariant.0.placed c.self.invariant.0.as_many at there in
    rw (← c.self.view_is) (λ whole. has_answer (g.F.Files.contents c.self.inside.files) ts c.args.row.now c.args.family.now c.args.qualifier c.args.lo c.args.hi c.index_of-index.result c.index_mut.result.now c.has_version.result owns
    (whole at.place c.index_mut.result.now at.holder (holder_numbered c.self.inside.table ts c.args.row.now c.index_of-index.result c.index_mut.result.now at there)) c.has_version.ensures.found)

pub returns-clause-reads : goal.returns-clause-reads
returns-clause-reads g c =
    let at = at_kept c.self.inside.table c.self.inside.tablets.items c.args.row.now c.index_of-index.result c.self.invariant.0.placed c.index_of-index.ensures.holder in
    let ts = c.self.inside.tablets.items in
    let there = found_there ts c.index_of-index.result at.tablet c.index_mut.result.now at.there c.index_mut.ensures.value in
    rw (← c.self.view_is) (tablet_read g.F.Files.contents _ c.index_of-index.result c.index_mut.result.now c.has_version.new.self c.has_version.new.files there c.has_version.ensures.stays c.has_version.ensures.reads.files.same)

pub returns-clause-damaged : goal.returns-clause-damaged
returns-clause-damaged g c =
    let at = at_kept c.self.inside.table c.self.inside.tablets.items c.args.row.now c.index_of-index.result c.self.invariant.0.placed c.index_of-index.ensures.holder in
    let ts = c.self.inside.tablets.items in
    let t = c.index_mut.result.now in
    let there = found_there ts c.index_of-index.result at.tablet t at.there c.index_mut.ensures.value in
    rw (← c.self.view_is) (λ is. record {
      place = at.place;
      holder = at.holder;
      tablet = numbered_old ts c.index_of-index.result t c.has_version.new.self there (IsOutOfOrder (g.F.Files.contents c.self.inside.files)) at.place.tablet at.number (c.has_version.ensures.reads.damaged is);
    })

pub returns-clause-refusal : goal.returns-clause-refusal
returns-clause-refusal g c =
    let at = at_kept c.self.inside.table c.self.inside.tablets.items c.args.row.now c.index_of-index.result c.self.invariant.0.placed c.index_of-index.ensures.holder in
    let ts = c.self.inside.tablets.items in
    let there = found_there ts c.index_of-index.result at.tablet c.index_mut.result.now at.there c.index_mut.ensures.value in
    rw (← c.self.view_is) (refused_read _ c.has_version.result (λ whole. not_damaged (g.F.Files.contents c.self.inside.files) c.index_mut.result.now _
    (whole at.place c.index_mut.result.now at.holder (holder_numbered c.self.inside.table ts c.args.row.now c.index_of-index.result c.index_mut.result.now at there)) c.has_version.ensures.reads.damaged) c.has_version.ensures.reads.files.refusal)
