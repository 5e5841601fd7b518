-- The row's cells are its tablet's.
use Rattle.std.proofs.Common.{◌<◌, ℕ, map, sym, subst}
use Rattle.cell_key.specs.Versions.{stamped}
use Rattle.row_atomic.proofs.RowAnswers.{found_there, holder_numbered, index_below, not_damaged, owner_at, versions_answer}
use Rattle.row_atomic.proofs.Calls.{files_read}
use Rattle.row_atomic.proofs.Readable.{refused_read}
use Rattle.row_atomic.proofs.PlaceCaches.{at_kept}
use Rattle.row_atomic.proofs.cluster.row_calls.ClusterRows.versions.Goals as goal

pub index_of-index-requires : goal.index_of-index-requires
index_of-index-requires g c = c.self.invariant.1

pub index-requires : goal.index-requires
index-requires g c =
    let at = at_kept c.self.inside.table c.self.inside.tablets.items c.args.row.now c.index_of-index.result c.self.invariant.0.placed c.index_of-index.ensures.holder in
    subst (λ (n : ℕ). c.index_of-index.result < n) (sym c.self.inside.tablets.ok.0) (index_below c.self.inside.tablets.items c.index_of-index.result at.tablet at.there)

pub returns-clause-found : goal.returns-clause-found
returns-clause-found g c =
    let at = at_kept c.self.inside.table c.self.inside.tablets.items c.args.row.now c.index_of-index.result c.self.invariant.0.placed c.index_of-index.ensures.holder in
    let table = c.index_of-index.ensures.table in
    let ts = c.self.inside.tablets.items in
    let there = found_there ts c.index_of-index.result at.tablet c.index.result.now at.there c.index.ensures in
    let owns = owner_at c.self.inside.table ts c.args.row.now c.index_of-index.result c.index.result.now table c.self.invariant.0.placed c.self.invariant.0.as_many at there in
    rw (← c.self.view_is) (λ whole. versions_answer (g.F.Files.contents c.self.inside.files) ts (λ found. map stamped found.items) c.args.row.now c.args.family.now c.args.qualifier c.args.hi c.args.most c.index_of-index.result c.index.result.now c.versions.result owns
    (whole at.place c.index.result.now at.holder (holder_numbered c.self.inside.table ts c.args.row.now c.index_of-index.result c.index.result.now at there)) c.versions.ensures.found)

pub returns-clause-reads : goal.returns-clause-reads
returns-clause-reads g c = rw (← c.self.view_is) (files_read g.F.Files.contents _ c.versions.new.files c.versions.ensures.reads.files.same)

pub returns-clause-damaged : goal.returns-clause-damaged
returns-clause-damaged g c =
    let at = at_kept c.self.inside.table c.self.inside.tablets.items c.args.row.now c.index_of-index.result c.self.invariant.0.placed c.index_of-index.ensures.holder in
    let ts = c.self.inside.tablets.items in
    let t = c.index.result.now in
    let there = found_there ts c.index_of-index.result at.tablet t at.there c.index.ensures in
    rw (← c.self.view_is) (λ is. record {
      place = at.place;
      holder = at.holder;
      tablet = record { tablet = t; numbered = holder_numbered c.self.inside.table ts c.args.row.now c.index_of-index.result t at there; such = c.versions.ensures.reads.damaged is };
    })

pub returns-clause-refusal : goal.returns-clause-refusal
returns-clause-refusal g c =
    let at = at_kept c.self.inside.table c.self.inside.tablets.items c.args.row.now c.index_of-index.result c.self.invariant.0.placed c.index_of-index.ensures.holder in
    let ts = c.self.inside.tablets.items in
    let there = found_there ts c.index_of-index.result at.tablet c.index.result.now at.there c.index.ensures in
    rw (← c.self.view_is) (refused_read _ c.versions.result (λ whole. not_damaged (g.F.Files.contents c.self.inside.files) c.index.result.now _
    (whole at.place c.index.result.now at.holder (holder_numbered c.self.inside.table ts c.args.row.now c.index_of-index.result c.index.result.now at there)) c.versions.ensures.reads.damaged) c.versions.ensures.reads.files.refusal)
