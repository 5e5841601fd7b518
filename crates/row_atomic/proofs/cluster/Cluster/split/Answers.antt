-- The minor compaction comes first, and then the tablet is cut.
use Rattle.std.proofs.Common.{map, ap, ◌∙◌, refl}
use Rattle.std.proofs.lemmas.Result.{IfOk-weaker, on_err_weaker}
use Rattle.cell_key.specs.declared.refusals.Refusal.TheVariants.{BadSplit, NoMemory}
use Rattle.metadata_table.specs.Places.{view_of}
use Rattle.row_atomic.specs.Changes.{IsEmptied}
use Rattle.row_atomic.specs.Clusters.{spot_of}
use Rattle.row_atomic.proofs.DamagedTablets.{holder_out_before}
use Rattle.row_atomic.proofs.ListRoom.{room_flushed}
use Rattle.row_atomic.proofs.LeftTablets.{cut_listed, flushed_alone, halved_after}
use Rattle.row_atomic.proofs.ListedFiles.{cut_lists}
use Rattle.row_atomic.proofs.Outcomes.{cut_after, refused_split, uncut, unflushed, unroomed}
use Rattle.row_atomic.proofs.PassedRefusals.{number_after}
use Rattle.row_atomic.proofs.CompactionRoom.{holder_that, still_used}
use Rattle.row_atomic.proofs.SplitClusters.{holder_flushed, holder_known}
use Rattle.row_atomic.proofs.cluster.Cluster.split.Goals as goal

pub compact_tablet-requires-clause-known : goal.compact_tablet-requires-clause-known
compact_tablet-requires-clause-known g c = rw (← c.self.view_is) (holder_known c.args.row.now c.self.inside.table (view_of c.locate.result.now) c.locate.ensures.holder)

pub compact_tablet-requires-clause-counted : goal.compact_tablet-requires-clause-counted
compact_tablet-requires-clause-counted g c = λ bad. absurd bad.such

pub cut-requires-clause-flushed : goal.cut-requires-clause-flushed
cut-requires-clause-flushed g c =
    let made = rw (← c.self.view_is) at c.in_ok-compact_tablet.ensures.outcome.upholds.made in
    let listed = rw (← c.self.view_is) at c.in_ok-compact_tablet.ensures.listed in
    holder_flushed c.self.inside.next_name c.args.row.now c.self.inside.table c.compact_tablet.new.self.places c.self.inside.tablets.items c.compact_tablet.new.self.tablets (view_of c.locate.result.now) c.locate.ensures.holder listed made

pub room_for_cut-requires-clause-known : goal.room_for_cut-requires-clause-known
room_for_cut-requires-clause-known g c = rw (← c.self.view_is) (holder_known c.args.row.now c.self.inside.table (view_of c.locate.result.now) c.locate.ensures.holder)

pub room_for_cut-requires-clause-free : goal.room_for_cut-requires-clause-free
room_for_cut-requires-clause-free g c = rw (← c.self.view_is) c.in_ok-check_split.ensures.split

pub cut-requires-clause-room : goal.cut-requires-clause-room
cut-requires-clause-room g c =
    let made = rw (← c.self.view_is) at c.in_ok-compact_tablet.ensures.outcome.upholds.made in
    let listed = rw (← c.self.view_is) at c.in_ok-compact_tablet.ensures.listed in
    let room = rw (← c.self.view_is) at c.in_ok-room.ensures in
    let known = holder_known c.args.row.now c.self.inside.table (view_of c.locate.result.now) c.locate.ensures.holder in
    room_flushed c.args.row.now c.in_ok-room.room c.self.inside.next_name c.self.inside.table c.compact_tablet.new.self.places c.self.inside.tablets.items c.compact_tablet.new.self.tablets (view_of c.locate.result.now) c.locate.ensures.table c.locate.ensures.holder
    listed made known room.number room.cut room.names room.tablets

pub returns-in_err-check_split : goal.returns-in_err-check_split
returns-in_err-check_split g c =
    rw (← c.self.view_is) (refused_split g.F.Files.contents g.F.Files.faults _ c.from_residual.result c.in_err-check_split.field-0.0 BadSplit _ _ c.from_residual.ensures.1 c.in_err-check_split.ensures.split.0
    (uncut g.F.Files.contents g.F.Files.faults c.args.row.now _ c.in_err-check_split.ensures.split.1))

pub returns-in_err-room : goal.returns-in_err-room
returns-in_err-room g c =
    rw (← c.self.view_is) (refused_split g.F.Files.contents g.F.Files.faults _ c.from_residual-in_err-room.result c.in_err-room.field-0.0 NoMemory _ _ c.from_residual-in_err-room.ensures.1 c.in_err-room.ensures.refusal
    (unroomed g.F.Files.contents g.F.Files.faults c.args.row.now _ c.in_ok-check_split.ensures.split))

pub returns-in_err-compact_tablet : goal.returns-in_err-compact_tablet
returns-in_err-compact_tablet g c =
    let outcome = rw (← c.self.view_is) at c.in_err-compact_tablet.ensures.outcome in
    rw (← c.self.view_is) (refused_split g.F.Files.contents g.F.Files.faults _ c.from_residual-in_err-compact_tablet.result c.in_err-compact_tablet.field-0.0 c.in_err-compact_tablet.field-0.0 _ _ c.from_residual-in_err-compact_tablet.ensures.1 refl
    (unflushed g.F.Files.contents g.F.Files.faults c.args.row.now (view_of c.locate.result.now) _ c.compact_tablet.new.self c.locate.ensures.holder c.in_ok-check_split.ensures.split c.in_err-compact_tablet.field-0.0 outcome))

pub returns : goal.returns
returns g c =
    let outcome = rw (← c.self.view_is) at c.in_ok-compact_tablet.ensures.outcome in
    let listed = rw (← c.self.view_is) at c.in_ok-compact_tablet.ensures.listed in
    let order = rw (← c.self.view_is) at c.in_ok-compact_tablet.ensures.order in
    let made = outcome.upholds.made in
    let files = outcome.files in
    let mid = c.compact_tablet.new.self in
    let new = c.cut.new.self in
    rw (← c.self.view_is) (cut_after g.F.Files.contents g.F.Files.faults c.args.row.now (view_of c.locate.result.now) _ mid c.locate.ensures.holder c.in_ok-check_split.ensures.split new c.cut.result outcome
    c.cut.ensures.kept c.cut.ensures.limit
    (still_used (g.F.Files.contents c.self.inside.files) (g.F.Files.contents mid.files) (g.F.Files.contents new.files) c.self.inside.next_name mid.next_name new.next_name c.cut.ensures.name c.cut.ensures.reads.same files.0.name)
    (λ none. let first = files.0.none (holder_that IsEmptied c.args.row.now c.self.inside.table c.self.inside.tablets.items (view_of c.locate.result.now) c.locate.ensures.holder none) in (c.cut.ensures.name ∙ first.0, c.cut.ensures.reads.same ∙ first.1))
    (number_after c.self.inside.table mid.places c.cut.result files.1 c.cut.ensures.number)
    (cut_listed c.args.row.now c.self.inside.table mid.places new.places mid.tablets (view_of c.locate.result.now) c.cut.result c.locate.ensures.holder listed c.cut.ensures.cut)
    (IfOk-weaker c.cut.result _ _ (halved_after c.self.inside.next_name mid.next_name c.args.row.now c.self.inside.table mid.places c.self.inside.tablets.items mid.tablets new.tablets (view_of c.locate.result.now) c.locate.ensures.holder listed made) c.cut.ensures.halved)
    (on_err_weaker c.cut.result (λ same. ap (map spot_of) same ∙ files.1) c.cut.ensures.err)
    (on_err_weaker c.cut.result (flushed_alone c.self.inside.next_name mid.next_name c.args.row.now c.self.inside.table mid.places c.self.inside.tablets.items mid.tablets new.tablets (view_of c.locate.result.now) c.locate.ensures.holder listed made) c.cut.ensures.unchanged)
    (cut_lists c.args.row.now mid.places new.places c.cut.result c.cut.ensures.cut c.cut.ensures.err)
    (λ is. holder_out_before (g.F.Files.contents c.self.inside.files) (g.F.Files.contents mid.files) c.args.row.now c.self.inside.table mid.places c.self.inside.tablets.items mid.tablets (view_of c.locate.result.now) c.locate.ensures.holder listed order (c.cut.ensures.damaged is))
    c.cut.ensures.reads.refusal c.cut.ensures.reads.reason)
