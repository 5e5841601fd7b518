-- The minor compaction comes first, and then the files are opened again.
use Rattle.std.proofs.Common.{inr, map, refl, sym, ap, ◌∙◌, subst}
use Rattle.std.proofs.lemmas.Result.{on_err_weaker}
use Rattle.cell_key.specs.declared.refusals.Refusal.TheVariants.{NoMemory}
use Rattle.metadata_table.specs.Table.{moved}
use Rattle.tablet.specs.declared.compactions.Compaction.TheVariants.{Minor}
use Rattle.tablet.specs.Views.{names_of}
use Rattle.row_atomic.specs.Changes.{IsFlushed, Remakes}
use Rattle.row_atomic.specs.Clusters.{spot_of}
use Rattle.row_atomic.proofs.ChangedTablets.{on_ok}
use Rattle.row_atomic.proofs.DamagedTablets.{out_before}
use Rattle.row_atomic.proofs.ListRoom.{open_flushed}
use Rattle.row_atomic.proofs.LeftTablets.{flushed_opened}
use Rattle.row_atomic.proofs.ListedFiles.{move_lists}
use Rattle.row_atomic.proofs.MovedTablets.{known_after}
use Rattle.row_atomic.proofs.Outcomes.{as_refusal, flush_refused, put_after, refused_done, stayed, unmoved, unstarted}
use Rattle.row_atomic.proofs.PassedRefusals.{not_both}
use Rattle.row_atomic.proofs.CompactionRoom.{still_used}
use Rattle.row_atomic.proofs.cluster.Cluster.move_to.Goals as goal

pub compact_tablet-requires-clause-known : goal.compact_tablet-requires-clause-known
compact_tablet-requires-clause-known g c = c.in_ok-is_on.ensures.known

pub compact_tablet-requires-clause-counted : goal.compact_tablet-requires-clause-counted
compact_tablet-requires-clause-counted g c = λ bad. absurd bad.such

pub room_for_move-requires : goal.room_for_move-requires
room_for_move-requires g c = record { known = c.in_ok-is_on.ensures.known }

pub put-requires-clause-room : goal.put-requires-clause-room
put-requires-clause-room g c =
    open_flushed c.in_ok-room.room c.args.self.now.next_name c.args.tablet c.args.self.now.tablets c.compact_tablet.new.self.tablets c.in_ok-room.ensures.room c.in_ok-compact_tablet.ensures.outcome.upholds.made c.in_ok-compact_tablet.ensures.ranges

pub returns-in_err-room-clause-outcome : goal.returns-in_err-room-clause-outcome
returns-in_err-room-clause-outcome g c =
    let old = c.args.self.now in
    refused_done g.F.Files.contents g.F.Files.faults _ c.from_residual-in_err-room.result c.in_err-room.field-0.0 NoMemory _ _ c.from_residual-in_err-room.ensures.1 c.in_err-room.ensures.refusal
    (flush_refused g.F.Files.contents g.F.Files.faults c.args.tablet c.args.server old old c.in_ok-is_on.ensures.known c.in_ok-is_on.ensures.below
    (λ on. not_both _ (c.in_ok-is_on.ensures.on.1 on) c.if-branch.false) NoMemory (unstarted g.F.Files.contents g.F.Files.faults c.args.tablet old Minor c.in_ok-is_on.ensures.known (λ bad. absurd bad.such)))

pub returns-in_err-room-clause-table : goal.returns-in_err-room-clause-table
returns-in_err-room-clause-table g c = c.is_on.ensures.table

pub put-requires-clause-known : goal.put-requires-clause-known
put-requires-clause-known g c = known_after c.args.tablet c.args.self.now.places c.compact_tablet.new.self.places c.compact_tablet.new.self.tablets c.in_ok-compact_tablet.ensures.listed c.in_ok-is_on.ensures.known

pub put-requires-clause-below : goal.put-requires-clause-below
put-requires-clause-below g c = c.in_ok-is_on.ensures.below

pub put-requires-clause-flushed : goal.put-requires-clause-flushed
put-requires-clause-flushed g c = let made = c.in_ok-compact_tablet.ensures.outcome.upholds.made in record { tablet = made.is; numbered = made.is_numbered; such = made.made.memory }

pub returns-in_err-is_on-clause-outcome : goal.returns-in_err-is_on-clause-outcome
returns-in_err-is_on-clause-outcome g c =
    let e = c.in_err-is_on.field-0.0 in
    refused_done g.F.Files.contents g.F.Files.faults _ c.from_residual.result e e _ _ c.from_residual.ensures.1 refl
    (unmoved g.F.Files.contents g.F.Files.faults c.args.tablet c.args.server c.args.self.now e c.is_on.ensures.table c.in_err-is_on.ensures.refusal (as_refusal e _ _ c.in_err-is_on.ensures.unknown) (as_refusal e _ _ c.in_err-is_on.ensures.server))

pub returns-then-branch-clause-outcome : goal.returns-then-branch-clause-outcome
returns-then-branch-clause-outcome g c =
    let table = rw (← c.self.view_is) at c.is_on.ensures.table in
    let on = rw (← c.self.view_is) at c.in_ok-is_on.ensures.on.0 c.if-branch.true in
    rw (← c.self.view_is) (stayed g.F.Files.contents g.F.Files.faults c.args.tablet c.args.server _ table on)

pub returns-in_err-compact_tablet-clause-outcome : goal.returns-in_err-compact_tablet-clause-outcome
returns-in_err-compact_tablet-clause-outcome g c =
    let e = c.in_err-compact_tablet.field-0.0 in
    refused_done g.F.Files.contents g.F.Files.faults _ c.from_residual-in_err-compact_tablet.result e e _ _ c.from_residual-in_err-compact_tablet.ensures.1 refl
    (flush_refused g.F.Files.contents g.F.Files.faults c.args.tablet c.args.server c.args.self.now c.compact_tablet.new.self c.in_ok-is_on.ensures.known c.in_ok-is_on.ensures.below
    (λ on. not_both _ (c.in_ok-is_on.ensures.on.1 on) c.if-branch.false) e c.in_err-compact_tablet.ensures.outcome)

pub returns-clause-outcome : goal.returns-clause-outcome
returns-clause-outcome g c =
    let outcome = c.in_ok-compact_tablet.ensures.outcome in
    let listed = c.in_ok-compact_tablet.ensures.listed in
    let old = c.args.self.now in
    let mid = c.compact_tablet.new.self in
    let new = c.put.new.self in
    put_after g.F.Files.contents g.F.Files.faults c.args.tablet c.args.server old mid c.in_ok-is_on.ensures.known c.in_ok-is_on.ensures.below
    (λ on. not_both _ (c.in_ok-is_on.ensures.on.1 on) c.if-branch.false) new c.put.result outcome c.put.ensures.kept c.put.ensures.limit
    (still_used (g.F.Files.contents old.files) (g.F.Files.contents mid.files) (g.F.Files.contents new.files) old.next_name mid.next_name new.next_name c.put.ensures.name c.put.ensures.reads.same outcome.files.0.name)
    (λ none. let first = outcome.files.0.none none in (c.put.ensures.name ∙ first.0, c.put.ensures.reads.same ∙ first.1))
    (on_ok _ _ c.put.result (λ is. record { names = names_of listed.tablet; moved = is ∙ ap (moved c.args.tablet c.args.server) listed.such }) c.put.ensures.places)
    (on_ok _ _ c.put.result (λ opened. flushed_opened old.next_name c.args.tablet old.tablets mid.tablets new.tablets outcome.upholds.made opened) c.put.ensures.opened)
    (on_err_weaker c.put.result (λ same. ap (map spot_of) same ∙ outcome.files.1) c.put.ensures.stay)
    (on_err_weaker c.put.result (λ stay. inr (subst (Remakes (IsFlushed old.next_name) c.args.tablet old.tablets) (sym stay) outcome.upholds.made)) c.put.ensures.err)
    (move_lists c.args.tablet c.args.server mid.places new.places c.put.result c.put.ensures.places c.put.ensures.stay)
    (λ is. out_before (g.F.Files.contents old.files) (g.F.Files.contents mid.files) c.args.tablet old.tablets mid.tablets c.in_ok-compact_tablet.ensures.order (c.put.ensures.damaged is))
    c.put.ensures.reads.refusal c.put.ensures.reads.reason

pub returns-in_err-is_on-clause-table : goal.returns-in_err-is_on-clause-table
returns-in_err-is_on-clause-table g c = c.is_on.ensures.table

pub returns-then-branch-clause-table : goal.returns-then-branch-clause-table
returns-then-branch-clause-table g c = c.is_on.ensures.table

pub returns-in_err-compact_tablet-clause-table : goal.returns-in_err-compact_tablet-clause-table
returns-in_err-compact_tablet-clause-table g c = c.is_on.ensures.table

pub returns-clause-table : goal.returns-clause-table
returns-clause-table g c = c.is_on.ensures.table
