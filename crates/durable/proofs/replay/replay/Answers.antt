use Rattle.std.proofs.Common.{◌≡◌, Some, sym, ap, subst, ◌∙◌}
use Rattle.std.specs.Prelude.{option_map}
use Rattle.row_atomic.specs.Journals.{all_logged, empty_journal}
use Rattle.row_atomic.specs.Recorded.{FitsMemtables}
use Rattle.row_atomic.specs.declared.recorded.Recorded.{Recorded}
use Rattle.durable.specs.Replay.{FollowsLog, HasRoom, Replays, logged_journal}
use Rattle.durable.proofs.Replayed.{all_logged_now, follows_log, handed_on}
use Rattle.durable.proofs.replay.replay.Goals as goal

pub returns-clause-ok : goal.returns-clause-ok
returns-clause-ok g c = λ root base shows.
    let contents = g.F.Files.contents in
    let edits = c.args.edits.items in
    let old = c.args.rows.now.cluster in
    let mid = c.make_edits.new.rows in
    let made : Replays contents edits (record { cluster = old; journal = Some empty_journal }) mid = subst (λ (r : Recorded g.row.F.Denot g.row.F-Writing.Denot). Replays contents edits r mid) c.record.ensures c.in_ok-make_edits.ensures.ok in
    let new : c.settled.new.self ≡ record { cluster = mid.cluster; journal = Some (logged_journal edits) } = c.settled.ensures ∙ ap (λ (j : _). record { cluster = mid.cluster; journal = option_map all_logged j }) made.written ∙ ap (λ (j : _). record { cluster = mid.cluster; journal = j }) (all_logged_now edits) in
    subst (λ (r : Recorded g.row.F.Denot g.row.F-Writing.Denot). FollowsLog contents root base edits r) (sym new) (follows_log contents c.root_is_stored.ensures old mid edits root base shows c.requires made)

pub returns-in_err-make_edits-clause-full : goal.returns-in_err-make_edits-clause-full
returns-in_err-make_edits-clause-full g c = λ is emptied room.
    let fits = subst (λ (r : Recorded g.row.F.Denot g.row.F-Writing.Denot). FitsMemtables r) (sym c.record.ensures) (c.opens_following.ensures.fits c.args.rows.now.cluster empty_journal emptied) in
    let room = subst (λ (r : Recorded g.row.F.Denot g.row.F-Writing.Denot). HasRoom r.journal c.args.edits.items) (sym c.record.ensures) room in
    c.in_err-make_edits.ensures.full (handed_on c.from_residual.result c.in_err-make_edits.field-0.0 _ c.from_residual.ensures.1 is) fits room
