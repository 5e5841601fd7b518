use Rattle.std.proofs.Common.{Option, Some, IfOk, IfSome, OnOk, Result, Ok, Err, ◌∙◌, sym, subst}
use Rattle.std.specs.Vec.Iter.{into_iter_items}
use Rattle.cell_key.specs.Cells.{Cells}
use Rattle.cell_key.specs.Places.{IsNextCell}
use Rattle.cell_key.specs.declared.refusals.Refusal.{Refusal}
use Rattle.si_model.specs.Collection.{place_at}
use Rattle.si_model.specs.declared.replies.Cell.{Cell}
use Rattle.si_model.specs.declared.replies.CollectReply.{CollectReply}
use Rattle.version_collector.specs.Ahead.{AreAhead, Follow}
use Rattle.version_collector.specs.Versions.{AreShown}
use Rattle.version_collector.specs.Visits.{HasProgress, Thins, Visits, position_of}
use Rattle.rows.proofs.RowsFrom.{row_after}
use Rattle.version_collector.proofs.PassedRefusals.{read_not_damaged}
use Rattle.version_collector.proofs.Room.{room_none}
use Rattle.version_collector.proofs.Thinned.{thins_kept}
use Rattle.version_collector.proofs.collector.Collector.visit.Goals as goal

each_ok : {P Q : CollectReply → Type 0} (r : Result CollectReply Refusal) → IfOk r P → ((reply : CollectReply) → P reply → Q reply) → IfOk r Q
each_ok (Ok reply) h f = f reply h
each_ok (Err e) h f = tt

on_ok : {P : Type 0} {Q : CollectReply → Type 0} (r : Result CollectReply Refusal) → OnOk r P → ((reply : CollectReply) → P → Q reply) → IfOk r Q
on_ok (Ok reply) h f = f reply h
on_ok (Err e) h f = tt

pub returns-in_err-cell-clause-room : goal.returns-in_err-cell-clause-room
returns-in_err-cell-clause-room g c = room_none g.R.Rows.seen.overfills 1 c.args.rows.now c.next.new.rows c.in_err-cell.ensures.reads.room

pub returns-in_default-clause-visit : goal.returns-in_default-clause-visit
returns-in_default-clause-visit g c = λ held shown right is.
    subst (λ (m : Cells). Visits (g.R.Rows.seen.cells c.args.rows.now) c.args.self.now c.turn.result m c.turn.new.self) (sym c.in_ok-cell.ensures.reads.kept)
    (c.turn.ensures.turned (g.R.Rows.seen.cells c.args.rows.now)
    (subst (λ (o : Option Cell). IsNextCell (g.R.Rows.seen.cells c.args.rows.now) (position_of c.args.self.now.after) (position_of o)) c.in_default.is (c.in_ok-cell.ensures.found held is)) right)

pub returns-in_default-clause-room : goal.returns-in_default-clause-room
returns-in_default-clause-room g c = room_none g.R.Rows.seen.overfills 1 c.args.rows.now c.next.new.rows c.in_ok-cell.ensures.reads.room

pub returns-in-First-clause-visit : goal.returns-in-First-clause-visit
returns-in-First-clause-visit g c = λ held shown right is.
    let e = c.in_ok-cell.ensures.reads.kept in
    let next = subst (λ (o : Option Cell). IsNextCell (g.R.Rows.seen.cells c.args.rows.now) (position_of c.args.self.now.after) (position_of o)) c.in-Some.is (c.in_ok-cell.ensures.found held is) in
    each_ok c.look.result (c.look.ensures.visit (c.in_ok-cell.ensures.reads.readable c.in-Some.cell.row (held c.in-Some.cell.row (row_after (position_of c.args.self.now.after) (place_at c.in-Some.cell) next.0))) c.in-First.is (subst (λ (m : Cells). HasProgress m c.args.self.now) (sym e) right) (subst (λ (m : Cells). IsNextCell m (position_of c.args.self.now.after) (position_of (Some c.in-Some.cell))) (sym e) next))
    (λ reply v. subst (λ (m : Cells). Visits (g.R.Rows.seen.cells c.args.rows.now) c.args.self.now reply m c.look.new.self) (sym c.look.ensures.reads.kept)
    (subst (λ (m : Cells). Visits m c.args.self.now reply (g.R.Rows.seen.cells c.next.new.rows) c.look.new.self) e v))

pub returns-in-First-clause-ahead : goal.returns-in-First-clause-ahead
returns-in-First-clause-ahead g c = λ held is.
    let cells = g.R.Rows.seen.cells c.args.rows.now in
    let places = into_iter_items c.next.new.self.places in
    let is_end = c.next.new.self.is_end in
    let follow = subst (λ (o : Option Cell). IfSome o (λ cell. Follow cells (Some (place_at cell)) places is_end)) c.in-Some.is (c.in_ok-cell.ensures.left held is) in
    each_ok c.look.result c.look.ensures.moves (λ reply moves more.
    subst (λ (m : Cells). AreAhead m (position_of c.look.new.self.after) c.next.new.self.doubted places is_end) (sym c.in_ok-cell.ensures.reads.kept ∙ sym c.look.ensures.reads.kept)
    (subst (λ (o : Option Cell). AreAhead cells (position_of o) c.next.new.self.doubted places is_end) (sym (moves more))
    (subst (λ (o : Option Cell). AreAhead cells (Some (place_at c.in-Some.cell)) o places is_end) (sym c.in_ok-cell.ensures.doubted) follow)))

pub returns-in-First-clause-room : goal.returns-in-First-clause-room
returns-in-First-clause-room g c =
    room_none g.R.Rows.seen.overfills 1 c.args.rows.now c.look.new.rows (λ row later full. c.in_ok-cell.ensures.reads.room row later (c.look.ensures.reads.room row later full))

pub returns-in-Second-clause-visit : goal.returns-in-Second-clause-visit
returns-in-Second-clause-visit g c = λ held shown right is.
    let e = c.in_ok-cell.ensures.reads.kept in
    let next = subst (λ (o : Option Cell). IsNextCell (g.R.Rows.seen.cells c.args.rows.now) (position_of c.args.self.now.after) (position_of o)) c.in-Some.is (c.in_ok-cell.ensures.found held is) in
    subst (λ (m : Cells). IfOk c.collect.result (λ reply. Visits m c.args.self.now reply (g.R.Rows.seen.cells c.collect.new.rows) c.collect.new.self)) e
    (c.collect.ensures.visit (c.in_ok-cell.ensures.reads.readable c.in-Some.cell.row (held c.in-Some.cell.row (row_after (position_of c.args.self.now.after) (place_at c.in-Some.cell) next.0))) (subst (λ (m : Cells). AreShown m) (sym e) shown) c.in-Second.is
    (subst (λ (m : Cells). HasProgress m c.args.self.now) (sym e) right)
    (subst (λ (m : Cells). IsNextCell m (position_of c.args.self.now.after) (position_of (Some c.in-Some.cell))) (sym e) next))

pub returns-in-Second-clause-ahead : goal.returns-in-Second-clause-ahead
returns-in-Second-clause-ahead g c = λ held is.
    let e = c.in_ok-cell.ensures.reads.kept in
    let cells = g.R.Rows.seen.cells c.args.rows.now in
    let places = into_iter_items c.next.new.self.places in
    let is_end = c.next.new.self.is_end in
    let next = subst (λ (o : Option Cell). IsNextCell cells (position_of c.args.self.now.after) (position_of o)) c.in-Some.is (c.in_ok-cell.ensures.found held is) in
    let follow = subst (λ (o : Option Cell). IfSome o (λ cell. Follow cells (Some (place_at cell)) places is_end)) c.in-Some.is (c.in_ok-cell.ensures.left held is) in
    on_ok c.collect.result
    (c.collect.ensures.ahead (c.in_ok-cell.ensures.reads.readable c.in-Some.cell.row (held c.in-Some.cell.row (row_after (position_of c.args.self.now.after) (place_at c.in-Some.cell) next.0)))
    (subst (λ (m : Cells). IsNextCell m (position_of c.args.self.now.after) (position_of (Some c.in-Some.cell))) (sym e) next)
    (subst (λ (m : Cells). Follow m (Some (place_at c.in-Some.cell)) places is_end) (sym e) follow)
    c.in_ok-cell.ensures.doubted)
    (λ reply ahead more. ahead)

pub returns-in-First-clause-undamaged : goal.returns-in-First-clause-undamaged
returns-in-First-clause-undamaged g c = λ held shown is.
    let next = subst (λ (o : Option Cell). IsNextCell (g.R.Rows.seen.cells c.args.rows.now) (position_of c.args.self.now.after) (position_of o)) c.in-Some.is (c.in_ok-cell.ensures.found held is) in
    read_not_damaged c.look.result _ c.look.ensures.refusal (c.in_ok-cell.ensures.reads.readable c.in-Some.cell.row (held c.in-Some.cell.row (row_after (position_of c.args.self.now.after) (place_at c.in-Some.cell) next.0)))

pub returns-in-Second-clause-undamaged : goal.returns-in-Second-clause-undamaged
returns-in-Second-clause-undamaged g c = λ held shown is.
    let next = subst (λ (o : Option Cell). IsNextCell (g.R.Rows.seen.cells c.args.rows.now) (position_of c.args.self.now.after) (position_of o)) c.in-Some.is (c.in_ok-cell.ensures.found held is) in
    c.collect.ensures.undamaged (c.in_ok-cell.ensures.reads.readable c.in-Some.cell.row (held c.in-Some.cell.row (row_after (position_of c.args.self.now.after) (place_at c.in-Some.cell) next.0))) (subst (λ (m : Cells). AreShown m) (sym c.in_ok-cell.ensures.reads.kept) shown)

pub returns-in_err-cell-clause-thins : goal.returns-in_err-cell-clause-thins
returns-in_err-cell-clause-thins g c = λ held. thins_kept g.R.Rows.seen 1 c.args.rows.now c.next.new.rows c.in_err-cell.ensures.reads.kept

pub returns-in_default-clause-thins : goal.returns-in_default-clause-thins
returns-in_default-clause-thins g c = λ held. thins_kept g.R.Rows.seen 1 c.args.rows.now c.next.new.rows c.in_ok-cell.ensures.reads.kept

pub returns-in-First-clause-thins : goal.returns-in-First-clause-thins
returns-in-First-clause-thins g c = λ held. thins_kept g.R.Rows.seen 1 c.args.rows.now c.look.new.rows (c.look.ensures.reads.kept ∙ c.in_ok-cell.ensures.reads.kept)

pub returns-in-Second-clause-thins : goal.returns-in-Second-clause-thins
returns-in-Second-clause-thins g c = λ held.
    subst (λ (m : Cells). Thins 1 m (g.R.Rows.seen.cells c.collect.new.rows)) c.in_ok-cell.ensures.reads.kept (c.collect.ensures.thins (c.in_ok-cell.ensures.reads.still held))
