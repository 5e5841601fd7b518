use Rattle.std.proofs.Common.{◌+◌, ◌≡◌, ◌≢◌, ◌≤◌, ◌<◌, ℕ, ◌∙◌, refl, subst, arith}
use Rattle.cell_key.specs.declared.refusals.Refusal.TheVariants.{Damaged, Device, MemtableFull}
use Rattle.cell_key.proofs.Reasons.{not_refused}
use Rattle.rows.proofs.Calls.{keeps_then}
use Rattle.si_model.specs.declared.replies.CollectReply.{CollectReply}
use Rattle.version_collector.specs.Visits.{Visits, none, position_of, read_from, then}
use Rattle.version_collector.specs.declared.collector.Collector.{Collector}
use Rattle.version_collector.proofs.Reading.{from_earlier, readable_now}
use Rattle.version_collector.proofs.Room.{no_room_then, room_few, room_same, room_then}
use Rattle.rows.specs.Calls.{AreReadableFrom, OnlyReads, View}
use Rattle.cell_key.proofs.Passed.{as_err, passed as passed_on}
use Rattle.version_collector.proofs.VisitedCells.{still_right, still_shown, thins_few, thins_none, thins_then}
use Rattle.version_collector.proofs.collector.Collector.advance.Goals as goal

one_more : (k n : ℕ) → k < n → k + 1 ≤ n
one_more k n less = omega arith

only_one : (k n : ℕ) → k < n → n ≡ 1 → k ≡ 0
only_one k n less one = omega arith

no_more : (k : ℕ) → k + 1 ≢ 0
no_more k is = omega arith

reads_since : {R : Type 0} (seen : View R) (a b c : R) → b ≡ a → OnlyReads seen b c → OnlyReads seen a c
reads_since seen a b c same reads = subst (λ (r : _). OnlyReads seen r c) same reads

pub loop-made-init : goal.loop-made-init
loop-made-init g c = record {
  visited = λ held st reached store low come. none;
  ahead = λ held st reached store low come. c.new-ahead.ensures (g.R.Rows.seen.cells c.args.rows.now) (position_of c.args.self.now.after);
  floor = refl;
  none = λ is. (refl, refl);
  below = record { still = λ held. held; readable = λ row whole. whole; stays = refl };
  thins = λ held. thins_none 0 (g.R.Rows.seen.cells c.args.rows.now);
  room = room_same g.R.Rows.seen.overfills 0 c.args.rows.now;
  faults = refl;
}

pub returns-in_err-visit-clause-undamaged : goal.returns-in_err-visit-clause-undamaged
returns-in_err-visit-clause-undamaged g c = λ held st reached store low come is.
    let before = c.loop-made.invariant in
    let whole = subst (λ (d : Collector). AreReadableFrom g.R.Rows.seen c.args.rows.now (read_from c.args.self.now d)) c.in_err-visit.ensures.err held in
    let did = before.visited whole st reached store low come in
    c.in_err-visit.ensures.undamaged (readable_now g.R.Rows.seen c.args.rows.now c.loop-made.rows before.below did whole)
    (still_shown st reached (g.R.Rows.seen.cells c.args.rows.now) c.args.self.now store low come c.loop-made.made (g.R.Rows.seen.cells c.loop-made.rows) c.loop-made.self did)
    (before.ahead whole st reached store low come)
    (passed_on c.from_residual.result c.in_err-visit.field-0.0 Damaged c.from_residual.ensures.1 is)

pub returns-in_err-visit-clause-first : goal.returns-in_err-visit-clause-first
returns-in_err-visit-clause-first g c = λ one.
    let none = c.loop-made.invariant.none (only_one c.loop-made.made c.args.visits c.loop-made-test.true one) in
    rw (as_err c.from_residual.result c.in_err-visit.field-0.0 c.from_residual.ensures.1)
    (c.in_err-visit.ensures.err ∙ none.0, reads_since g.R.Rows.seen c.args.rows.now c.loop-made.rows c.visit.new.rows none.1 c.in_err-visit.ensures.same)

pub returns-in_err-visit-clause-full : goal.returns-in_err-visit-clause-full
returns-in_err-visit-clause-full g c = λ is.
    no_room_then g.R.Rows.seen.overfills c.loop-made.made 1 c.args.visits c.args.rows.now c.loop-made.rows (one_more c.loop-made.made c.args.visits c.loop-made-test.true) c.loop-made.invariant.room
    (c.in_err-visit.ensures.full (passed_on c.from_residual.result c.in_err-visit.field-0.0 MemtableFull c.from_residual.ensures.1 is))

pub returns-in-Blocked-clause-visited : goal.returns-in-Blocked-clause-visited
returns-in-Blocked-clause-visited g c = λ held st reached store low come.
    let before = c.loop-made.invariant in
    let whole : AreReadableFrom g.R.Rows.seen c.args.rows.now (read_from c.args.self.now c.loop-made.self) = λ row from. g.R.Rows.seen.each_readable c.args.rows.now held row in
    let did = before.visited whole st reached store low come in
    let shown = still_shown st reached (g.R.Rows.seen.cells c.args.rows.now) c.args.self.now store low come c.loop-made.made (g.R.Rows.seen.cells c.loop-made.rows) c.loop-made.self did in
    let right = still_right st reached (g.R.Rows.seen.cells c.args.rows.now) c.args.self.now store low come c.loop-made.made (g.R.Rows.seen.cells c.loop-made.rows) c.loop-made.self did in
    record {
      mid = g.R.Rows.seen.cells c.loop-made.rows;
      before = c.loop-made.self;
      visits = record { count = c.loop-made.made; few = c.loop-made-test.true; visits = did };
      last = subst (λ (r : CollectReply). Visits (g.R.Rows.seen.cells c.loop-made.rows) c.loop-made.self r (g.R.Rows.seen.cells c.visit.new.rows) c.visit.new.self) c.in-Blocked.is
          (c.in_ok-visit.ensures.visit (readable_now g.R.Rows.seen c.args.rows.now c.loop-made.rows before.below did whole) shown right (before.ahead whole st reached store low come));
    }

pub returns-in-Blocked-clause-room : goal.returns-in-Blocked-clause-room
returns-in-Blocked-clause-room g c =
    room_few g.R.Rows.seen.overfills (c.loop-made.made + 1) c.args.visits c.args.rows.now c.visit.new.rows (one_more c.loop-made.made c.args.visits c.loop-made-test.true)
    (room_then g.R.Rows.seen.overfills c.loop-made.made 1 c.args.rows.now c.loop-made.rows c.visit.new.rows c.loop-made.invariant.room c.in_ok-visit.ensures.room)

pub returns-in-Collected-clause-visited : goal.returns-in-Collected-clause-visited
returns-in-Collected-clause-visited g c = λ held st reached store low come.
    let before = c.loop-made.invariant in
    let whole : AreReadableFrom g.R.Rows.seen c.args.rows.now (read_from c.args.self.now c.loop-made.self) = λ row from. g.R.Rows.seen.each_readable c.args.rows.now held row in
    let did = before.visited whole st reached store low come in
    let shown = still_shown st reached (g.R.Rows.seen.cells c.args.rows.now) c.args.self.now store low come c.loop-made.made (g.R.Rows.seen.cells c.loop-made.rows) c.loop-made.self did in
    let right = still_right st reached (g.R.Rows.seen.cells c.args.rows.now) c.args.self.now store low come c.loop-made.made (g.R.Rows.seen.cells c.loop-made.rows) c.loop-made.self did in
    record {
      mid = g.R.Rows.seen.cells c.loop-made.rows;
      before = c.loop-made.self;
      visits = record { count = c.loop-made.made; few = c.loop-made-test.true; visits = did };
      last = subst (λ (r : CollectReply). Visits (g.R.Rows.seen.cells c.loop-made.rows) c.loop-made.self r (g.R.Rows.seen.cells c.visit.new.rows) c.visit.new.self) c.in-Collected.is
          (c.in_ok-visit.ensures.visit (readable_now g.R.Rows.seen c.args.rows.now c.loop-made.rows before.below did whole) shown right (before.ahead whole st reached store low come));
    }

pub returns-in-Collected-clause-room : goal.returns-in-Collected-clause-room
returns-in-Collected-clause-room g c =
    room_few g.R.Rows.seen.overfills (c.loop-made.made + 1) c.args.visits c.args.rows.now c.visit.new.rows (one_more c.loop-made.made c.args.visits c.loop-made-test.true)
    (room_then g.R.Rows.seen.overfills c.loop-made.made 1 c.args.rows.now c.loop-made.rows c.visit.new.rows c.loop-made.invariant.room c.in_ok-visit.ensures.room)

pub returns-in_err-visit-clause-thins : goal.returns-in_err-visit-clause-thins
returns-in_err-visit-clause-thins g c = λ held.
    let before = c.loop-made.invariant in
    thins_few (c.loop-made.made + 1) c.args.visits (g.R.Rows.seen.cells c.args.rows.now) (g.R.Rows.seen.cells c.visit.new.rows) (one_more c.loop-made.made c.args.visits c.loop-made-test.true)
    (thins_then c.loop-made.made 1 (g.R.Rows.seen.cells c.args.rows.now) (g.R.Rows.seen.cells c.loop-made.rows) (g.R.Rows.seen.cells c.visit.new.rows) (before.thins held) (c.in_err-visit.ensures.thins (before.below.still held)))

pub returns-in-Blocked-clause-thins : goal.returns-in-Blocked-clause-thins
returns-in-Blocked-clause-thins g c = λ held.
    let before = c.loop-made.invariant in
    thins_few (c.loop-made.made + 1) c.args.visits (g.R.Rows.seen.cells c.args.rows.now) (g.R.Rows.seen.cells c.visit.new.rows) (one_more c.loop-made.made c.args.visits c.loop-made-test.true)
    (thins_then c.loop-made.made 1 (g.R.Rows.seen.cells c.args.rows.now) (g.R.Rows.seen.cells c.loop-made.rows) (g.R.Rows.seen.cells c.visit.new.rows) (before.thins held) (c.in_ok-visit.ensures.thins (before.below.still held)))

pub returns-in-Collected-clause-thins : goal.returns-in-Collected-clause-thins
returns-in-Collected-clause-thins g c = λ held.
    let before = c.loop-made.invariant in
    thins_few (c.loop-made.made + 1) c.args.visits (g.R.Rows.seen.cells c.args.rows.now) (g.R.Rows.seen.cells c.visit.new.rows) (one_more c.loop-made.made c.args.visits c.loop-made-test.true)
    (thins_then c.loop-made.made 1 (g.R.Rows.seen.cells c.args.rows.now) (g.R.Rows.seen.cells c.loop-made.rows) (g.R.Rows.seen.cells c.visit.new.rows) (before.thins held) (c.in_ok-visit.ensures.thins (before.below.still held)))

pub loop-made-preserved : goal.loop-made-preserved
loop-made-preserved g c =
    let before = c.loop-made.invariant in
    let now = c.in_ok-visit.ensures in
    record {
      visited = λ held st reached store low come.
          let whole = from_earlier g.R.Rows.seen c.args.rows.now c.args.self.now c.loop-made.self c.visit.new.self now.pass held in
          let did = before.visited whole st reached store low come in
          let shown = still_shown st reached (g.R.Rows.seen.cells c.args.rows.now) c.args.self.now store low come c.loop-made.made (g.R.Rows.seen.cells c.loop-made.rows) c.loop-made.self did in
          let right = still_right st reached (g.R.Rows.seen.cells c.args.rows.now) c.args.self.now store low come c.loop-made.made (g.R.Rows.seen.cells c.loop-made.rows) c.loop-made.self did in
          then did (subst (λ (r : CollectReply). Visits (g.R.Rows.seen.cells c.loop-made.rows) c.loop-made.self r (g.R.Rows.seen.cells c.visit.new.rows) c.visit.new.self) c.in-More.is (now.visit (readable_now g.R.Rows.seen c.args.rows.now c.loop-made.rows before.below did whole) shown right (before.ahead whole st reached store low come)));
      ahead = λ held st reached store low come.
          let whole = from_earlier g.R.Rows.seen c.args.rows.now c.args.self.now c.loop-made.self c.visit.new.self now.pass held in
          let did = before.visited whole st reached store low come in
          now.ahead (readable_now g.R.Rows.seen c.args.rows.now c.loop-made.rows before.below did whole) (before.ahead whole st reached store low come) c.in-More.is;
      floor = now.floor ∙ before.floor;
      none = λ is. absurd (no_more c.loop-made.made is);
      below = keeps_then before.below now.below;
      thins = λ held. thins_then c.loop-made.made 1 (g.R.Rows.seen.cells c.args.rows.now) (g.R.Rows.seen.cells c.loop-made.rows) (g.R.Rows.seen.cells c.visit.new.rows) (before.thins held) (now.thins (before.below.still held));
      room = room_then g.R.Rows.seen.overfills c.loop-made.made 1 c.args.rows.now c.loop-made.rows c.visit.new.rows before.room now.room;
      faults = now.reason.told (not_refused _ Device) ∙ before.faults;
    }
