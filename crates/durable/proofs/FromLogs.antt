-- A server over the rows that a log's edits make.
use Rattle.std.proofs.Common.{◌≡◌, ◌≤◌, ◌<◌, ◌+◌, ℕ, List, length, Option, sym, ap, ◌∙◌, subst, arith}
use Rattle.cell_key.specs.Cells.{Cells, after_edits}
use Rattle.cell_key.specs.declared.edits.Edit.{Edit}
use Rattle.file_store.specs.declared.files.Files.{Ghosts as Files}
use Rattle.metadata_table.specs.Roots.{RootView}
use Rattle.row_atomic.specs.Roots.{HasRoot}
use Rattle.row_atomic.specs.declared.recorded.Recorded.{Recorded}
use Rattle.si_model.specs.Machine.{IsReached, Place, State, end_of_stamps, reopened, reopens}
use Rattle.si_model.specs.Recovered.{IsRecovered, Recovers}
use Rattle.si_model.specs.ShowsCells.{ShowsCells}
use Rattle.durable.specs.Devices.{Covers}
use Rattle.durable.specs.Recovery.{ServesFrom}
use Rattle.durable.specs.Replay.{FollowsLog}
use Rattle.server_loop.specs.Server.{Shows, ShowsNoSession, last_of, machine_places, rows_of}
use Rattle.server_loop.specs.declared.server.Server.{Server}

-- a state recovers to each state that it recovers to after a clean restart
of_reopened : (st next : State) (mark : ℕ) → IsRecovered mark (reopened st) next → IsRecovered mark st next
of_reopened st next mark r = record {
  top = r.top;
  floor = r.floor;
  begun = r.begun;
  active = r.active;
  commits = r.commits;
  dead = r.dead;
  marks = r.marks;
  reads = r.reads;
  scans = r.scans;
  cleaners = r.cleaners;
  next_cleaner = r.next_cleaner;
  collectors = r.collectors;
  next_collector = r.next_collector;
  places = r.places;
  next_tablet = r.next_tablet;
}

module _ {F N W : Type 0} (files : Files F W) (recover : Recovers) (reopens_shown : (cells : Cells) (st : State) → ShowsCells cells st → ShowsCells cells (reopened st)) where
  pub serves_from : (rows : Recorded F W) (server : Server F N W) (last : ℕ) (mark : Option ℕ) (root : RootView) (base : Cells) (edits : List Edit) (st : State) → FollowsLog files.contents root base edits rows → IsReached st
      → machine_places root.places ≡ st.places → Covers mark root.top → ShowsCells (after_edits base edits) (reopened st) → st.next_tablet ≡ length st.places + 1 → st.top ≤ last → last < end_of_stamps
      → rows_of server ≡ rows → last_of server ≡ last → ((now : State) → ShowsNoSession files.contents rows last last (last + 1) now → Shows files.contents server now) → ServesFrom files mark root base edits st server
  serves_from rows server last mark root base edits st follows reached placed covered shows next_tablet below low same_rows same_last shown =
      let r = recover (after_edits base edits) (reopened st) last (reopens reached) shows below low in
      let now = r.0 in
      let rec : IsRecovered last st now = of_reopened st now last r.2 in
      let places : machine_places rows.cluster.places ≡ now.places = sym follows.placed ∙ placed ∙ sym rec.places in
      let top : now.top ≤ last = let at = rec.top in omega arith in
      record {
        next = now;
        reached = r.1;
        recovered = subst (λ (n : ℕ). IsRecovered n st now) (sym same_last) rec;
        shown = shown now (record {
          in_order = follows.holds;
          store = subst (λ (cells : Cells). ShowsCells cells now) (sym follows.shows) r.3;
          places = places;
          next = rec.next_tablet ∙ next_tablet ∙ ap (λ (p : List Place). length p + 1) (sym rec.places);
          answered = rec.top;
          marked = top;
          collected = rec.floor;
          active = rec.active;
          cleaner = rec.next_cleaner;
          cleaners = rec.cleaners;
          collector = rec.next_collector;
          collectors = rec.collectors;
        });
        rooted = record {
          base = base;
          has = subst (λ (x : Recorded F W). HasRoot files.contents root base x.cluster) (sym same_rows) follows.has;
          placed = follows.placed ∙ ap (λ (x : Recorded F W). machine_places x.cluster.places) (sym same_rows);
        };
        journal = ap (λ (x : Recorded F W). x.journal) same_rows ∙ follows.journal;
        keeps = record {
          kept = follows.has.kept;
          on_disk = ap (λ (x : Recorded F W). files.contents x.cluster.files) same_rows ∙ follows.has.on_disk;
          keeps = follows.has.keeps;
          placed = placed ∙ sym rec.places;
          covered = covered;
        };
        shows = reopens_shown (after_edits base edits) now r.3;
        top = omega (arith, top, same_last);
      }
