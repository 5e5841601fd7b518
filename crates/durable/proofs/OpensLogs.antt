-- A server with a log that an opening makes.
use Rattle.std.proofs.Common.{◌≡◌, ◌≤◌, ◌⊎◌, ◌+◌, ℕ, true, List, [], ◌∷◌, length, Option, None, Some, inl, inr, refl, sym, ap, ◌∙◌, subst, arith}
use Rattle.std.specs.Prelude.{IfSome, is_some}
use Rattle.std.specs.List.{AllByRecursion}
use Rattle.cell_key.specs.Cells.{Cells, after_edits}
use Rattle.cell_key.specs.declared.edits.Edit.{Edit}
use Rattle.commit_log.specs.Edits.{HoldEdits, IsStoredEdit, LogsEdits, spelled_edits}
use Rattle.commit_log.specs.declared.logs.Log.{Ghosts as Log}
use Rattle.file_store.specs.Store.{Contents}
use Rattle.file_store.specs.declared.files.Files.{Ghosts as Files}
use Rattle.oracle.specs.declared.marks.MarkStore.{Ghosts as MarkStore}
use Rattle.row_atomic.specs.Journals.{HasRoomFor, empty_journal}
use Rattle.row_atomic.specs.Recorded.{logged_of, waiting_of}
use Rattle.si_model.specs.Machine.{Place, State, reopened}
use Rattle.si_model.specs.ShowsCells.{ShowsCells}
use Rattle.commit_log.specs.Records.{AreUpTo}
use Rattle.metadata_table.specs.Roots.{RootView}
use Rattle.durable.specs.Devices.{CoversWith, IsOver, KeepsUnder, Lasts, most_stamp}
use Rattle.durable.specs.Recovery.{HasRootFile, LacksBase, OpensFrom, ServesFrom}
use Rattle.durable.specs.Answers.{HoldsLogged}
use Rattle.server_loop.specs.Opening.{IsLost}
use Rattle.server_loop.specs.Server.{Shows, cluster_of, journal_of, last_of}
use Rattle.durable.specs.OverDevices.{IsSettledOver}
use Rattle.durable.specs.Stored.{IsRooted, view_of}
use Rattle.durable.specs.StoredMarks.{CoversStamp, MarkView}
use Rattle.durable.specs.declared.server.DurableServer.{DurableServer}
use Rattle.server_loop.specs.declared.server.Server.{Server}
use Rattle.durable.proofs.Logged.{AsManyEdits}
use Rattle.durable.proofs.OpenedLogs.{DamageWith}

pub same_shown : LogsEdits → (records : List (List ℕ)) (a b : List Edit) → HoldEdits records a → HoldEdits records b → AllByRecursion IsStoredEdit a → AllByRecursion IsStoredEdit b → (base : Cells) (st : State) → ShowsCells (after_edits base a) st → ShowsCells (after_edits base b) st
same_shown laws records a b p q stored_a stored_b base st shows = subst (λ (cells : Cells). ShowsCells cells st) (laws.one a b stored_a stored_b (laws.whole records a b p q stored_a stored_b) base) shows

pub same_room : LogsEdits → AsManyEdits → (records : List (List ℕ)) (a b : List Edit) → HoldEdits records a → HoldEdits records b → AllByRecursion IsStoredEdit a → AllByRecursion IsStoredEdit b → HasRoomFor empty_journal a → HasRoomFor empty_journal b
same_room laws as_many records a b p q stored_a stored_b room =
    let spelled = laws.whole records a b p q stored_a stored_b in
    let count = as_many a b stored_a stored_b spelled in
    let size = ap length (laws.entries a b stored_a stored_b spelled) in
    let edits = room.edits in
    let bytes = room.bytes in
    record { edits = omega (arith, count, edits); bytes = omega (arith, size, bytes) }

-- no records of these edits are of none
pub holds_none : LogsEdits → AsManyEdits → (records : List (List ℕ)) (edits : List Edit) → HoldEdits records edits → AllByRecursion IsStoredEdit edits → HoldEdits records [] → edits ≡ []
holds_none laws as_many records [] held stored none = refl
holds_none laws as_many records (e ∷ edits) held stored none = let count = as_many (e ∷ edits) [] stored tt (laws.whole records (e ∷ edits) [] held none stored tt) in absurd (omega (arith, count))

pub no_room_lost : (edits : List Edit) → edits ≡ [] → HasRoomFor empty_journal edits
no_room_lost [] none = record { edits = omega arith; bytes = omega arith }
no_room_lost (e ∷ edits) none = cc

-- a state that lasts also lasts over a log that holds the same records
pub lasts_on_log : (keeps : RootView → Cells → List Place → Type 0) (old new : List (List ℕ) → Type 0) (covers : List (List ℕ) → ℕ → Type 0) (st : State) → ((records : List (List ℕ)) → old records → new records) → Lasts keeps old covers st → Lasts keeps new covers st
lasts_on_log keeps old new covers st same lasts = record {
  root = lasts.root;
  base = lasts.base;
  kept = lasts.kept;
  records = lasts.records;
  in_log = same lasts.records lasts.in_log;
  over = lasts.over;
  stamps = lasts.stamps;
  edits = lasts.edits;
  held = lasts.held;
  stored = lasts.stored;
  room = lasts.room;
  shows = lasts.shows;
  next = lasts.next;
  top = lasts.top;
}

pub has_root_file : (disk : Option Contents) (mark : Option ℕ) (root : RootView) (base : Cells) (places : List Place) → KeepsUnder disk mark root base places → HasRootFile disk
has_root_file disk mark root base places keeps = subst HasRootFile (sym keeps.on_disk) (λ none. some_none keeps.keeps.image (sym keeps.keeps.there ∙ none))
  where
    some_none : (image : List ℕ) → Some image ≡ None → ⊥
    some_none image is = cc

-- of records that a log holds
pub damage_of_log : (holds : List (List ℕ) → Type 0) (told : Option Contents) (mark : Option ℕ) (found : List (List ℕ)) → ((records : List (List ℕ)) → holds records → found ≡ records) → IfSome told (λ m. IfSome mark (DamageWith found m))
    → IfSome told (λ m. IfSome mark (λ n. IsLost m n ⊎ ((records : List (List ℕ)) → holds records → LacksBase m records) ⊎ ((records : List (List ℕ)) → holds records → ¬ AreUpTo most_stamp records)))
damage_of_log holds None mark found same is = tt
damage_of_log holds (Some m) None found same is = tt
damage_of_log holds (Some m) (Some n) found same (inl lost) = inl lost
damage_of_log holds (Some m) (Some n) found same (inr (inl lacks)) = inr (inl (λ records held. subst (LacksBase m) (same records held) lacks))
damage_of_log holds (Some m) (Some n) found same (inr (inr later)) = inr (inr (λ records held. subst (λ (rs : List (List ℕ)). ¬ AreUpTo most_stamp rs) (same records held) later))

module _ {F N M L W : Type 0} (files : Files F W) (marks : MarkStore M) (log : Log L) where
  pub opens_from : LogsEdits → (st : State) (server : Server F N W) (mark : MarkView M) (kept : L) (opened : DurableServer (Server F N W) M L) → opened.server ≡ server → opened.marks ≡ mark → opened.log ≡ kept → (root : RootView) (base : Cells) (edits given : List Edit) (records : List (List ℕ)) → ServesFrom files (marks.mark mark.marks) root base edits st server
      → root.top ≤ mark.stored → mark.stored ≤ most_stamp → last_of server ≡ mark.covered → CoversStamp mark records mark.covered → ((top : ℕ) → top ≤ mark.covered → CoversWith (marks.mark mark.marks) records top)
      → HoldEdits records edits → AllByRecursion IsStoredEdit edits → log.holds kept records → IsOver records root → AreUpTo most_stamp records → HoldEdits records given → AllByRecursion IsStoredEdit given → HasRoomFor empty_journal given → st.next_tablet ≡ length st.places + 1
      → ((there : RootView) → is_some (journal_of server) ≡ true → IsRooted files.contents server there → waiting_of (journal_of server) ≡ [] → last_of server ≤ mark.covered → HoldsLogged (view_of files.contents) log opened there → IsSettledOver files log opened) → OpensFrom files marks log st opened
  opens_from laws st server mark kept opened same_server same_mark same_log root base edits given records s low limit last covered covers held stored in_log over stamps held_given stored_given room next settle =
      let now = s.next in
      let in_log_now : log.holds opened.log records = subst (λ (l : L). log.holds l records) (sym same_log) in_log in
      let bytes : spelled_edits given ≡ logged_of (journal_of opened.server) = laws.whole records given edits held_given held stored_given stored ∙ (ap logged_of (sym s.journal) ∙ ap (λ (x : Server F N W). logged_of (journal_of x)) (sym same_server)) in
      let top = s.top in
      record {
        next = now;
        reached = s.reached;
        recovered = rw same_server s.recovered;
        shown = subst (λ (x : Server F N W). Shows files.contents x now) (sym same_server) s.shown;
        settled = settle root (ap is_some s.journal) s.rooted (ap waiting_of s.journal) (omega (arith, last)) (record {
          records = records;
          in_log = in_log_now;
          over = over;
          stamps = stamps;
          low = subst (λ (m : MarkView M). root.top ≤ m.stored) (sym same_mark) low;
          limit = subst (λ (m : MarkView M). m.stored ≤ most_stamp) (sym same_mark) limit;
          covered = subst (λ (m : MarkView M). CoversStamp m records m.covered) (sym same_mark) covered;
          edits = given;
          held = held_given;
          stored = stored_given;
          room = room;
          bytes = bytes;
        });
        lasts = record {
          root = root;
          base = base;
          kept = subst (λ (x : Server F N W). KeepsUnder (files.contents (cluster_of x).files) (marks.mark opened.marks.marks) root base now.places) (sym same_server) (subst (λ (m : MarkView M). KeepsUnder (files.contents (cluster_of server).files) (marks.mark m.marks) root base now.places) (sym same_mark) s.keeps);
          records = records;
          in_log = in_log_now;
          over = over;
          stamps = stamps;
          edits = given;
          held = held_given;
          stored = stored_given;
          room = room;
          shows = same_shown laws records edits given held held_given stored stored_given base (reopened now) s.shows;
          next = s.recovered.next_tablet ∙ (next ∙ ap (λ (p : List Place). length p + 1) (sym s.recovered.places));
          top = subst (λ (m : MarkView M). CoversWith (marks.mark m.marks) records now.top) (sym same_mark) (covers now.top (omega (arith, top, last)));
        };
      }
