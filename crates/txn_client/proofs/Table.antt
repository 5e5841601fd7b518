-- The sessions in their map, before and after a step of the machine.
use Rattle.std.proofs.Common.{◌≡◌, ◌≢◌, ℕ, ◌+◌, ◌-◌, ◌<◌, ◌≤◌, ◌^◌, ◌⊎◌, inl, inr, Bool, true, false, cond, List, [], ◌∷◌, length, map, min, Option, Some, None, refl, sym, ap, subst, ◌∙◌, arith}
use Rattle.std.specs.Prelude.{is_some, if◌then◌else◌}
use Rattle.std.specs.Ordering.{nat_cmp, is_eq}
use Rattle.std.specs.Cmp.{nat_cmp_total}
use Rattle.std.specs.Map.{lookup}
use Rattle.std.specs.BTreeMap as btree
use Rattle.std.specs.FinMap as finmap
use Rattle.std.specs.declared.result.Result.{Result}
use Rattle.std.specs.declared.result.Result.TheVariants.{Ok, Err}
use Rattle.std.specs.Result.{IfOk, IfErr, OnOk, OnErr, IsErrOf}
use Rattle.std.proofs.lemmas.Bool.{cases_eq}
use Rattle.std.proofs.lemmas.List.{length-map}
use Rattle.std.proofs.lemmas.Option.{none-some, same_Some}
use Rattle.cell_key.specs.Cells.{Cells}
use Rattle.cell_key.specs.Names.{IsRow, IsFamily}
use Rattle.cell_key.specs.declared.refusals.Refusal.{Refusal}
use Rattle.cell_key.specs.declared.refusals.Refusal.TheVariants.{UnknownSession, WrongPhase, BadRow, BadColumn, BadValue, TooManyWrites, TooManySessions, EmptyCommit, NoMemory, Damaged}
use Rattle.rows.specs.Refusals.{IsReadRefusal}
use Rattle.si_model.specs.Laws.{FitsPhase}
use Rattle.si_model.specs.Machine as machine
use Rattle.si_model.specs.Machine.{State, Change, Reply, Request, Step, accepts, refuses, IsStorageRefusal, InPhase, Wrote, Names, Sets, Refused}
use Rattle.si_model.specs.Replies.{found_reply, progress_reply, result_reply}
use Rattle.si_model.specs.Servers.{IsBelowAll, IsReachedByServers}
use Rattle.si_model.specs.ShowsCells.{ShowsCells, TouchesOneRow}
use Rattle.si_model.specs.declared.replies.Cell.{Cell}
use Rattle.si_model.specs.declared.replies.Found.{Found}
use Rattle.si_model.specs.declared.replies.Found.TheVariants.{Value, Nothing, Pending}
use Rattle.si_model.proofs.Acceptable.{begin_ok, set_ok, delete_ok, stop_ok}
use Rattle.si_model.proofs.Bounds.{servers_bounds}
use Rattle.si_model.proofs.FirstRefusals.{begin_full_first, get_unknown_first, get_late_first, get_row_first, get_family_first, set_unknown_first, set_late_first, set_row_first, set_family_first, set_long_first, set_full_first, delete_unknown_first, delete_late_first, delete_row_first, delete_family_first, delete_full_first, advance_unknown_first, advance_empty_first, stop_unknown_first}
use Rattle.si_model.proofs.Goes.{goes}
use Rattle.si_model.proofs.ShownKept.{shows_beside}
use Rattle.si_model.proofs.Steps.{servers_sound}
use Rattle.si_model.proofs.Tools.{eq_test, ne_test, get_same, get_other, get_removed, get_remains, same_entry}
use Rattle.si_model.specs.declared.replies.Progress.{Progress}
use Rattle.si_model.specs.declared.replies.Progress.TheVariants as progress
use Rattle.txn_client.specs.Reads.{IsFound, IsDamaged}
use Rattle.txn_client.specs.Refusals.{IsAdvanceRefusal}
use Rattle.txn_client.specs.Shows.{phase_of, writes_of, top_after, Follows, Advances, HasNoNext, TouchesBy, TouchesFor, IsAboutToDraw, IsOpenSession, IsCellRefusal, KnowsTop, open_session, ShowsSession, ShowsAt, ShowsClients, Shows, Steps}
use Rattle.txn_client.specs.Writes.{write_of}
use Rattle.txn_client.specs.declared.sessions.Clients.{Clients}
use Rattle.txn_client.specs.declared.session.Outcome.{Outcome}
use Rattle.txn_client.specs.declared.session.Phase.{Phase}
use Rattle.txn_client.specs.declared.session.Phase.TheVariants.{Open, Holding, Stamped, Finishing}
use Rattle.txn_client.specs.declared.session.Session.{Session}
use Rattle.txn_client.proofs.ShownReads.{after_read, waits_at, reads_nothing, reads_deletion, reads_value, undamaged}
use Rattle.txn_client.proofs.Refused.{refused_storage, read_storage, advance_storage}

-- ---- tops

pub same_low : {a b : ℕ} → a ≡ b → a ≤ b
same_low e = omega arith

pub low_by : {a b c : ℕ} → a ≡ b → b ≤ c → a ≤ c
low_by e h = omega arith

-- a stamp that is drawn is the top, and no other step changes it
after_low : (p : Progress) (a b : ℕ) → a ≤ b → top_after a p ≤ top_after b p
after_low (progress.Stamped c) a b h = same_low refl
after_low (progress.Held k n) a b h = h
after_low (progress.Conflict k) a b h = h
after_low (progress.Committed c) a b h = h
after_low progress.Lost a b h = h
after_low (progress.Finished k n) a b h = h

-- ---- entries

-- the entries of a map after one key has changed
pub upd_at : (old new : ℕ → Option Session) (k : ℕ) (w : Option Session) → ((q : ℕ) → new q ≡ cond (is_eq (nat_cmp k q)) w (old q)) → new k ≡ w
upd_at old new k w h = h k ∙ ap (λ (b : Bool). cond b w (old k)) (eq_test k k refl)

upd_off : (old new : ℕ → Option Session) (k : ℕ) (w : Option Session) → ((q : ℕ) → new q ≡ cond (is_eq (nat_cmp k q)) w (old q)) → (q : ℕ) → q ≢ k → new q ≡ old q
upd_off old new k w h q ne = h q ∙ ap (λ (b : Bool). cond b w (old q)) (ne_test k q (λ e. ne (sym e)))

-- nothing changes if a key gets the value that it has
pub same_each : (old new : ℕ → Option Session) (k : ℕ) (session w : Session) → old k ≡ Some session → w ≡ session → ((q : ℕ) → new q ≡ cond (is_eq (nat_cmp k q)) (Some w) (old q)) → (q : ℕ) → new q ≡ old q
same_each old new k session w was same h q = elim (cases_eq q k) [
  | inl e ↦ subst (λ (n : ℕ). new n ≡ old n) (sym e) (upd_at old new k (Some w) h ∙ ap (λ (s : Session). Some s) same ∙ sym was)
  | inr ne ↦ upd_off old new k (Some w) h q ne
]

-- equal entries hold the same at each key
pub entries_each : (old new : Clients) → new.sessions.entries ≡ old.sessions.entries → (t : ℕ) → btree.get nat_cmp new.sessions t ≡ btree.get nat_cmp old.sessions t
entries_each old new same t = ap (λ es. lookup (btree.is_at (nat_cmp t)) es) same

-- the effect of an error, from the effect of the call that failed
pub on_err_then : {A : Type 0} (P Q : Type 0) (r : Result A Refusal) → (P → Q) → OnErr r P → OnErr r Q
on_err_then P Q (Ok x) go h = tt
on_err_then P Q (Err e) go h = go h

-- if the machine keeps phase and writes of t, the entry at t is still shown
pub shows_other : (st next : State) (o : Option Session) (t : ℕ) → finmap.get next.active t ≡ finmap.get st.active t → finmap.get next.begun t ≡ finmap.get st.begun t → ShowsAt o t st → ShowsAt o t next
shows_other st next None t a b h = a ∙ h
shows_other st next (Some s) t a b h = record { start = h.start; phase = a ∙ h.phase; writes = b ∙ h.writes }

-- one session changes, and the others are unchanged
pub shows_changed : (st next : State) (old new : ℕ → Option Session) (k : ℕ) (w : Option Session) → ((q : ℕ) → new q ≡ cond (is_eq (nat_cmp k q)) w (old q))
    → ((t : ℕ) → t ≢ k → finmap.get next.active t ≡ finmap.get st.active t) → ((t : ℕ) → t ≢ k → finmap.get next.begun t ≡ finmap.get st.begun t)
    → ((t : ℕ) → ShowsAt (old t) t st) → ShowsAt w k next → (t : ℕ) → ShowsAt (new t) t next
shows_changed st next old new k w h a b shown now t = elim (cases_eq t k) [
  | inl e ↦ subst (λ (t : ℕ). ShowsAt (new t) t next) (sym e) (subst (λ (o : Option Session). ShowsAt o k next) (sym (upd_at old new k w h)) now)
  | inr ne ↦ subst (λ (o : Option Session). ShowsAt o t next) (sym (upd_off old new k w h t ne)) (shows_other st next (old t) t (a t ne) (b t ne) (shown t))
]

abbrev pub begun_at : State → ℕ → State
begun_at st start = record st { top = start; begun = finmap.insert st.begun start []; active = finmap.insert st.active start machine.Open }

-- a start above the last stamp names no session
fresh_start : (cells : Cells) (clients : Clients) (last start : ℕ) (st : State) → IsReachedByServers st → Shows cells clients last st → last < start → finmap.get st.active start ≡ None
fresh_start cells clients last start st reached shown e = by (finmap.get st.active start) refl
  where
    by : (o : Option machine.Phase) → finmap.get st.active start ≡ o → finmap.get st.active start ≡ None
    by None e = e
    by (Some p) f =
        let w = (servers_sound reached).has_begun start p f in
        let low = (servers_sound reached).start_low start w.0 w.1 in
        let t = shown.top in
        absurd (omega arith)

unused_start : (cells : Cells) (clients : Clients) (last start : ℕ) (st : State) → IsReachedByServers st → Shows cells clients last st → last < start → btree.get nat_cmp clients.sessions start ≡ None
unused_start cells clients last start st reached shown e = by (btree.get nat_cmp clients.sessions start) refl
  where
    by : (o : Option Session) → btree.get nat_cmp clients.sessions start ≡ o → btree.get nat_cmp clients.sessions start ≡ None
    by None e = e
    by (Some k) f = let h = subst (λ (o : Option Session). ShowsAt o start st) f (shown.sessions.sessions start) in absurd (none-some _ (sym (fresh_start cells clients last start st reached shown e) ∙ h.phase))

module _ (cells : Cells) (old new : Clients) (last last' start : ℕ) where
  pub begins_at : btree.btree_map_len old.sessions < 1024 → last < start → start < 2 ^ 63 → last' ≡ start → new.top ≡ start
      → ((q : ℕ) → btree.get nat_cmp new.sessions q ≡ cond (is_eq (nat_cmp start q)) (Some (open_session start)) (btree.get nat_cmp old.sessions q))
      → btree.btree_map_len new.sessions ≡ btree.btree_map_len old.sessions + (if is_some (btree.get nat_cmp old.sessions start) then 0 else 1)
      → Steps cells old last machine.Begin (machine.Begun start) cells new last'
  begins_at room e limit e' top at len st reached shown = (begun_at st start, s, record { store = store; sessions = sessions; top = omega arith }, λ known. top)
    where
      s : Step st machine.Begin (machine.Begun start) (begun_at st start)
      s = accepts (begin_ok (let n = shown.sessions.count in omega arith)) (machine.begins (let t = shown.top in omega arith, omega arith))

      store : ShowsCells cells (begun_at st start)
      store = shows_beside cells st (begun_at st start) (goes reached s) shown.store (λ y u m. m) (λ y u m. m) refl

      fresh : finmap.get st.active start ≡ None
      fresh = fresh_start cells old last start st reached shown e

      unused : btree.get nat_cmp old.sessions start ≡ None
      unused = unused_start cells old last start st reached shown e

      sessions : ShowsClients new (begun_at st start)
      sessions = record {
        top = same_low top;
        sessions = shows_changed st (begun_at st start) (btree.get nat_cmp old.sessions) (btree.get nat_cmp new.sessions) start (Some (open_session start)) at
            (λ t ne. get_other st.active start machine.Open t ne) (λ t ne. get_other st.begun start [] t ne) shown.sessions.sessions
            (record { start = refl; phase = get_same st.active start machine.Open; writes = get_same st.begun start [] });
        count = finmap.len-insert nat_cmp_total st.active start machine.Open ∙ (ap (λ o. cond (is_some o) (finmap.len st.active) (finmap.len st.active + 1)) fresh
            ∙ (ap (λ n. n + 1) shown.sessions.count ∙ sym (len ∙ ap (λ (o : Option Session). btree.btree_map_len old.sessions + (if is_some o then 0 else 1)) unused)));
      }

-- equal sessions show the same
pub shows_same : (cells : Cells) (old new : Clients) (last last' : ℕ) (st : State) → Shows cells old last st → new.top ≡ old.top → new.sessions.entries ≡ old.sessions.entries → last ≤ last' → Shows cells new last' st
shows_same cells old new last last' st shown top same le = record {
  store = shown.store;
  sessions = record {
    top = low_by top shown.sessions.top;
    sessions = λ t. subst (λ es. ShowsAt (lookup (btree.is_at (nat_cmp t)) es) t st) (sym same) (shown.sessions.sessions t);
    count = shown.sessions.count ∙ ap (λ es. length es) (sym same);
  };
  top = (let t = shown.top in omega arith);
}

pub stops_at : (cells : Cells) (old new : Clients) (last t : ℕ) (session : Session) → new.top ≡ old.top → btree.get nat_cmp old.sessions t ≡ Some session
    → ((q : ℕ) → btree.get nat_cmp new.sessions q ≡ cond (is_eq (nat_cmp t q)) None (btree.get nat_cmp old.sessions q))
    → btree.btree_map_len new.sessions + 1 ≡ btree.btree_map_len old.sessions
    → Steps cells old last (machine.Stop t) machine.StopDone cells new last
stops_at cells old new last t session top was at len st reached shown = (
  record st { active = finmap.remove st.active t },
  s,
  record {
    store = shows_beside cells st (record st { active = finmap.remove st.active t }) (goes reached s) shown.store (λ y u m. m) (λ y u m. m) refl;
    sessions = record {
      top = low_by top shown.sessions.top;
      sessions = shows_changed st (record st { active = finmap.remove st.active t }) (btree.get nat_cmp old.sessions) (btree.get nat_cmp new.sessions) t None at
          (λ u ne. get_remains st.active t u ne) (λ u ne. refl) shown.sessions.sessions (get_removed st.active t);
      count = finmap.len-remove nat_cmp_total st.active t ∙ (ap (λ o. cond (is_some o) (finmap.len st.active - 1) (finmap.len st.active)) phase ∙ (let n = shown.sessions.count in omega arith));
    };
    top = shown.top;
  },
  λ known. top ∙ known,
)
  where
    phase : InPhase st t (phase_of session.phase session.commit)
    phase = (subst (λ (o : Option Session). ShowsAt o t st) was (shown.sessions.sessions t)).phase

    s : Step st (machine.Stop t) machine.StopDone (record st { active = finmap.remove st.active t })
    s = accepts (stop_ok (phase_of session.phase session.commit) phase) (machine.stops phase)

kept_active : (ended : Bool) (m : finmap.FinMap nat_cmp machine.Phase) (k : ℕ) (p : machine.Phase) (t : ℕ) → t ≢ k → finmap.get (cond ended (finmap.remove m k) (finmap.insert m k p)) t ≡ finmap.get m t
kept_active true m k p t ne = get_remains m k t ne
kept_active false m k p t ne = get_other m k p t ne

-- the session at k after its step, by whether it ended
own : (ended : Bool) (st next : State) (session : Session) (k : ℕ) → next.active ≡ cond ended (finmap.remove st.active k) (finmap.insert st.active k (phase_of session.phase session.commit))
    → session.start ≡ k → machine.Wrote next k (writes_of session) → ShowsAt (cond ended None (Some session)) k next
own true st next session k active start wrote = ap (λ m. finmap.get m k) active ∙ get_removed st.active k
own false st next session k active start wrote = record { start = start; phase = ap (λ m. finmap.get m k) active ∙ get_same st.active k (phase_of session.phase session.commit); writes = wrote }

counted : (ended : Bool) (m : finmap.FinMap nat_cmp machine.Phase) (k n n' : ℕ) (p q : machine.Phase) → finmap.get m k ≡ Some q → finmap.len m ≡ n → n' + (if ended then 1 else 0) ≡ n
    → finmap.len (cond ended (finmap.remove m k) (finmap.insert m k p)) ≡ n'
counted true m k n n' p q there e f = finmap.len-remove nat_cmp_total m k ∙ (ap (λ o. cond (is_some o) (finmap.len m - 1) (finmap.len m)) there ∙ omega arith)
counted false m k n n' p q there e f = finmap.len-insert nat_cmp_total m k p ∙ (ap (λ o. cond (is_some o) (finmap.len m) (finmap.len m + 1)) there ∙ omega arith)

module _ (cells cells' : Cells) (old new : Clients) (last last' : ℕ) (session session' : Session) (outcome : Outcome) (takes : Advances cells session last outcome cells' session' last')
    (start : session'.start ≡ session.start) (writes : session'.writes ≡ session.writes) (top : new.top ≡ top_after old.top outcome.progress)
    (len : btree.btree_map_len new.sessions + (if outcome.ended then 1 else 0) ≡ btree.btree_map_len old.sessions) where
  abbrev Updated : ℕ → Type 0
  Updated t = (q : ℕ) → btree.get nat_cmp new.sessions q ≡ cond (is_eq (nat_cmp t q)) (cond outcome.ended None (Some session')) (btree.get nat_cmp old.sessions q)

  abbrev Goal : State → ℕ → Type 0
  Goal st t = (next : State) × Step st (machine.Advance t) (progress_reply outcome.progress) next × Shows cells' new last' next × (KnowsTop old st → KnowsTop new next)

  takes_own : (st : State) → IsReachedByServers st → Shows cells old last st → ShowsSession session session.start st → Updated session.start → Goal st session.start
  takes_own st reached shown mine at = (r.0, r.1, record { store = r.2; sessions = sessions; top = r.4 }, λ known. top ∙ (ap (λ (n : ℕ). top_after n outcome.progress) known ∙ sym r.3.top))
    where
      r : (next : State) × Step st (machine.Advance session.start) (progress_reply outcome.progress) next × ShowsCells cells' next × Follows st next session' outcome × (next.top ≤ last')
      r = takes st reached shown.store mine shown.top

      active : r.0.active ≡ cond outcome.ended (finmap.remove st.active session.start) (finmap.insert st.active session.start (phase_of session'.phase session'.commit))
      active = r.3.active ∙ ap (λ (n : ℕ). cond outcome.ended (finmap.remove st.active n) (finmap.insert st.active n (phase_of session'.phase session'.commit))) start

      wrote : machine.Wrote r.0 session.start (writes_of session')
      wrote = ap (λ m. finmap.get m session.start) r.3.begun ∙ (mine.writes ∙ ap (λ ws. Some (map write_of ws)) (sym writes))

      sessions : ShowsClients new r.0
      sessions = record {
        top = low_by top (subst (λ (n : ℕ). top_after old.top outcome.progress ≤ n) (sym r.3.top) (after_low outcome.progress old.top st.top shown.sessions.top));
        sessions = shows_changed st r.0 (btree.get nat_cmp old.sessions) (btree.get nat_cmp new.sessions) session.start (cond outcome.ended None (Some session')) at
            (λ t ne. ap (λ m. finmap.get m t) active ∙ kept_active outcome.ended st.active session.start (phase_of session'.phase session'.commit) t ne)
            (λ t ne. ap (λ m. finmap.get m t) r.3.begun) shown.sessions.sessions (own outcome.ended st r.0 session' session.start active start wrote);
        count = ap (λ m. finmap.len m) active
            ∙ counted outcome.ended st.active session.start (btree.btree_map_len old.sessions) (btree.btree_map_len new.sessions) (phase_of session'.phase session'.commit) (phase_of session.phase session.commit) mine.phase shown.sessions.count len;
      }

  pub takes_at : (t : ℕ) → btree.get nat_cmp old.sessions t ≡ Some session → Updated t → Steps cells old last (machine.Advance t) (progress_reply outcome.progress) cells' new last'
  takes_at t was at st reached shown =
      let h = subst (λ (o : Option Session). ShowsAt o t st) was (shown.sessions.sessions t) in
      subst (λ (u : ℕ). Updated u → Goal st u) h.start (takes_own st reached shown (subst (λ (u : ℕ). ShowsSession session u st) (sym h.start) h)) at

pub twice : {X : Type 0} (b : Bool) (a c x : X) → cond b a (cond b c x) ≡ cond b a x
twice true a c x = refl
twice false a c x = refl

no_items : {X : Type 0} (xs : List X) → length xs ≤ 0 → xs ≡ []
no_items [] h = refl
no_items (x ∷ xs) h = absurd (omega arith)

-- a step without a next write is a step of an Open session without writes
empty_step : (st : State) (t : ℕ) (session : Session) → IsReachedByServers st → ShowsSession session t st → HasNoNext session.phase (length session.writes) → Step st (machine.Advance t) (Refused EmptyCommit) st
empty_step st t session reached mine = by session.phase refl
  where
    counts : length (writes_of session) ≡ length session.writes
    counts = length-map session.writes write_of

    fits : (p : Phase) → session.phase ≡ p → FitsPhase (phase_of p session.commit) (length session.writes)
    fits p e = subst (λ (n : ℕ). FitsPhase (phase_of p session.commit) n) counts ((servers_bounds reached).fits t (phase_of p session.commit) (mine.phase ∙ ap (λ (p : Phase). Some (phase_of p session.commit)) e) (writes_of session) mine.writes)

    by : (p : Phase) → session.phase ≡ p → HasNoNext p (length session.writes) → Step st (machine.Advance t) (Refused EmptyCommit) st
    by Open e none = refuses (advance_empty_first machine.Open (mine.phase ∙ ap (λ (p : Phase). Some (phase_of p session.commit)) e) (mine.writes ∙ ap (λ xs. Some (map write_of xs)) (no_items session.writes none)))
    by (Holding k) e none = let f = fits (Holding k) e in absurd (none.1 (omega arith))
    by Stamped e none = let f = fits Stamped e in absurd (omega arith)
    by (Finishing k) e none = let f = fits (Finishing k) e in absurd (omega arith)

-- a refused step: the session is unchanged
pub steps_refused : (Holds : Type 0) (cells : Cells) (old new : Clients) (last last' t : ℕ) (session session' : Session) (e : Refusal) → btree.get nat_cmp old.sessions t ≡ Some session → session' ≡ session → new.top ≡ old.top
    → ((q : ℕ) → btree.get nat_cmp new.sessions q ≡ cond (is_eq (nat_cmp t q)) (Some session') (btree.get nat_cmp old.sessions q))
    → btree.btree_map_len new.sessions ≡ btree.btree_map_len old.sessions → last ≤ last'
    → IsAdvanceRefusal Holds (HasNoNext session.phase (length session.writes)) e → Steps cells old last (machine.Advance t) (Refused e) cells new last'
steps_refused Holds cells old new last last' t session session' e was same top at len le refusal st reached shown = (
  st,
  elim (advance_storage Holds (HasNoNext session.phase (length session.writes)) e refusal) [
    | inl (none, is) ↦ subst (λ (f : Refusal). Step st (machine.Advance t) (Refused f) st) (sym is) (empty_step st t session reached (subst (λ (o : Option Session). ShowsAt o t st) was (shown.sessions.sessions t)) none)
    | inr u ↦ refused_storage u
  ],
  record {
    store = shown.store;
    sessions = record {
      top = low_by top shown.sessions.top;
      sessions = shows_changed st st (btree.get nat_cmp old.sessions) (btree.get nat_cmp new.sessions) t (Some session') at (λ u ne. refl) (λ u ne. refl) shown.sessions.sessions
          (subst (λ (o : Option Session). ShowsAt o t st) (was ∙ ap (λ (s : Session). Some s) (sym same)) (shown.sessions.sessions t));
      count = shown.sessions.count ∙ sym len;
    };
    top = (let h = shown.top in omega arith);
  },
  λ known. top ∙ known,
)

pub reads_at : (cells : Cells) (clients : Clients) (last t : ℕ) (session : Session) (x : Cell) (r : Result Found Refusal) → btree.get nat_cmp clients.sessions t ≡ Some session → session.phase ≡ Open → IsRow x.row → IsFamily x.family
    → IfOk r (IsFound cells x t) → IfErr r IsReadRefusal → Steps cells clients last (machine.Get t x) (result_reply found_reply r) cells clients last
reads_at cells clients last t session x r was is_open row family ok refused st reached shown = by r ok refused
  where
    phase : InPhase st t machine.Open
    phase = (subst (λ (o : Option Session). ShowsAt o t st) was (shown.sessions.sessions t)).phase ∙ ap (λ (p : Phase). Some (phase_of p session.commit)) is_open

    after : (v : Option (List ℕ)) → Step st (machine.Get t x) (machine.Answered v) (after_read cells st reached shown.store t x v) × ShowsCells cells (after_read cells st reached shown.store t x v)
        → (next : State) × Step st (machine.Get t x) (machine.Answered v) next × Shows cells clients last next × (KnowsTop clients st → KnowsTop clients next)
    after v s = (
      after_read cells st reached shown.store t x v,
      s.0,
      record {
        store = s.1;
        sessions = record { top = shown.sessions.top; sessions = λ u. shows_other st (after_read cells st reached shown.store t x v) (btree.get nat_cmp clients.sessions u) u refl refl (shown.sessions.sessions u); count = shown.sessions.count };
        top = shown.top;
      },
      λ known. known,
    )

    by : (r : Result Found Refusal) → IfOk r (IsFound cells x t) → IfErr r IsReadRefusal → (next : State) × Step st (machine.Get t x) (result_reply found_reply r) next × Shows cells clients last next × (KnowsTop clients st → KnowsTop clients next)
    by (Ok (Pending u)) found e = (st, waits_at cells st reached shown.store x t u row family phase found.0 found.1, shown, λ known. known)
    by (Ok Nothing) found e = after None (elim found.1 [
      | inl none ↦ reads_nothing cells st reached shown.store x t row family phase found.0 none
      | inr deleted ↦ reads_deletion cells st reached shown.store x t row family phase found.0 deleted
    ])
    by (Ok (Value v)) found e = after (Some v.items) (reads_value cells st reached shown.store x t v.items row family phase found)
    by (Err f) found e = (st, refused_storage (read_storage f e), shown, λ known. known)

-- a request that is refused changes nothing
pub stays : (cells : Cells) (clients : Clients) (last : ℕ) (q : Request) (e : Refusal) → ((st : State) → IsReachedByServers st → Shows cells clients last st → Step st q (Refused e) st) → Steps cells clients last q (Refused e) cells clients last
stays cells clients last q e s st reached shown = (st, s st reached shown, shown, λ known. known)

pub shown_none : (clients : Clients) (t : ℕ) (st : State) → ShowsClients clients st → btree.get nat_cmp clients.sessions t ≡ None → finmap.get st.active t ≡ None
shown_none clients t st shown none = subst (λ (o : Option Session). ShowsAt o t st) none (shown.sessions t)

pub shown_some : (clients : Clients) (t : ℕ) (st : State) (session : Session) → ShowsClients clients st → btree.get nat_cmp clients.sessions t ≡ Some session → ShowsSession session t st
shown_some clients t st session shown was = subst (λ (o : Option Session). ShowsAt o t st) was (shown.sessions t)

pub open_phase : (clients : Clients) (t : ℕ) (st : State) → ShowsClients clients st → IsOpenSession clients t → InPhase st t machine.Open
open_phase clients t st shown open_at = (shown_some clients t st open_at.0 shown open_at.1).phase ∙ ap (λ (p : Phase). Some (phase_of p open_at.0.commit)) open_at.2

pub late_phase : (p : Phase) (c : ℕ) → p ≢ Open → phase_of p c ≢ machine.Open
late_phase Open c h e = h refl
late_phase (Holding k) c h e = cc
late_phase Stamped c h e = cc
late_phase (Finishing k) c h e = cc

-- a Get is refused before the cell is read
get_refused : (clients : Clients) (t : ℕ) (x : Cell) (st : State) → ShowsClients clients st → (e : Refusal) → IsCellRefusal clients t x e → Step st (machine.Get t x) (Refused e) st
get_refused clients t x st shown UnknownSession u = refuses (get_unknown_first (shown_none clients t st shown u))
get_refused clients t x st shown WrongPhase u = refuses (get_late_first (phase_of u.0.phase u.0.commit) (shown_some clients t st u.0 shown u.1).phase (late_phase u.0.phase u.0.commit u.2))
get_refused clients t x st shown BadRow u = refuses (get_row_first (open_phase clients t st shown u.0) u.1)
get_refused clients t x st shown BadColumn u = refuses (get_family_first (open_phase clients t st shown u.0) u.1.0 u.1.1)
get_refused clients t x st shown NoMemory u = refused_storage tt
get_refused clients t x st shown _ u = absurd u.1

pub get_refused_at : (cells : Cells) (clients : Clients) (last t : ℕ) (x : Cell) (e : Refusal) → IsCellRefusal clients t x e → Steps cells clients last (machine.Get t x) (Refused e) cells clients last
get_refused_at cells clients last t x e u = stays cells clients last (machine.Get t x) e (λ st reached shown. get_refused clients t x st shown.sessions e u)

-- a Set is refused before its value is checked
set_refused : (clients : Clients) (t : ℕ) (x : Cell) (v : List ℕ) (st : State) → ShowsClients clients st → (e : Refusal) → IsCellRefusal clients t x e → Step st (machine.Set t x v) (Refused e) st
set_refused clients t x v st shown UnknownSession u = refuses (set_unknown_first (shown_none clients t st shown u))
set_refused clients t x v st shown WrongPhase u = refuses (set_late_first (phase_of u.0.phase u.0.commit) (shown_some clients t st u.0 shown u.1).phase (late_phase u.0.phase u.0.commit u.2))
set_refused clients t x v st shown BadRow u = refuses (set_row_first (open_phase clients t st shown u.0) u.1)
set_refused clients t x v st shown BadColumn u = refuses (set_family_first (open_phase clients t st shown u.0) u.1.0 u.1.1)
set_refused clients t x v st shown NoMemory u = refused_storage tt
set_refused clients t x v st shown _ u = absurd u.1

pub set_refused_at : (cells : Cells) (clients : Clients) (last t : ℕ) (x : Cell) (v : List ℕ) (e : Refusal) → IsCellRefusal clients t x e → Steps cells clients last (machine.Set t x v) (Refused e) cells clients last
set_refused_at cells clients last t x v e u = stays cells clients last (machine.Set t x v) e (λ st reached shown. set_refused clients t x v st shown.sessions e u)

-- a Delete is refused before it is buffered
delete_refused : (clients : Clients) (t : ℕ) (x : Cell) (st : State) → ShowsClients clients st → (e : Refusal) → IsCellRefusal clients t x e → Step st (machine.Delete t x) (Refused e) st
delete_refused clients t x st shown UnknownSession u = refuses (delete_unknown_first (shown_none clients t st shown u))
delete_refused clients t x st shown WrongPhase u = refuses (delete_late_first (phase_of u.0.phase u.0.commit) (shown_some clients t st u.0 shown u.1).phase (late_phase u.0.phase u.0.commit u.2))
delete_refused clients t x st shown BadRow u = refuses (delete_row_first (open_phase clients t st shown u.0) u.1)
delete_refused clients t x st shown BadColumn u = refuses (delete_family_first (open_phase clients t st shown u.0) u.1.0 u.1.1)
delete_refused clients t x st shown NoMemory u = refused_storage tt
delete_refused clients t x st shown _ u = absurd u.1

pub delete_refused_at : (cells : Cells) (clients : Clients) (last t : ℕ) (x : Cell) (e : Refusal) → IsCellRefusal clients t x e → Steps cells clients last (machine.Delete t x) (Refused e) cells clients last
delete_refused_at cells clients last t x e u = stays cells clients last (machine.Delete t x) e (λ st reached shown. delete_refused clients t x st shown.sessions e u)

-- a Set is refused for its value
pub set_value_at : (cells : Cells) (clients : Clients) (last t : ℕ) (x : Cell) (v : List ℕ) (e : Refusal) → IsOpenSession clients t → IsRow x.row → IsFamily x.family
    → (e ≡ BadValue) ⊎ (e ≡ NoMemory) → (e ≡ BadValue → 65536 < length v) → Steps cells clients last (machine.Set t x v) (Refused e) cells clients last
set_value_at cells clients last t x v e open_at row family which long = stays cells clients last (machine.Set t x v) e (λ st reached shown. elim which [
  | inl is ↦ subst (λ (f : Refusal). Step st (machine.Set t x v) (Refused f) st) (sym is) (refuses (set_long_first (open_phase clients t st shown.sessions open_at) row family (long is)))
  | inr is ↦ subst (λ (f : Refusal). Step st (machine.Set t x v) (Refused f) st) (sym is) (refused_storage tt)
])

pub advance_unknown_at : (cells : Cells) (old new : Clients) (last t : ℕ) → new.top ≡ old.top → btree.get nat_cmp old.sessions t ≡ None → new.sessions.entries ≡ old.sessions.entries
    → Steps cells old last (machine.Advance t) (Refused UnknownSession) cells new last
advance_unknown_at cells old new last t top none same st reached shown = (st, refuses (advance_unknown_first (shown_none old t st shown.sessions none)), shows_same cells old new last last st shown top same (omega arith), λ known. top ∙ known)

pub with_none : (m n : ℕ) → m ≡ n → m + 0 ≡ n
with_none m n e = omega arith

pub stop_unknown_at : (cells : Cells) (old new : Clients) (last t : ℕ) → new.top ≡ old.top → btree.get nat_cmp old.sessions t ≡ None → new.sessions.entries ≡ old.sessions.entries
    → Steps cells old last (machine.Stop t) (Refused UnknownSession) cells new last
stop_unknown_at cells old new last t top none same st reached shown = (st, refuses (stop_unknown_first (shown_none old t st shown.sessions none)), shows_same cells old new last last st shown top same (omega arith), λ known. top ∙ known)

-- a Begin is refused: there are too many sessions, or the store refuses
pub begin_full_at : (cells : Cells) (clients : Clients) (last : ℕ) → 1024 ≤ btree.btree_map_len clients.sessions → Steps cells clients last machine.Begin (Refused TooManySessions) cells clients last
begin_full_at cells clients last full = stays cells clients last machine.Begin TooManySessions (λ st reached shown. refuses (begin_full_first (let n = shown.sessions.count in omega arith)))

pub begin_storage_at : (cells : Cells) (old new : Clients) (last last' : ℕ) (e : Refusal) → IsStorageRefusal e → new.top ≡ old.top → new.sessions.entries ≡ old.sessions.entries → last ≤ last'
    → Steps cells old last machine.Begin (Refused e) cells new last'
begin_storage_at cells old new last last' e u top same le st reached shown = (st, refused_storage u, shows_same cells old new last last' st shown top same le, λ known. top ∙ known)

-- a Begin is refused where its start isn't drawn: what stood at its start stands there again
module _ (old made new : Clients) (key : ℕ) (replaced : Option Session) (was : replaced ≡ btree.get nat_cmp old.sessions key)
    (put : (q : ℕ) → btree.get nat_cmp made.sessions q ≡ cond (is_eq (nat_cmp key q)) (Some (open_session key)) (btree.get nat_cmp old.sessions q))
    (back : (q : ℕ) → btree.get nat_cmp new.sessions q ≡ cond (is_eq (nat_cmp key q)) replaced (btree.get nat_cmp made.sessions q)) where
  pub undone_each : (t : ℕ) → btree.get nat_cmp new.sessions t ≡ btree.get nat_cmp old.sessions t
  undone_each t = elim (cases_eq t key) [
    | inl e ↦ subst (λ (n : ℕ). btree.get nat_cmp new.sessions n ≡ btree.get nat_cmp old.sessions n) (sym e) (upd_at (btree.get nat_cmp made.sessions) (btree.get nat_cmp new.sessions) key replaced back ∙ was)
    | inr ne ↦ upd_off (btree.get nat_cmp made.sessions) (btree.get nat_cmp new.sessions) key replaced back t ne ∙ upd_off (btree.get nat_cmp old.sessions) (btree.get nat_cmp made.sessions) key (Some (open_session key)) put t ne
  ]

undone_count : (n m k : ℕ) (o r : Option Session) → r ≡ o → m ≡ n + (if is_some o then 0 else 1) → k + (if is_some r then 0 else 1) ≡ m → n ≡ k
undone_count n m k None None same more less = omega arith
undone_count n m k (Some o) (Some r) same more less = omega arith
undone_count n m k None (Some r) same more less = cc
undone_count n m k (Some o) None same more less = cc

pub begin_undone_at : (cells : Cells) (old made new : Clients) (last last' key : ℕ) (e : Refusal) (replaced : Option Session) → IsStorageRefusal e → last ≤ last' → new.top ≡ old.top
    → replaced ≡ btree.get nat_cmp old.sessions key
    → ((t : ℕ) → btree.get nat_cmp new.sessions t ≡ btree.get nat_cmp old.sessions t)
    → btree.btree_map_len made.sessions ≡ btree.btree_map_len old.sessions + (if is_some (btree.get nat_cmp old.sessions key) then 0 else 1)
    → btree.btree_map_len new.sessions + (if is_some replaced then 0 else 1) ≡ btree.btree_map_len made.sessions
    → Steps cells old last machine.Begin (Refused e) cells new last'
begin_undone_at cells old made new last last' key e replaced u le top was each more less st reached shown = (
  st,
  refused_storage u,
  record {
    store = shown.store;
    sessions = record {
      top = low_by top shown.sessions.top;
      sessions = λ t. subst (λ (o : Option Session). ShowsAt o t st) (sym (each t)) (shown.sessions.sessions t);
      count = shown.sessions.count ∙ undone_count _ _ _ _ replaced was more less;
    };
    top = (let t = shown.top in omega arith);
  },
  λ known. top ∙ known,
)

-- the stored session at an open session's start is open
pub open_same : (clients : Clients) (t : ℕ) (session : Session) → btree.get nat_cmp clients.sessions t ≡ Some session → IsOpenSession clients t → session.phase ≡ Open
open_same clients t session was (open_session', at, is_open) = ap (λ (s : Session). s.phase) (same_Some session open_session' (sym was ∙ at)) ∙ is_open

-- without sessions
pub shows_new : (clients : Clients) (st : State) → clients.top ≤ st.top → st.active ≡ finmap.empty → clients.sessions.entries ≡ [] → ShowsClients clients st
shows_new clients st top none empty = record {
  top = top;
  sessions = λ t. subst (λ es. ShowsAt (lookup (btree.is_at (nat_cmp t)) es) t st) (sym empty) (ap (λ m. finmap.get m t) none ∙ finmap.get-empty nat_cmp t);
  count = ap (λ m. finmap.len m) none ∙ (finmap.len-empty nat_cmp machine.Phase ∙ ap (λ es. length es) (sym empty));
}

-- the least start that is stored, or the top plus one
kept_phase : (clients : Clients) (st : State) → ShowsClients clients st → (t : ℕ) (p : machine.Phase) → InPhase st t p → (o : Option Session) → btree.get nat_cmp clients.sessions t ≡ o → (session : Session) × (btree.get nat_cmp clients.sessions t ≡ Some session)
kept_phase clients st shown t p h None e = absurd (none-some p (sym (shown_none clients t st shown e) ∙ h))
kept_phase clients st shown t p h (Some session) e = (session, e)

pub floor_least : (clients : Clients) (st : State) → ShowsClients clients st → (t : ℕ) (session : Session) → btree.get nat_cmp clients.sessions t ≡ Some session
    → ((u : ℕ) (other : Session) → btree.get nat_cmp clients.sessions u ≡ Some other → t ≤ u) → machine.IsFloor st t
floor_least clients st shown t session was least =
    machine.least (shown_some clients t st session shown was).phase (λ u q h. let k = kept_phase clients st shown u q h (btree.get nat_cmp clients.sessions u) refl in least u k.0 k.1)

pub floor_none : (clients : Clients) (st : State) (n : ℕ) → ShowsClients clients st → KnowsTop clients st → ((t : ℕ) → btree.get nat_cmp clients.sessions t ≡ None) → n ≡ clients.top + 1 → machine.IsFloor st n
floor_none clients st n shown known none e =
    subst (λ (m : ℕ). machine.IsFloor st m) (let same : st.top + 1 ≡ n = omega (arith, known, e) in same) (machine.none_active (λ u q h. let k = kept_phase clients st shown u q h (btree.get nat_cmp clients.sessions u) refl in none-some k.0 (sym (none u) ∙ k.1)))

-- neither is above a session of the server that is active now or later
pub below_least : (clients : Clients) (st : State) → IsReachedByServers st → ShowsClients clients st → (t : ℕ) (session : Session) → btree.get nat_cmp clients.sessions t ≡ Some session
    → ((u : ℕ) (other : Session) → btree.get nat_cmp clients.sessions u ≡ Some other → t ≤ u) → IsBelowAll st t
below_least clients st reached shown t session was least = (
  low,
  λ u q h. let k = kept_phase clients st shown u q h (btree.get nat_cmp clients.sessions u) refl in least u k.0 k.1,
)
  where
    low : t ≤ st.top + 1
    low =
        let mine = shown_some clients t st session shown was in
        let under = (servers_sound reached).start_low t (writes_of session) mine.writes in
        omega arith

pub below_none : (clients : Clients) (st : State) (n : ℕ) → ShowsClients clients st → ((t : ℕ) → btree.get nat_cmp clients.sessions t ≡ None) → n ≡ clients.top + 1 → IsBelowAll st n
below_none clients st n shown none e = (
  (let top = shown.top in omega (arith, e)),
  λ u q h. let k = kept_phase clients st shown u q h (btree.get nat_cmp clients.sessions u) refl in absurd (none-some k.0 (sym (none u) ∙ k.1)),
)

some_none : {X : Type 0} (xs : List X) → (0 < length xs → false ≡ true) → xs ≡ []
some_none [] h = refl
some_none (x ∷ xs) h = absurd (no_both (h (omega arith)))
  where
    no_both : false ≡ true → ⊥
    no_both e = cc

pub none_kept : (clients : Clients) → (0 < btree.btree_map_len clients.sessions → false ≡ true) → (t : ℕ) → btree.get nat_cmp clients.sessions t ≡ None
none_kept clients h t = ap (lookup (btree.is_at (nat_cmp t))) (some_none clients.sessions.entries h)

-- the top plus one fits a number of eight bytes
pub within_words : (clients : Clients) (st : State) → IsReachedByServers st → ShowsClients clients st → min (clients.top + 1) (2 ^ 64 - 1) ≡ clients.top + 1
within_words clients st reached shown = let low = (servers_bounds reached).top in let same = shown.top in omega arith

-- with the same sessions
pub shows_along : (clients : Clients) (st next : State) → ShowsClients clients st → next.top ≡ st.top → next.begun ≡ st.begun → next.active ≡ st.active → ShowsClients clients next
shows_along clients st next shown top begun active = record {
  top = (let low = shown.top in omega (arith, top));
  sessions = λ t. shows_other st next (btree.get nat_cmp clients.sessions t) t (ap (λ m. finmap.get m t) active) (ap (λ m. finmap.get m t) begun) (shown.sessions t);
  count = ap (λ m. finmap.len m) active ∙ shown.count;
}

pub undamaged_at : (cells : Cells) (x : Cell) (t : ℕ) (r : Result Found Refusal) → IfErr r (λ e. e ≡ Damaged → IsDamaged cells x t) → (st : State) → IsReachedByServers st → ShowsCells cells st → ¬ (IsErrOf r Damaged)
undamaged_at cells x t (Ok f) h st reached shown e = cc
undamaged_at cells x t (Err e) h st reached shown f = undamaged cells st reached shown x t (h cc)

pub reads_open_at : (cells : Cells) (clients : Clients) (last t : ℕ) (x : Cell) (r : Result Found Refusal) → IsOpenSession clients t → IsRow x.row → IsFamily x.family
    → IfOk r (IsFound cells x t) → IfErr r IsReadRefusal → Steps cells clients last (machine.Get t x) (result_reply found_reply r) cells clients last
reads_open_at cells clients last t x r (session, was, is_open) row family ok refused = reads_at cells clients last t session x r was is_open row family ok refused

-- a step of the session that is shown at t touches only permitted keys
pub touches_at : (clients : Clients) (t : ℕ) (session : Session) (cells cells' : Cells) → btree.get nat_cmp clients.sessions t ≡ Some session → TouchesBy session.phase cells cells' session.start session.commit
    → (st : State) → ShowsClients clients st → TouchesFor st t cells cells'
touches_at clients t session cells cells' was touched st shown = by session.phase refl touched
  where
    mine : ShowsSession session t st
    mine = shown_some clients t st session shown was

    in_phase : (p : Phase) → session.phase ≡ p → InPhase st t (phase_of p session.commit)
    in_phase p e = subst (λ (p : Phase). InPhase st t (phase_of p session.commit)) e mine.phase

    by : (p : Phase) → session.phase ≡ p → TouchesBy p cells cells' session.start session.commit → TouchesFor st t cells cells'
    by Open e h = inr (inl (subst (λ (n : ℕ). TouchesOneRow cells cells' n n) mine.start h))
    by (Holding k) e h = inr (inl (subst (λ (n : ℕ). TouchesOneRow cells cells' n n) mine.start h))
    by Stamped e h = inr (inr (session.commit, inl (in_phase Stamped e), subst (λ (n : ℕ). TouchesOneRow cells cells' n session.commit) mine.start h))
    by (Finishing k) e h = inr (inr (session.commit, inr (k, in_phase (Finishing k) e), subst (λ (n : ℕ). TouchesOneRow cells cells' n session.commit) mine.start h))

-- if the machine is about to draw, so is the session that is shown
held_count : (p : Phase) (c n : ℕ) → phase_of p c ≡ machine.Holding n → p ≡ Holding n
held_count Open c n e = cc
held_count (Holding k) c n e = ap Holding (same_held k n e)
  where
    same_held : (k n : ℕ) → machine.Holding k ≡ machine.Holding n → k ≡ n
    same_held k n e = cc
held_count Stamped c n e = cc
held_count (Finishing k) c n e = cc

pub draws_next : (clients : Clients) (t : ℕ) (session : Session) (st : State) → btree.get nat_cmp clients.sessions t ≡ Some session → ShowsClients clients st → IsAboutToDraw st t → session.phase ≡ Holding (length session.writes)
draws_next clients t session st was shown (ws, w, h) =
    let mine = shown_some clients t st session shown was in
    let same = same_entry st.begun t ws (writes_of session) w mine.writes in
    held_count session.phase session.commit (length session.writes)
    (same_Some (phase_of session.phase session.commit) (machine.Holding (length session.writes)) (sym mine.phase ∙ (h ∙ ap (λ (n : ℕ). Some (machine.Holding n)) (ap (λ xs. length xs) same ∙ length-map session.writes write_of))))

pub never_draws : (clients : Clients) (t : ℕ) (st : State) → btree.get nat_cmp clients.sessions t ≡ None → ShowsClients clients st → ¬ IsAboutToDraw st t
never_draws clients t st none shown (ws, w, h) = none-some _ (sym (shown_none clients t st shown none) ∙ h)

abbrev given_at : State → ℕ → Session → State
given_at st t session = record st { begun = finmap.insert st.begun t (writes_of session) }

-- a Set or a Delete: the writes of an open session change
module _ (cells : Cells) (old new : Clients) (last t : ℕ) (session session' : Session) (x : Cell) (was : btree.get nat_cmp old.sessions t ≡ Some session) (is_open : session.phase ≡ Open)
    (start : session'.start ≡ session.start) (commit : session'.commit ≡ session.commit) (phase : session'.phase ≡ session.phase)
    (row : IsRow x.row) (family : IsFamily x.family) (top : new.top ≡ old.top)
    (at : (q : ℕ) → btree.get nat_cmp new.sessions q ≡ cond (is_eq (nat_cmp t q)) (Some session') (btree.get nat_cmp old.sessions q))
    (len : btree.btree_map_len new.sessions ≡ btree.btree_map_len old.sessions) where
  open_now : (st : State) → ShowsClients old st → InPhase st t machine.Open
  open_now st shown = open_phase old t st shown (session, was, is_open)

  counts : length (writes_of session) ≡ length session.writes
  counts = length-map session.writes write_of

  -- the machine takes such a step
  buffers : (q : Request) (r : Reply) → ((st : State) → Shows cells old last st → Step st q r (given_at st t session')) → Steps cells old last q r cells new last
  buffers q r steps st reached shown = (
    given_at st t session',
    steps st shown,
    record {
      store = shows_beside cells st (given_at st t session') (goes reached (steps st shown)) shown.store (λ y u m. m) (λ y u m. m) refl;
      sessions = record {
        top = low_by top shown.sessions.top;
        sessions = shows_changed st (given_at st t session') (btree.get nat_cmp old.sessions) (btree.get nat_cmp new.sessions) t (Some session') at (λ u ne. refl) (λ u ne. get_other st.begun t (writes_of session') u ne) shown.sessions.sessions
            (record { start = start ∙ mine.start; phase = mine.phase ∙ (λ i. Some (phase_of (sym phase i) (sym commit i))); writes = get_same st.begun t (writes_of session') });
        count = shown.sessions.count ∙ sym len;
      };
      top = shown.top;
    },
    λ known. top ∙ known,
  )
    where
      mine : ShowsSession session t st
      mine = shown_some old t st session shown.sessions was

  -- a refusal leaves the writes unchanged
  keeps : (q : Request) (e : Refusal) → session'.writes ≡ session.writes → ((st : State) → Shows cells old last st → Step st q (Refused e) st) → Steps cells old last q (Refused e) cells new last
  keeps q e same steps st reached shown = (
    st,
    steps st shown,
    record {
      store = shown.store;
      sessions = record {
        top = low_by top shown.sessions.top;
        sessions = shows_changed st st (btree.get nat_cmp old.sessions) (btree.get nat_cmp new.sessions) t (Some session') at (λ u ne. refl) (λ u ne. refl) shown.sessions.sessions
            (record { start = start ∙ mine.start; phase = mine.phase ∙ (λ i. Some (phase_of (sym phase i) (sym commit i))); writes = mine.writes ∙ ap (λ ws. Some (map write_of ws)) (sym same) });
        count = shown.sessions.count ∙ sym len;
      };
      top = shown.top;
    },
    λ known. top ∙ known,
  )
    where
      mine : ShowsSession session t st
      mine = shown_some old t st session shown.sessions was

  mine_at : (st : State) → Shows cells old last st → ShowsSession session t st
  mine_at st shown = shown_some old t st session shown.sessions was

  few : Names (writes_of session) x ⊎ (length session.writes < 256) → Names (writes_of session) x ⊎ (length (writes_of session) < 256)
  few room = elim room [ inl named ↦ inl named | inr less ↦ inr (omega (arith, counts)) ]

  -- the result of the call of `set`
  abbrev Told : Change → Result (Unit {0}) Refusal → Type 0
  Told v r = OnOk r (Sets x v (writes_of session) (writes_of session'))

  pub sets_at : (v : List ℕ) → length v ≤ 65536 → (r : Result (Unit {0}) Refusal) → Told (Some v) r → OnOk r (Names (writes_of session) x ⊎ (length session.writes < 256)) → OnErr r (session'.writes ≡ session.writes)
      → IfErr r (λ e. (e ≡ TooManyWrites) ⊎ (e ≡ NoMemory)) → (IsErrOf r TooManyWrites → (256 ≤ length session.writes) × ¬ Names (writes_of session) x)
      → Steps cells old last (machine.Set t x v) (result_reply (λ _. machine.SetDone) r) cells new last
  sets_at v short (Ok u) by room same which full = buffers (machine.Set t x v) machine.SetDone (λ st shown.
      let w = (mine_at st shown).writes in
      accepts (set_ok (writes_of session) (open_now st shown.sessions) row family short w (few room)) (machine.sets (open_now st shown.sessions) w by))
  sets_at v short (Err e) by room same which full = keeps (machine.Set t x v) e same (λ st shown. elim which [
    | inl is ↦ let f = full (ap Err is) in
        subst (λ (g : Refusal). Step st (machine.Set t x v) (Refused g) st) (sym is)
        (refuses (set_full_first (open_now st shown.sessions) row family short (writes_of session) (mine_at st shown).writes f.1 (let n = f.0 in omega (arith, counts))))
    | inr is ↦ subst (λ (g : Refusal). Step st (machine.Set t x v) (Refused g) st) (sym is) (refused_storage tt)
  ])

  pub deletes_at : (r : Result (Unit {0}) Refusal) → Told None r → OnOk r (Names (writes_of session) x ⊎ (length session.writes < 256)) → OnErr r (session'.writes ≡ session.writes)
      → IfErr r (λ e. (e ≡ TooManyWrites) ⊎ (e ≡ NoMemory)) → (IsErrOf r TooManyWrites → (256 ≤ length session.writes) × ¬ Names (writes_of session) x)
      → Steps cells old last (machine.Delete t x) (result_reply (λ _. machine.DeleteDone) r) cells new last
  deletes_at (Ok u) by room same which full = buffers (machine.Delete t x) machine.DeleteDone (λ st shown.
      let w = (mine_at st shown).writes in
      accepts (delete_ok (writes_of session) (open_now st shown.sessions) row family w (few room)) (machine.deletes (open_now st shown.sessions) w by))
  deletes_at (Err e) by room same which full = keeps (machine.Delete t x) e same (λ st shown. elim which [
    | inl is ↦ let f = full (ap Err is) in
        subst (λ (g : Refusal). Step st (machine.Delete t x) (Refused g) st) (sym is)
        (refuses (delete_full_first (open_now st shown.sessions) row family (writes_of session) (mine_at st shown).writes f.1 (let n = f.0 in omega (arith, counts))))
    | inr is ↦ subst (λ (g : Refusal). Step st (machine.Delete t x) (Refused g) st) (sym is) (refused_storage tt)
  ])
