-- A transaction in one call, where cells and sessions show the machine's state.
use Rattle.std.proofs.Common.{◌≡◌, ◌≢◌, ◌∙◌, ℕ, ◌+◌, ◌-◌, ◌<◌, ◌≤◌, ◌^◌, inl, inr, cond, List, [], ◌∷◌, length, map, Option, Some, None, refl, sym, subst, ap, arith}
use Rattle.std.specs.Prelude.{slice_get, option_map, is_some, IfNone, IfSome}
use Rattle.std.specs.Ordering.{nat_cmp}
use Rattle.std.specs.Cmp.{nat_cmp_total}
use Rattle.std.specs.BTreeMap as btree
use Rattle.std.specs.FinMap.{FinMap, get, insert, remove, len, len-remove, same_map, nat_cmp-IsAntisymmetric}
use Rattle.std.proofs.lemmas.Bool.{cases_eq}
use Rattle.std.proofs.lemmas.List.{length-map}
use Rattle.std.proofs.lemmas.Option.{none-some, same_Some, slice_get-map, slice_get_within}
use Rattle.cell_key.specs.Cells.{Cells}
use Rattle.cell_key.specs.declared.refusals.Refusal.{Refusal}
use Rattle.cell_key.specs.declared.refusals.Refusal.TheVariants.{UnknownSession, WrongPhase, TooManySessions, EmptyCommit, Exhausted, NoMemory}
use Rattle.si_model.specs.Machine as machine
use Rattle.si_model.specs.Machine.{State, Change, Writes, Open, Wrote, Puts, Gives, Clashes, IsStorageRefusal, Refused, StopDone, Step, accepts, stops}
use Rattle.si_model.specs.PutCells.{all_put_cells}
use Rattle.si_model.specs.Servers.{IsReachedByServers}
use Rattle.si_model.specs.ShowsCells.{ShowsCells}
use Rattle.si_model.specs.TransactionLaws.{committed_state}
use Rattle.si_model.specs.Transactions.{Answer, Goes, Commit, Said, CommitDone, CommitConflict, Opens, is_unknown, is_late, conflicts, refuses, to_begin, to_write, to_step, transacts, ClashesFirst}
use Rattle.si_model.specs.Transactions.{gives_up as gives_up_all}
use Rattle.si_model.specs.declared.replies.Cell.{Cell}
use Rattle.si_model.proofs.Acceptable.{stop_ok}
use Rattle.si_model.proofs.AtOnce.{Opened, servers_opened, buffered, puts_at_once}
use Rattle.si_model.proofs.FirstRefusals.{begin_full_first, advance_empty_first}
use Rattle.si_model.proofs.Goes.{goes}
use Rattle.si_model.proofs.ShownKept.{shows_beside}
use Rattle.si_model.proofs.Steps.{servers_sound}
use Rattle.si_model.proofs.TakenWrites.{Taken, refuses_write, take_all}
use Rattle.si_model.proofs.Tools.{get_same, get_other, get_removed, get_remains}
use Rattle.txn_client.specs.Commits.{CommitsIn, EndsAt, IsCommitStamp, IsCopyRefusal}
use Rattle.txn_client.specs.Reads.{IsFree}
use Rattle.txn_client.specs.Shows.{phase_of, KnowsTop, Shows, ShowsAt, ShowsClients, ShowsSession}
use Rattle.txn_client.specs.Takings.{AreFree, IsFirstTaken}
use Rattle.si_model.specs.Takings.{IsRefusedWrite, TakesAll}
use Rattle.txn_client.specs.Transactions.{GoesAs, HasSession}
use Rattle.txn_client.specs.Writes.{write_of}
use Rattle.txn_client.specs.declared.session.Session.{Session}
use Rattle.txn_client.specs.declared.sessions.Clients.{Clients}
use Rattle.txn_client.specs.declared.writes.Write.{Write}
use Rattle.txn_client.proofs.Advance.{free_open, taken_clash}
use Rattle.txn_client.proofs.ReadsShown.{opens_named, opens_new}
use Rattle.txn_client.proofs.Table.{begun_at, late_phase, low_by, same_low, shown_none, shown_some, shows_changed}

-- ---- the session has taken its writes

same_top : {s : ℕ} {st next : State} {all : Writes} → Taken s st next all → next.top ≡ st.top
same_top taken = ap (λ (m : State). m.top) taken.rest

same_active : {s : ℕ} {st next : State} {all : Writes} → Taken s st next all → next.active ≡ st.active
same_active taken = ap (λ (m : State). m.active) taken.rest

module _ (cells : Cells) (s : ℕ) where
  -- ---- which of its cells are free

  -- the write that the machine has at an index
  at_index : (ws : List Write) (k : ℕ) (y : Cell) (v : Change) → Puts (map write_of ws) k y v → (w : Write) × (slice_get ws k ≡ Some w) × (w.cell ≡ y)
  at_index ws k y v puts = go (slice_get ws k) refl
    where
      go : (o : Option Write) → slice_get ws k ≡ o → (w : Write) × (slice_get ws k ≡ Some w) × (w.cell ≡ y)
      go None e = absurd (none-some (y, v) (sym (slice_get-map write_of ws k ∙ ap (option_map write_of) e) ∙ puts))
      go (Some w) e = (w, e, ap (λ (p : Cell × Change). p.0) (same_Some (write_of w) (y, v) (sym (slice_get-map write_of ws k ∙ ap (option_map write_of) e) ∙ puts)))

  module _ (st : State) (o : Opened IsReachedByServers cells s st) (ws : List Write) (wrote : Wrote st s (map write_of ws)) where
    none_clash : (n : ℕ) → AreFree cells s ws n → (j : ℕ) (y : Cell) (v : Change) → j < n → Puts (map write_of ws) j y v → ¬ Clashes st y s
    none_clash n free j y v less puts =
        let w = at_index ws j y v puts in
        free_open cells st o.reached o.shown y s Open o.active (subst (λ (z : Cell). IsFree cells z s) w.2 (free j w.0 less w.1))

    pub clashes_first : (place : ℕ) → IsFirstTaken cells s ws place → ClashesFirst st s place
    clashes_first place (k, w, there, is, taken, free) =
        (map write_of ws, k, w.cell, w.value, wrote, slice_get-map write_of ws k ∙ ap (option_map write_of) there, is, taken_clash cells st o.reached o.shown w.cell s (map write_of ws) wrote taken, none_clash k free)

    pub all_free : AreFree cells s ws (length ws) → (y : Cell) (v : Change) → Gives (map write_of ws) y v → ¬ Clashes st y s
    all_free free y v (j, puts) = none_clash (length ws) free j y v (let low = slice_get_within (map write_of ws) j (y, v) puts in let count = length-map ws write_of in omega (arith, low, count)) puts

-- ---- the session of a transaction

-- a session that began and has ended leaves the sessions as they were
gone_again : {X : Type 0} (m : FinMap nat_cmp X) (s : ℕ) (p : X) → get m s ≡ None → remove (insert m s p) s ≡ m
gone_again m s p none = same_map nat_cmp_total nat_cmp-IsAntisymmetric (remove (insert m s p) s) m each
  where
    each : (u : ℕ) → get (remove (insert m s p) s) u ≡ get m u
    each u = elim (cases_eq u s) [
      | inl e ↦ subst (λ (u : ℕ). get (remove (insert m s p) s) u ≡ get m u) (sym e) (get_removed (insert m s p) s ∙ sym none)
      | inr ne ↦ get_remains (insert m s p) s u ne ∙ get_other m s p u ne
    ]

module _ (cells : Cells) (clients : Clients) (last start s : ℕ) (before : List Write) (has : CommitsIn clients last start s before) where
  pub starts_at : start ≢ 0 → (st : State) → ShowsClients clients st → s ≡ start
  starts_at ne st shown = let o = has.is_open ne in o.3 ∙ (shown_some clients start st o.0 shown o.1).start

  has_session : (st : State) → ShowsClients clients st → HasSession clients last start s
  has_session st shown = record {
    is_open = λ ne. let o = has.is_open ne in (starts_at ne st shown, (o.0, o.1, o.2));
    is_new = λ e. let n = has.is_new e in (n.0, n.1, n.2);
  }

  -- a state in which the session is open and has its writes, and what it leaves when it has ended
  record Ready (st mid : State) : Type 0 where
    opens : Opens st start s mid
    wrote : Wrote mid s (map write_of before)
    kept : (n : ℕ) → (start ≢ 0 → n ≡ clients.top) → (start ≡ 0 → n ≡ last + 1) → (n ≤ mid.top) × (KnowsTop clients st → n ≡ mid.top)
    under : (n : ℕ) → (start ≢ 0 → n ≡ last) → (start ≡ 0 → n ≡ last + 1) → mid.top ≤ n
    below : (n : ℕ) → IsCommitStamp last start n → mid.top < n
    ends : (written next : State) (all : Writes) → Taken s mid written all → next.begun ≡ written.begun → next.active ≡ remove written.active s → (clients' : Clients) (n : ℕ) → n ≤ next.top → EndsAt clients clients' start n → ShowsClients clients' next

  module _ (st : State) (reached : IsReachedByServers st) (shown : Shows cells clients last st) where
    module _ (is0 : start ≡ 0) where
      next_start : s ≡ last + 1
      next_start = (has.is_new is0).0

      unused : get st.active s ≡ None
      unused = go (get st.active s) refl
        where
          go : (p : Option machine.Phase) → get st.active s ≡ p → get st.active s ≡ None
          go None e = e
          go (Some p) e =
              let b = (servers_sound reached).has_begun s p e in
              let old = (servers_sound reached).start_low s b.0 b.1 in
              let next = next_start in
              let top = shown.top in
              absurd (omega (arith, old, next, top))

      ends_new : (written next : State) (all : Writes) → Taken s (begun_at st s) written all → next.begun ≡ written.begun → next.active ≡ remove written.active s → (clients' : Clients) (n : ℕ) → n ≤ next.top → EndsAt clients clients' start n → ShowsClients clients' next
      ends_new written next all taken begun active clients' n low ends = subst (λ (k : Clients). ShowsClients k next) (sym (ends.new_ends is0)) now
        where
          same : next.active ≡ st.active
          same = active ∙ (ap (λ (m : FinMap nat_cmp machine.Phase). remove m s) (same_active taken) ∙ gone_again st.active s Open unused)

          at : (u : ℕ) (kept : Option Session) → ShowsAt kept u st → ShowsAt kept u next
          at u None h = ap (λ (m : FinMap nat_cmp machine.Phase). get m u) same ∙ h
          at u (Some session) h = record {
            start = h.start;
            phase = ap (λ (m : FinMap nat_cmp machine.Phase). get m u) same ∙ h.phase;
            writes = ap (λ (m : FinMap nat_cmp Writes). get m u) begun ∙ (taken.others u other ∙ (get_other st.begun s [] u other ∙ h.writes));
          }
            where
              other : u ≢ s
              other e = none-some (phase_of session.phase session.commit) (sym unused ∙ subst (λ (u : ℕ). get st.active u ≡ Some (phase_of session.phase session.commit)) e h.phase)

          now : ShowsClients (record clients { top = n }) next
          now = record {
            top = low;
            sessions = λ u. at u (btree.get nat_cmp clients.sessions u) (shown.sessions.sessions u);
            count = ap (λ (m : FinMap nat_cmp machine.Phase). len m) same ∙ shown.sessions.count;
          }

      ready_new : Ready st (begun_at st s)
      ready_new = record {
        opens = opens_new cells clients last start st reached shown s is0 (has_session st shown.sessions);
        wrote = subst (λ (ws : List Write). Wrote (begun_at st s) s (map write_of ws)) (sym (has.is_new is0).3) (get_same st.begun s []);
        kept = λ n named new. let e = new is0 ∙ sym next_start in (same_low e, λ known. e);
        under = λ n named new. let next = next_start in let is = new is0 in omega (arith, next, is);
        below = λ n stamp. let next = next_start in let is = stamp.new is0 in omega (arith, next, is);
        ends = ends_new;
      }

    module _ (ne : start ≢ 0) where
      abbrev session : Session
      session = (has.is_open ne).0

      was : btree.get nat_cmp clients.sessions start ≡ Some session
      was = (has.is_open ne).1

      mine : ShowsSession session start st
      mine = shown_some clients start st session shown.sessions was

      starts : s ≡ start
      starts = starts_at ne st shown.sessions

      ends_named : (written next : State) (all : Writes) → Taken s st written all → next.begun ≡ written.begun → next.active ≡ remove written.active s → (clients' : Clients) (n : ℕ) → n ≤ next.top → EndsAt clients clients' start n → ShowsClients clients' next
      ends_named written next all taken begun active clients' n low ends = record {
        top = low_by ends.top low;
        sessions = shows_changed st next (btree.get nat_cmp clients.sessions) (btree.get nat_cmp clients'.sessions) start None (ends.updates ne).0 (λ u other. ap (λ (m : FinMap nat_cmp machine.Phase). get m u) same ∙ get_remains st.active start u other)
            (λ u other. ap (λ (m : FinMap nat_cmp Writes). get m u) begun ∙ taken.others u (λ e. other (e ∙ starts))) shown.sessions.sessions (ap (λ (m : FinMap nat_cmp machine.Phase). get m start) same ∙ get_removed st.active start);
        count = ap (λ (m : FinMap nat_cmp machine.Phase). len m) same ∙ (len-remove nat_cmp_total st.active start ∙ (ap (λ o. cond (is_some o) (len st.active - 1) (len st.active)) mine.phase ∙ fewer));
      }
        where
          same : next.active ≡ remove st.active start
          same = active ∙ (ap (λ (m : FinMap nat_cmp machine.Phase). remove m s) (same_active taken) ∙ ap (λ (n : ℕ). remove st.active n) starts)

          fewer : len st.active - 1 ≡ btree.btree_map_len clients'.sessions
          fewer = let n = shown.sessions.count in let l = ends.len ne session was in omega (arith, n, l)

      ready_named : Ready st st
      ready_named = record {
        opens = opens_named cells clients last start st reached shown s ne (has_session st shown.sessions);
        wrote = subst (λ (p : ℕ × List Write). Wrote st p.0 (map write_of p.1)) (λ j. (sym starts j, sym (has.is_open ne).4 j)) mine.writes;
        kept = λ n named new. (low_by (named ne) shown.sessions.top, λ known. named ne ∙ known);
        under = λ n named new. let top = shown.top in let is = named ne in omega (arith, top, is);
        below = λ n stamp. let top = shown.top in let is = stamp.named ne in omega (arith, top, is);
        ends = ends_named;
      }

    ready : (mid : State) × Ready st mid
    ready = elim (cases_eq start 0) [ inl is0 ↦ (begun_at st s, ready_new is0) | inr ne ↦ (st, ready_named ne) ]

-- ---- a transaction

module _ (cells cells' : Cells) (clients : Clients) (last last' start : ℕ) (asked : Writes) where
  abbrev pub Answers : Answer → Clients → Type 0
  Answers answer clients' = GoesAs cells clients last (Commit start asked) answer cells' clients' last'

  kept : (st : State) → cells' ≡ cells → last ≤ last' → Shows cells clients last st → Shows cells' clients last' st
  kept st same le shown = record { store = subst (λ (m : Cells). ShowsCells m st) (sym same) shown.store; sessions = shown.sessions; top = (let t = shown.top in omega (arith, t, le)) }

  pub storage_at : cells' ≡ cells → last ≤ last' → (e : Refusal) → IsStorageRefusal e → Answers (Said (Refused e)) clients
  storage_at same le e why st reached shown = (st, transacts (gives_up_all why), kept st same le shown, λ known. known)

  module _ (s : ℕ) (before : List Write) (has : CommitsIn clients last start s before) where
    module _ (st : State) (reached : IsReachedByServers st) (shown : Shows cells clients last st) where
      abbrev mid : State
      mid = (ready cells clients last start s before has st reached shown).0

      on : Ready cells clients last start s before has st mid
      on = (ready cells clients last start s before has st reached shown).1

      o : Opened IsReachedByServers cells s mid
      o = servers_opened cells s st mid start reached shown.store on.opens

    pub write_refused_at : cells' ≡ cells → last ≤ last' → (e : Refusal) → IsRefusedWrite (map write_of before) asked e → Answers (Said (Refused e)) clients
    write_refused_at same le e r st reached shown =
        let far = take_all s r.first (mid st reached shown) (map write_of before) r.mid (o st reached shown).active (on st reached shown).wrote r.taken in
        (st, transacts (refuses (to_write r.write.0 r.write.1 r.rest r.split (on st reached shown).opens far.1) (refuses_write s far.0 r.write.0 r.write.1 r.mid e (buffered cells s far.1 (o st reached shown)).active far.2.wrote r.why)), kept st same le shown, λ known. known)

    pub empty_at : cells' ≡ cells → last ≤ last' → TakesAll (map write_of before) asked [] → Answers (Said (Refused EmptyCommit)) clients
    empty_at same le is_taken st reached shown =
        let far = take_all s asked (mid st reached shown) (map write_of before) [] (o st reached shown).active (on st reached shown).wrote is_taken in
        (st, transacts (refuses (to_step (on st reached shown).opens far.1) (advance_empty_first Open (buffered cells s far.1 (o st reached shown)).active far.2.wrote)), kept st same le shown, λ known. known)

    module _ (ws : List Write) (is_taken : TakesAll (map write_of before) asked (map write_of ws)) where
      pub conflict_at : cells' ≡ cells → (clients' : Clients) (now place : ℕ) → EndsAt clients clients' start now → (start ≢ 0 → now ≡ clients.top) → (start ≡ 0 → now ≡ last + 1) → (start ≢ 0 → last' ≡ last) → (start ≡ 0 → last' ≡ last + 1)
          → IsFirstTaken cells s ws place → Answers (CommitConflict s place) clients'
      conflict_at same clients' now place ended named new stays drawn first st reached shown =
          let far = take_all s asked (mid st reached shown) (map write_of before) (map write_of ws) (o st reached shown).active (on st reached shown).wrote is_taken in
          let written = far.0 in
          let still = buffered cells s far.1 (o st reached shown) in
          let next : State = record written { active = remove written.active s } in
          let end : Step written (machine.Stop s) StopDone next = accepts (stop_ok Open still.active) (stops still.active) in
          let kept = (on st reached shown).kept now named new in
          let same_now = same_top far.2 in (
            next,
            transacts (conflicts (on st reached shown).opens far.1 (clashes_first cells s written still ws far.2.wrote place first) end),
            record {
              store = subst (λ (m : Cells). ShowsCells m next) (sym same) (shows_beside cells written next (goes still.reached end) still.shown (λ y u m. m) (λ y u m. m) refl);
              sessions = (on st reached shown).ends written next (map write_of ws) far.2 refl refl clients' now (subst (λ (n : ℕ). now ≤ n) (sym same_now) kept.0) ended;
              top = let is = same_top far.2 in let low = (on st reached shown).under last' stays drawn in omega (arith, is, low);
            },
            λ known. ended.top ∙ (kept.1 known ∙ sym same_now),
          )

      pub commit_at : (c : ℕ) (clients' : Clients) → IsCommitStamp last start c → c < 2 ^ 63 → last' ≡ c → 1 ≤ length ws → AreFree cells s ws (length ws) → cells' ≡ all_put_cells cells (map write_of ws) s c → EndsAt clients clients' start c → Answers (CommitDone s c) clients'
      commit_at c clients' stamp limit drawn some free made ended st reached shown =
          let all = map write_of ws in
          let far = take_all s asked (mid st reached shown) (map write_of before) all (o st reached shown).active (on st reached shown).wrote is_taken in
          let written = far.0 in
          let still = buffered cells s far.1 (o st reached shown) in
          let next : State = committed_state written s c all in
          let is = same_top far.2 in
          let low = (on st reached shown).below c stamp in
          let count = length-map ws write_of in
          let done = puts_at_once cells st (mid st reached shown) written start s c asked all reached shown.store (on st reached shown).opens far.1 far.2.wrote (omega (arith, some, count)) (all_free cells s written still ws far.2.wrote free) (omega (arith, is, low), limit) in (
            next,
            transacts done.0,
            record {
              store = subst (λ (m : Cells). ShowsCells m next) (sym made) done.1;
              sessions = (on st reached shown).ends written next all far.2 refl refl clients' c (same_low refl) ended;
              top = omega (arith, drawn);
            },
            λ known. ended.top,
          )

-- ---- a session that isn't found, or can't be copied

module _ (cells : Cells) (clients : Clients) (last start : ℕ) (asked : Writes) where
  session_refuses : (st : State) → ShowsClients clients st → (e : Refusal) → IsCopyRefusal clients last start e → Goes st (Commit start asked) (Said (Refused e)) st
  session_refuses st shown UnknownSession why = transacts (is_unknown why.0 (shown_none clients start st shown why.1))
  session_refuses st shown WrongPhase why = let late = why.1 in transacts (is_late why.0 (shown_some clients start st late.0 shown late.1).phase (late_phase late.0.phase late.0.commit late.2))
  session_refuses st shown TooManySessions why =
      let many = why.1 in
      let count = shown.count in
      subst (λ (n : ℕ). Goes st (Commit n asked) (Said (Refused TooManySessions)) st) (sym why.0) (transacts (refuses to_begin (begin_full_first (omega (arith, many, count)))))
  session_refuses st shown Exhausted why = transacts (gives_up_all tt)
  session_refuses st shown NoMemory why = transacts (gives_up_all tt)
  session_refuses st shown _ why = absurd why

  pub session_refused_at : (e : Refusal) → IsCopyRefusal clients last start e → GoesAs cells clients last (Commit start asked) (Said (Refused e)) cells clients last
  session_refused_at e why st reached shown = (st, session_refuses st shown.sessions e why, shown, λ known. known)

-- ---- the same, by what the call has

pub taken_none : (before ws : List Write) (asked : Writes) (n : ℕ) → n ≡ length ws → n ≡ 0 → TakesAll (map write_of before) asked (map write_of ws) → TakesAll (map write_of before) asked []
taken_none before [] asked n count none h = h
taken_none before (w ∷ ws) asked n count none h = absurd (omega (arith, count, none))

pub some_writes : (ws : List Write) (n : ℕ) → n ≡ length ws → n ≢ 0 → 1 ≤ length ws
some_writes ws n count some = omega (arith, count, some)

pub some_at : {X : Type 0} (P : X → Type 0) (o : Option X) (x : X) → o ≡ Some x → IfSome o P → P x
some_at P o x is h = subst (λ (o : Option _). IfSome o P) is h

pub none_at : {X : Type 0} (P : Type 0) (o : Option X) → o ≡ None → IfNone o P → P
none_at P o is h = subst (λ (o : Option _). IfNone o P) is h

pub not_less : (n m : ℕ) → m ≡ n → n ≤ m
not_less n m same = omega (arith, same)
