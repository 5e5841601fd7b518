-- Reads of several cells in one session, where cells and sessions show the machine's state.
use Rattle.std.proofs.Common.{◌≡◌, ◌≢◌, ◌∙◌, ℕ, ◌+◌, ◌<◌, ◌≤◌, inl, inr, Bool, true, false, List, [], ◌∷◌, length, Option, Some, None, refl, sym, subst, ap, arith}
use Rattle.std.specs.Prelude.{◌⊎◌, ◌==◌, nat_eq, IfErr, Result, Ok, Err}
use Rattle.std.proofs.lemmas.Bool.Decides.{nat_tests}
use Rattle.std.proofs.lemmas.Bool.{cases_eq}
use Rattle.std.proofs.lemmas.List.{length-map}
use Rattle.std.proofs.lemmas.Option.{none-some}
use Rattle.cell_key.specs.Cells.{Cells}
use Rattle.cell_key.specs.declared.refusals.Refusal.{Refusal}
use Rattle.cell_key.specs.declared.refusals.Refusal.TheVariants.{UnknownSession, WrongPhase, BadRow, BadColumn, TooManySessions, BadCount, Exhausted, Device, NoMemory, Damaged}
use Rattle.si_model.specs.Machine as machine
use Rattle.si_model.specs.Machine.{State, Item, Get, InPhase, Refuses, Refused, Step, accepts, refuses, tells}
use Rattle.si_model.specs.Refusing.{Applies, stop_unknown}
use Rattle.si_model.specs.Refusing.Refuses.{applies_first, gives_up}
use Rattle.si_model.specs.Answers.{cells_named}
use Rattle.si_model.specs.Replies.{found_reply, result_reply}
use Rattle.si_model.specs.Servers.{IsReachedByServers}
use Rattle.si_model.specs.ShowsCells.{ShowsCells}
use Rattle.si_model.specs.Transactions.{Read, Answer, Said, ReadDone, Opens, is_open, begins, ReadsAll, all_read, finds, IsReadCount, StaysOrEnds, ReadsTogether, reads, refuses_begin, refuses_read, names_unknown, names_late, miscounts, told_length, Goes, reads_together}
use Rattle.si_model.specs.declared.replies.Cell.{Cell}
use Rattle.si_model.specs.declared.replies.Found.{Found}
use Rattle.si_model.specs.declared.replies.Found.TheVariants.{Value, Nothing, Pending}
use Rattle.si_model.specs.declared.transactions.CellName.{CellName}
use Rattle.si_model.proofs.Acceptable.{begin_ok}
use Rattle.si_model.proofs.AtOnce.{Opened, servers_opened}
use Rattle.si_model.proofs.FirstRefusals.{begin_full_first, get_row_first, get_family_first}
use Rattle.si_model.proofs.ByServers.{servers_step}
use Rattle.txn_client.specs.CellReads.{AreRead, IsReadingRefusal, IsRefusedAmong}
use Rattle.txn_client.specs.Reads.{IsFound}
use Rattle.si_model.specs.Takings.{IsNamed}
use Rattle.txn_client.specs.Shows.{IsCrowded, IsInactive, KnowsTop, Shows, ShowsClients, Steps}
use Rattle.txn_client.specs.Transactions.{GoesAs, HasSession, IsSessionRefusal}
use Rattle.txn_client.specs.declared.sessions.Clients.{Clients}
use Rattle.txn_client.proofs.Exact.{is_kept, not_crowded}
use Rattle.txn_client.proofs.ShownReads.{after_read, waits_at, reads_nothing, reads_deletion, reads_value}
use Rattle.txn_client.proofs.Table.{begun_at, late_phase, open_phase, shown_none, shown_some, shows_along}

-- ---- the reads of a session

module _ (cells : Cells) (s : ℕ) where
  -- a state after reads, in which the session is still open
  pub record After (st next : State) : Type 0 where
    pub opened : Opened IsReachedByServers cells s next
    pub top : next.top ≡ st.top
    pub begun : next.begun ≡ st.begun
    pub active : next.active ≡ st.active

  after_all : {a b c : State} → After a b → After b c → After a c
  after_all f g = record { opened = g.opened; top = g.top ∙ f.top; begun = g.begun ∙ f.begun; active = g.active ∙ f.active }

  read_one : (st : State) (x : Cell) (found : Found) → Opened IsReachedByServers cells s st → IsNamed x → IsFound cells x s found → (next : State) × Step st (Get s x) (found_reply found) next × After st next
  read_one st x (Pending u) o named is = (st, waits_at cells st o.reached o.shown x s u named.0 named.1 o.active is.0 is.1, record { opened = o; top = refl; begun = refl; active = refl })
  read_one st x Nothing o named is = elim is.1 [
    | inl none ↦ answered (reads_nothing cells st o.reached o.shown x s named.0 named.1 o.active is.0 none)
    | inr deleted ↦ answered (reads_deletion cells st o.reached o.shown x s named.0 named.1 o.active is.0 deleted)
  ]
    where
      next : State
      next = after_read cells st o.reached o.shown s x None

      answered : Step st (Get s x) (machine.Answered None) next × ShowsCells cells next → (next : State) × Step st (Get s x) (machine.Answered None) next × After st next
      answered k = (next, k.0, record { opened = record { reached = servers_step o.reached k.0; shown = k.1; active = o.active }; top = refl; begun = refl; active = refl })
  read_one st x (Value v) o named is =
      let k = reads_value cells st o.reached o.shown x s v.items named.0 named.1 o.active is in
      (after_read cells st o.reached o.shown s x (Some v.items), k.0, record { opened = record { reached = servers_step o.reached k.0; shown = k.1; active = o.active }; top = refl; begun = refl; active = refl })

  pub read_all : (xs : List Cell) (said : List (Option Item)) (used : ℕ) (st : State) → Opened IsReachedByServers cells s st → AreRead cells s used xs said → (next : State) × ReadsAll s used st xs said next × After st next
  read_all [] [] used st o h = (st, all_read, record { opened = o; top = refl; begun = refl; active = refl })
  read_all [] (r ∷ rs) used st o h = absurd h
  read_all (x ∷ xs) [] used st o h = absurd h
  read_all (x ∷ xs) (r ∷ rs) used st o h =
      let one = read_one st x h.1.found o h.0 h.1.is_found in
      let more = read_all xs rs (used + told_length r) one.0 one.2.opened h.2 in
      (more.0, finds (found_reply h.1.found) one.1 h.1.told more.1, after_all one.2 more.2)

  refuses_get : (st : State) (x : Cell) (e : Refusal) → Opened IsReachedByServers cells s st → IsReadingRefusal x e → Refuses st (Get s x) e
  refuses_get st x BadRow o why = get_row_first o.active why
  refuses_get st x BadColumn o why = get_family_first o.active why.0 why.1
  refuses_get st x Device o why = gives_up tt
  refuses_get st x NoMemory o why = gives_up tt
  refuses_get st x Damaged o why = gives_up tt
  refuses_get st x _ o why = absurd why

-- ---- its session

module _ (cells : Cells) (clients : Clients) (last start : ℕ) (st : State) (reached : IsReachedByServers st) (shown : Shows cells clients last st) where
  pub opens_named : (s : ℕ) → start ≢ 0 → HasSession clients last start s → Opens st start s st
  opens_named s ne has = subst (λ (n : ℕ). Opens st start n st) (sym (has.is_open ne).0) (is_open (open_phase clients start st shown.sessions (has.is_open ne).1))

  pub opens_new : (s : ℕ) → start ≡ 0 → HasSession clients last start s → Opens st start s (begun_at st s)
  opens_new s is0 has =
      let new = has.is_new is0 in
      let next = new.0 in
      let low = new.1 in
      let few = new.2 in
      let count = shown.sessions.count in
      let top = shown.top in
      subst (λ (n : ℕ). Opens st n s (begun_at st s)) (sym is0) (begins (accepts (begin_ok (omega (arith, few, count))) (machine.begins (omega (arith, top, next), low))))

  pub opens : (s : ℕ) → HasSession clients last start s → (mid : State) × Opens st start s mid
  opens s has = elim (cases_eq start 0) [ inl is0 ↦ (begun_at st s, opens_new s is0 has) | inr ne ↦ (st, opens_named s ne has) ]

-- a step that leads to the same sessions and the same last stamp
pub steps_to : {cells : Cells} {old one two : Clients} {last l m : ℕ} {q : machine.Request} {r : machine.Reply} → two ≡ one → m ≡ l → Steps cells old last q r cells one l → Steps cells old last q r cells two m
steps_to {cells} {old} {last = last} {q = q} {r = r} same at steps = subst (λ (p : Clients × ℕ). Steps cells old last q r cells p.0 p.1) (λ j. (sym same j, sym at j)) steps

-- ---- its end

-- a session that stays open, or is stopped
abbrev pub Ends : Cells → ℕ → Clients → ℕ → Bool → Clients → Type 0
Ends cells s clients last true later = later ≡ clients
Ends cells s clients last false later =
    (r : Result (Unit {0}) Refusal) × IfErr r (λ e. e ≡ UnknownSession)
    × Steps cells clients last (machine.Stop s) (result_reply (λ _. machine.StopDone) r) cells later last

pub ends_open : (cells : Cells) (s : ℕ) (clients : Clients) (last : ℕ) (b : Bool) → b ≡ true → Ends cells s clients last b clients
ends_open cells s clients last b is = subst (λ (b : Bool). Ends cells s clients last b clients) (sym is) refl

pub ends_stopped : (cells : Cells) (s : ℕ) (clients later : Clients) (last : ℕ) (b : Bool) (r : Result (Unit {0}) Refusal) → b ≡ false → IfErr r (λ e. e ≡ UnknownSession)
    → Steps cells clients last (machine.Stop s) (result_reply (λ _. machine.StopDone) r) cells later last → Ends cells s clients last b later
ends_stopped cells s clients later last b r is why steps = subst (λ (b : Bool). Ends cells s clients last b later) (sym is) (r, why, steps)

-- an active session is stopped
not_stopped : (st next : State) (s : ℕ) → InPhase st s machine.Open → Step st (machine.Stop s) (Refused UnknownSession) next → ⊥
not_stopped st next s h (accepts ok (tells t)) = elim t [ ]
not_stopped st next s h (refuses (gives_up u)) = u
not_stopped st next s h (refuses (applies_first first)) = by first.applies
  where
    by : Applies st (machine.Stop s) UnknownSession → ⊥
    by (stop_unknown none) = none-some _ (sym none ∙ h)

ends : (cells : Cells) (s : ℕ) (clients : Clients) (last : ℕ) (b : Bool) (later : Clients) (st : State) → Opened IsReachedByServers cells s st → Shows cells clients last st → Ends cells s clients last b later
    → (next : State) × StaysOrEnds b st s next × Shows cells later last next × (KnowsTop clients st → KnowsTop later next)
ends cells s clients last true later st o shown is = (st, refl, subst (λ (k : Clients). Shows cells k last st) (sym is) shown, λ known. ap (λ (k : Clients). k.top) is ∙ known)
ends cells s clients last false later st o shown (Ok u, why, steps) = steps st o.reached shown
ends cells s clients last false later st o shown (Err e, why, steps) =
    let r = steps st o.reached shown in
    absurd (not_stopped st r.0 s o.active (subst (λ (e : Refusal). Step st (machine.Stop s) (Refused e) r.0) why r.1))

-- ---- the number of cells

pub bad_count : (n : ℕ) (b : Bool) → b ≡ (n == 0) → (b ≡ true) ⊎ ((b ≡ false) × (256 < n)) → ¬ IsReadCount n
bad_count n b e (inr many) few = let most = few.1 in let past = many.1 in absurd (omega (arith, most, past))
bad_count n b e (inl none) few = let some = few.0 in let no : nat_eq n 0 ≡ false = grind (arith, nat_tests, some) in not_both (sym no ∙ (sym e ∙ none))
  where
    not_both : false ≡ true → ⊥
    not_both is = cc

pub good_count : (n : ℕ) (b : Bool) → b ≡ (n == 0) → b ≡ false → n ≤ 256 → IsReadCount n
good_count n b e some few = elim (cases_eq n 0) [
  | inl none ↦ absurd (not_both (sym some ∙ (e ∙ ap (λ k. k == 0) none)))
  | inr ne ↦ (omega (arith, ne), few)
]
  where
    not_both : false ≡ true → ⊥
    not_both is = cc

-- a session refusal of a new session, if the most are active
pub crowded_refusal : (clients : Clients) (last start : ℕ) (st : State) (e : Refusal) → start ≡ 0 → ShowsClients clients st → IsCrowded st → IsSessionRefusal clients last start e → e ≡ TooManySessions
crowded_refusal clients last start st UnknownSession is0 shown many why = absurd (why.0 is0)
crowded_refusal clients last start st WrongPhase is0 shown many why = absurd (why.0 is0)
crowded_refusal clients last start st TooManySessions is0 shown many why = refl
crowded_refusal clients last start st Exhausted is0 shown many why = absurd (not_crowded clients st shown why.1 many)
crowded_refusal clients last start st _ is0 shown many why = absurd why

pub unknown_refusal : (clients : Clients) (last start : ℕ) (st : State) (e : Refusal) → start ≢ 0 → ShowsClients clients st → IsInactive st start → IsSessionRefusal clients last start e → e ≡ UnknownSession
unknown_refusal clients last start st UnknownSession some shown gone why = refl
unknown_refusal clients last start st WrongPhase some shown gone why = absurd (is_kept clients start st shown gone why.1.0 why.1.1)
unknown_refusal clients last start st TooManySessions some shown gone why = absurd (some why.0)
unknown_refusal clients last start st Exhausted some shown gone why = absurd (some why.0)
unknown_refusal clients last start st _ some shown gone why = absurd why

-- ---- a Read

module _ (cells cells' : Cells) (clients : Clients) (last start : ℕ) (names : List CellName) (stays_open : Bool) (same : cells' ≡ cells) where
  abbrev Answers : Answer → Clients → ℕ → Type 0
  Answers answer clients' last' = GoesAs cells clients last (Read start (cells_named names) stays_open) answer cells' clients' last'

  at_cells : {clients' : Clients} {last' : ℕ} {st : State} → Shows cells clients' last' st → Shows cells' clients' last' st
  at_cells {clients'} {last'} {st} shown = subst (λ (m : Cells). Shows m clients' last' st) (sym same) shown

  counted : IsReadCount (length names) → IsReadCount (length (cells_named names))
  counted few = subst IsReadCount (sym (length-map names _)) few

  pub miscounts_at : ¬ IsReadCount (length names) → Answers (Said (Refused BadCount)) clients last
  miscounts_at many st reached shown = (st, reads_together (miscounts (λ few. many (subst IsReadCount (length-map names _) few))), at_cells shown, λ known. known)

  module _ (few : IsReadCount (length names)) where
    session_refuses : (st : State) → ShowsClients clients st → (e : Refusal) → IsSessionRefusal clients last start e → ReadsTogether st start (cells_named names) stays_open (Said (Refused e)) st
    session_refuses st shown UnknownSession why = names_unknown (counted few) why.0 (shown_none clients start st shown why.1)
    session_refuses st shown WrongPhase why = let late = why.1 in names_late (counted few) why.0 (shown_some clients start st late.0 shown late.1).phase (late_phase late.0.phase late.0.commit late.2)
    session_refuses st shown TooManySessions why = let many = why.1 in let count = shown.count in refuses_begin (counted few) why.0 (begin_full_first (omega (arith, many, count)))
    session_refuses st shown Exhausted why = refuses_begin (counted few) why.0 (gives_up tt)
    session_refuses st shown _ why = absurd why

    pub session_refused_at : (e : Refusal) → IsSessionRefusal clients last start e → Answers (Said (Refused e)) clients last
    session_refused_at e why st reached shown = (st, reads_together (session_refuses st shown.sessions e why), at_cells shown, λ known. known)

    pub read_refused_at : (s : ℕ) (e : Refusal) → HasSession clients last start s → IsRefusedAmong cells s (cells_named names) e → Answers (Said (Refused e)) clients last
    read_refused_at s e has among st reached shown =
        let mid = opens cells clients last start st reached shown s has in
        let far = read_all cells s among.before among.said 0 mid.0 (servers_opened cells s st mid.0 start reached shown.store mid.1) among.read in
        (st, reads_together (refuses_read among.after (counted few) among.split mid.1 far.1 (refuses_get cells s far.0 among.cell e far.2.opened among.why)), at_cells shown, λ known. known)

    begin_refuses : (st next : State) (e : Refusal) → Step st machine.Begin (Refused e) next → (next ≡ st) × Refuses st machine.Begin e
    begin_refuses st next e (refuses why) = (refl, why)
    begin_refuses st next e (accepts ok (tells t)) = elim t [ ]

    pub begin_refused_at : (clients' : Clients) (last' : ℕ) (e : Refusal) → start ≡ 0 → Steps cells clients last machine.Begin (Refused e) cells clients' last' → Answers (Said (Refused e)) clients' last'
    begin_refused_at clients' last' e is0 steps st reached shown =
        let r = steps st reached shown in
        let why = begin_refuses st r.0 e r.1 in
        (st, reads_together (refuses_begin (counted few) is0 why.1), at_cells (subst (λ (next : State). Shows cells clients' last' next) why.0 r.2), λ known. r.3 known ∙ ap (λ (m : State). m.top) why.0)

    -- the session has opened, and reads
    module _ (s : ℕ) (said : List (Option Item)) (read : AreRead cells s 0 (cells_named names) said) (clients' : Clients) (last' : ℕ) (later : Clients) (end : Ends cells s clients' last' stays_open later) where
      pub reads_from : (st mid : State) → IsReachedByServers st → ShowsCells cells st → Opens st start s mid → Shows cells clients' last' mid
          → (next : State) × Goes st (Read start (cells_named names) stays_open) (ReadDone s said) next × Shows cells' later last' next × (KnowsTop clients' mid → KnowsTop later next)
      reads_from st mid reached store open_at shown =
          let far = read_all cells s (cells_named names) said 0 mid (servers_opened cells s st mid start reached store open_at) read in
          let is = ends cells s clients' last' stays_open later far.0 far.2.opened (record { store = far.2.opened.shown; sessions = shows_along clients' mid far.0 shown.sessions far.2.top far.2.begun far.2.active; top = (let t = shown.top in let e = far.2.top in omega (arith, t, e)) }) end in
          (is.0, reads_together (reads (counted few) open_at far.1 is.1), at_cells is.2, λ known. is.3 (known ∙ sym far.2.top))

    pub reads_named_at : (s : ℕ) (said : List (Option Item)) → AreRead cells s 0 (cells_named names) said → start ≢ 0 → HasSession clients last start s → (clients' : Clients) (last' : ℕ) → clients' ≡ clients → last' ≡ last → (later : Clients)
        → Ends cells s clients' last' stays_open later → Answers (ReadDone s said) later last'
    reads_named_at s said read ne has clients' last' kept at later end st reached shown =
        let g = reads_from s said read clients' last' later end st st reached shown.store (opens_named cells clients last start st reached shown s ne has) (subst (λ (p : Clients × ℕ). Shows cells p.0 p.1 st) (λ j. (sym kept j, sym at j)) shown) in
        (g.0, g.1, g.2, λ known. g.3 (ap (λ (k : Clients). k.top) kept ∙ known))

    pub reads_new_at : (s t : ℕ) (said : List (Option Item)) → AreRead cells s 0 (cells_named names) said → start ≡ 0 → t ≡ last + 1 → HasSession clients last start s → (clients' : Clients) (last' : ℕ) → Steps cells clients last machine.Begin (machine.Begun t) cells clients' last' → (later : Clients)
        → Ends cells s clients' last' stays_open later → Answers (ReadDone s said) later last'
    reads_new_at s t said read is0 drawn has clients' last' steps later end st reached shown =
        let r = steps st reached shown in
        let same_start : t ≡ s = drawn ∙ sym (has.is_new is0).0 in
        let open_at = subst (λ (n : ℕ). Opens st n s r.0) (sym is0) (begins (subst (λ (n : ℕ). Step st machine.Begin (machine.Begun n) r.0) same_start r.1)) in
        let g = reads_from s said read clients' last' later end st r.0 reached shown.store open_at r.2 in
        (g.0, g.1, g.2, λ known. g.3 (r.3 known))
