-- A server's turn: a step of what it sees, in the machine, and what all servers show after it.
use Rattle.std.proofs.Common.{◌≡◌, ◌≢◌, ◌<◌, ◌≤◌, ◌⊎◌, ℕ, true, false, cond, List, Option, Some, None, inl, inr, refl, sym, ap, subst, ◌∙◌, arith}
use Rattle.std.specs.Prelude.{nat_eq}
use Rattle.std.specs.Ordering.{nat_cmp}
use Rattle.std.specs.BTreeMap as btree
use Rattle.std.specs.FinMap.{empty, get, insert, get-empty, len-empty}
use Rattle.std.proofs.Math.Nat.{le_trans}
use Rattle.std.proofs.lemmas.Bool.{cases_eq}
use Rattle.std.proofs.lemmas.Bool.Decides.{nat_tests}
use Rattle.std.proofs.lemmas.Option.{none-some}
use Rattle.cell_key.specs.Cells.{Cells}
use Rattle.cell_key.specs.declared.keys.Qualifier.TheVariants.{Data}
use Rattle.cell_key.specs.declared.refusals.Refusal.{Refusal}
use Rattle.si_model.specs.Deciding.{Knows, Verdict}
use Rattle.cell_key.specs.Places.{Place}
use Rattle.si_model.specs.Collection.{ChangesCells, FirstPass, HasCome, Pass, SecondPass}
use Rattle.si_model.specs.Enduring.{Endures, HasTried}
use Rattle.si_model.specs.Machine.{State, Phase, Open, Request, Reply, CollectBegin, Refused, Refuses, Acts, Step, refuses, accepts, IsAcceptable, InPhase, Writes, Wrote, most_collectors}
use Rattle.si_model.specs.Servers.{Own, Sessions, HasSessions, IsBelowAll, IsPartOf, IsReachedByServers, acts, sees, seen_with, view}
use Rattle.si_model.specs.ServerLaws.{IsStepOfAll}
use Rattle.si_model.specs.ShowsCells.{at, ShowsCells}
use Rattle.si_model.specs.declared.replies.Cell.{Cell}
use Rattle.si_model.proofs.CleanerFates.{knows_on}
use Rattle.si_model.proofs.ByServers.{nothing_is_part}
use Rattle.si_model.proofs.LastingMarks.{acts_endures}
use Rattle.si_model.proofs.Lifted.{views_lift}
use Rattle.si_model.proofs.OpenNumbers.{added, none_open}
use Rattle.si_model.proofs.Tools.{each_insert, get_same}
use Rattle.si_model.proofs.Parts.{own_is_part, own_of, parts_stay, views_shown}
use Rattle.txn_client.specs.Shows.{ShowsAt, phase_of, writes_of}
use Rattle.txn_client.specs.declared.session.Session.{Session}
use Rattle.clean_up.specs.Shows as cleaners
use Rattle.clean_up.specs.Shows.{ShowsCleaners, cleaner_of}
use Rattle.clean_up.specs.Fates.{verdict_of}
use Rattle.clean_up.specs.declared.cleaner.Cleaner.{Cleaner as Kept}
use Rattle.version_collector.specs.Shows as collect
use Rattle.version_collector.specs.Visits.{pass_of, position_of}
use Rattle.version_collector.specs.declared.collector.Collector.{Collector}
use Rattle.version_collector.proofs.Table.{keeps_on}
use Rattle.servers_model.specs.Servers.{Server, ShowsServer, ShowsServers, AreApart, nothing, with_one}
use Rattle.servers_model.specs.Merged.{IsTurn, turn_of}
use Rattle.servers_model.proofs.Added.{data_joins}
use Rattle.servers_model.proofs.Below.{acts_below}
use Rattle.servers_model.proofs.Changed.{changes_in_turn}
use Rattle.servers_model.proofs.Beside.{all_part, turn_part, turn_right, view_knows, knows_whole, whole_shown}

-- ---- maps from servers

module _ {X : Type 0} (all : ℕ → X) (i : ℕ) (one : X) where
  pub at_own : (j : ℕ) → j ≡ i → with_one all i one j ≡ one
  at_own j e = ap (λ b. cond b one (all j)) (let is : nat_eq j i ≡ true = grind (arith, nat_tests) in is)

  pub at_other : (j : ℕ) → j ≢ i → with_one all i one j ≡ all j
  at_other j ne = ap (λ b. cond b one (all j)) (let is : nat_eq j i ≡ false = grind (arith, nat_tests) in is)

  -- a property of the one and of all others holds for each
  pub each_one : (P : ℕ → X → Type 0) → P i one → ((j : ℕ) → j ≢ i → P j (all j)) → (j : ℕ) → P j (with_one all i one j)
  each_one P base rest j = elim (cases_eq j i) [
    | inl e ↦ subst (λ x. P j x) (sym (at_own j e)) (subst (λ n. P n one) (sym e) base)
    | inr ne ↦ subst (λ x. P j x) (sym (at_other j ne)) (rest j ne)
  ]

pub none_if : (o : Option Phase) → ((q : Phase) → o ≡ Some q → ⊥) → o ≡ None
none_if None f = refl
none_if (Some q) f = absurd (f q refl)

pub some_or_none : {X : Type 0} (o : Option X) → ((q : X) × (o ≡ Some q)) ⊎ (o ≡ None)
some_or_none None = inr refl
some_or_none (Some q) = inl (q, refl)

-- ---- what a turn leads to, in the machine with the server's cleaners and collectors

pub record Leads (turn : State) (mine : Sessions) (next whole : State) : Type 0 where
  pub reached : IsReachedByServers whole
  pub seen : next ≡ seen_with whole next.active
  pub sessions : HasSessions whole next.active
  pub rises : turn.top ≤ whole.top
  pub each : (t : ℕ) (p : Phase) → InPhase whole t p → (get next.active t ≡ Some p) ⊎ ((get mine t ≡ None) × InPhase turn t p)
  pub others : (t : ℕ) (p : Phase) → get mine t ≡ None → InPhase turn t p → InPhase whole t p × (get next.active t ≡ None)
  pub wrote : (t : ℕ) (p : Phase) (ws : Writes) → get mine t ≡ None → InPhase turn t p → Wrote turn t ws → Wrote whole t ws
  -- what servers know stays right
  pub part : (own : Own) → IsPartOf own turn → HasSessions whole own.sessions → IsPartOf own whole
  pub endures : Endures turn whole
  pub knows : (x : Cell) (t : ℕ) (first : Cell) (v : Verdict) → HasTried turn x t → Knows turn x t first v → Knows whole x t first v

-- by an act
pub leads_by : {turn next whole : State} {mine : Sessions} {q : Request} {r : Reply} → IsReachedByServers turn → IsAcceptable (seen_with turn mine) q → IsStepOfAll turn mine q r next whole → Leads turn mine next whole
leads_by {turn} {next} {whole} {mine} {q} {r} reached ok s = record {
  reached = acts mine reached ok s.by;
  seen = s.seen;
  sessions = s.sessions;
  rises = s.rises;
  each = s.each;
  others = s.others;
  wrote = s.wrote;
  part = λ own p sessions. parts_stay turn whole own q r reached p s.by sessions;
  endures = acts_endures reached s.by;
  knows = λ x t first v tried k. knows_on reached s.by x t first v tried k;
}

-- by a refusal
pub leads_nowhere : (turn : State) (mine : Sessions) → IsReachedByServers turn → HasSessions turn mine → Leads turn mine (seen_with turn mine) turn
leads_nowhere turn mine reached sessions = record {
  reached = reached;
  seen = refl;
  sessions = sessions;
  rises = omega arith;
  each = λ t p h. by t p h (get mine t) refl;
  others = λ t p none h. (h, none);
  wrote = λ t p ws none h w. w;
  part = λ own p sessions. record { sessions = sessions; cleaners = p.cleaners; collectors = p.collectors; cleaner_numbers = p.cleaner_numbers; collector_numbers = p.collector_numbers };
  endures = record { tried = λ x t h. h; gone = λ x t h m. m; joins = λ x t m. inl m; committed = λ a i. i; dead = λ t d. d };
  knows = λ x t first v tried k. k;
}
  where
    by : (t : ℕ) (p : Phase) → InPhase turn t p → (o : Option Phase) → get mine t ≡ o → (get mine t ≡ Some p) ⊎ ((get mine t ≡ None) × InPhase turn t p)
    by t p h None e = inr (e, h)
    by t p h (Some q) e = inl (e ∙ (sym (sessions t q e) ∙ h))

-- ---- what other servers show after it

-- a session that the turn leaves is shown as before
pub still_shown : (st next : State) (theirs : Own) (o : Option Session) (t : ℕ)
    → ((p : Phase) (ws : Writes) → get theirs.sessions t ≡ Some p → Wrote st t ws → Wrote next t ws)
    → ShowsAt o t (view st theirs) → ShowsAt o t (view next theirs)
still_shown st next theirs None t wrote none = none
still_shown st next theirs (Some session) t wrote shows = record {
  start = shows.start;
  phase = shows.phase;
  writes = wrote (phase_of session.phase session.commit) (writes_of session) shows.phase shows.writes;
}

pub still_kept : (st next : State) (theirs : Own) (o : Option Kept) (i : ℕ)
    → ((k : Kept) → get theirs.cleaners i ≡ Some (cleaner_of k) → Knows st k.cell k.lock.start k.lock.first (verdict_of k.fate) → Knows next k.cell k.lock.start k.lock.first (verdict_of k.fate))
    → cleaners.ShowsAt o i (view st theirs) → cleaners.ShowsAt o i (view next theirs)
still_kept st next theirs None i knows none = none
still_kept st next theirs (Some k) i knows shows = record {
  kept = shows.kept;
  knows = view_knows next theirs _ _ _ _ (knows k shows.kept (knows_whole st theirs _ _ _ _ shows.knows));
}

-- a collector's progress doesn't depend on sessions, cleaners and collectors
come_in_turn : (cells : Cells) (st : State) (theirs own : Own) (floor : ℕ) (pass : Pass) (after : Option Place) → HasCome cells (view st theirs) floor pass after → HasCome cells (turn_of st own) floor pass after
come_in_turn cells st theirs own floor FirstPass after come = come
come_in_turn cells st theirs own floor SecondPass after come = come

come_in_view : (cells : Cells) (st : State) (back theirs : Own) (floor : ℕ) (pass : Pass) (after : Option Place) → HasCome cells st floor pass after → HasCome cells (view (turn_of st back) theirs) floor pass after
come_in_view cells st back theirs floor FirstPass after come = come
come_in_view cells st back theirs floor SecondPass after come = come

module _ (cells cells' : Cells) (servers : ℕ → Server) (i : ℕ) (server' : Server) (floors : ℕ → ℕ) (last last' : ℕ) (st : State) (owns : ℕ → Own) (shows : ShowsServers cells servers floors last st owns) where
  abbrev own : Own
  own = owns i

  abbrev turn : State
  turn = turn_of st own

  abbrev mine : Sessions
  mine = own.sessions

  part : IsPartOf own st
  part = shows.parts i

  pub turn_reached : IsReachedByServers turn
  turn_reached = sees shows.reached (all_part st own part)

  pub seen_reached : IsReachedByServers (view st own)
  seen_reached = sees shows.reached part

  pub seen_shown : ShowsCells cells (view st own)
  seen_shown = views_shown cells st own part shows.store

  turn_shown : ShowsCells cells turn
  turn_shown = views_shown cells st (record own { sessions = st.active }) (all_part st own part) shows.store

  module _ (next whole : State) (leads : Leads turn mine next whole) (changes : ChangesCells cells (view st own) cells') (cells_shown : ShowsCells cells' next) (server_shown : ShowsServer cells' server' next) (top : next.top ≤ last') (low : IsBelowAll next (floors i)) where
    -- the machine after the turn: the cleaners and collectors are put back
    abbrev pub after : State
    after = turn_of whole (own_of st)

    abbrev pub own_after : Own
    own_after = record (own_of whole) { sessions = next.active }

    abbrev owns_after : ℕ → Own
    owns_after = with_one owns i own_after

    back_part : IsPartOf (record (own_of st) { sessions = whole.active }) whole
    back_part = let p = leads.part put_back (turn_part st own put_back no_sessions) (λ t p h. absurd (no_session t p h)) in record {
      sessions = λ t p h. h;
      cleaners = p.cleaners;
      collectors = p.collectors;
      cleaner_numbers = p.cleaner_numbers;
      collector_numbers = p.collector_numbers;
    }
      where
        put_back : Own
        put_back = record (own_of st) { sessions = empty }

        no_session : (t : ℕ) (p : Phase) → get (empty {X = Phase} {R = nat_cmp}) t ≡ Some p → ⊥
        no_session t p h = none-some p (sym (get-empty nat_cmp t) ∙ h)

        no_sessions : IsPartOf put_back st
        no_sessions = let p = own_is_part st shows.reached in record {
          sessions = λ t p h. absurd (no_session t p h);
          cleaners = p.cleaners;
          collectors = p.collectors;
          cleaner_numbers = p.cleaner_numbers;
          collector_numbers = p.collector_numbers;
        }

    reached : IsReachedByServers after
    reached = sees leads.reached back_part

    -- the floor doesn't fall
    floor_rises : turn.floor ≤ whole.floor
    floor_rises = (leads.part one one_part (λ t p h. absurd (none-some p (sym (get-empty nat_cmp t) ∙ h)))).collectors 1 turn.floor (get_same empty 1 turn.floor)
      where
        -- with a collector at the floor
        one : Own
        one = record nothing { collectors = insert empty 1 turn.floor; next_collector = 2 }

        one_part : IsPartOf one turn
        one_part = let p = nothing_is_part turn in record {
          sessions = p.sessions;
          cleaners = p.cleaners;
          collectors = each_insert empty 1 (λ n f. f ≤ turn.floor) turn.floor (omega arith) (λ n f ne h. absurd (none-some f (sym (get-empty nat_cmp n) ∙ h)));
          cleaner_numbers = p.cleaner_numbers;
          collector_numbers = added empty 1 most_collectors (none_open most_collectors) turn.floor (subst (λ n. n < most_collectors) (sym (len-empty nat_cmp ℕ)) (omega arith)) (omega arith);
        }

    -- the part of the server, and those of the others
    own_part : IsPartOf own_after after
    own_part = let p = own_is_part whole leads.reached in record {
      sessions = leads.sessions;
      cleaners = λ n k h. turn_right whole (own_of st) k (p.cleaners n k h);
      collectors = p.collectors;
      cleaner_numbers = p.cleaner_numbers;
      collector_numbers = p.collector_numbers;
    }

    module _ (j : ℕ) (ne : j ≢ i) where
      not_mine : (t : ℕ) (p : Phase) → get (owns j).sessions t ≡ Some p → get mine t ≡ None
      not_mine t p h = shows.apart j i ne t p h

      goes_on : (t : ℕ) (p : Phase) → get (owns j).sessions t ≡ Some p → InPhase whole t p × (get next.active t ≡ None)
      goes_on t p h = leads.others t p (not_mine t p h) ((shows.parts j).sessions t p h)

      other_part : IsPartOf (owns j) after
      other_part = turn_part whole (own_of st) (owns j) (leads.part (owns j) (turn_part st own (owns j) (shows.parts j)) (λ t p h. (goes_on t p h).0))

      other_apart : AreApart (owns j).sessions own_after.sessions
      other_apart t p h = (goes_on t p h).1

      own_apart : AreApart own_after.sessions (owns j).sessions
      own_apart t p h = none_if (get (owns j).sessions t) (λ q g. none-some p (sym (other_apart t q g) ∙ h))

      still_collects : (o : Option Collector) (n : ℕ) → collect.ShowsAt cells o n (view st (owns j)) → collect.ShowsAt cells' o n (view after (owns j))
      still_collects None n none = none
      still_collects (Some c) n shown =
          let come = keeps_on cells cells' turn whole turn_reached turn_shown leads.endures (changes_in_turn cells st own part cells' changes) c ((shows.parts j).collectors n c.floor shown.kept)
          (come_in_turn cells st (owns j) own c.floor (pass_of c.pass) (position_of c.after) shown.come.0, shown.come.1) in
          record { kept = shown.kept; come = (come_in_view cells' whole (own_of st) (owns j) c.floor (pass_of c.pass) (position_of c.after) come.0, come.1) }

      other_each : ShowsServer cells' (servers j) (view after (owns j))
      other_each = let s = shows.each j in record {
        sessions = record {
          top = le_trans s.sessions.top leads.rises;
          sessions = λ t. still_shown st after (owns j) (btree.get nat_cmp (servers j).clients.sessions t) t (λ p ws h w. leads.wrote t p ws (not_mine t p h) ((shows.parts j).sessions t p h) w) (s.sessions.sessions t);
          count = s.sessions.count;
        };
        cleaners = record {
          next = s.cleaners.next;
          each = λ n. still_kept st after (owns j) (btree.get nat_cmp (servers j).cleaners.cleaners n) n (knows_still n) (s.cleaners.each n);
          count = s.cleaners.count;
        };
        collectors = record {
          next = s.collectors.next;
          floor = le_trans s.collectors.floor floor_rises;
          each = λ n. still_collects (btree.get nat_cmp (servers j).collectors.collectors n) n (s.collectors.each n);
          count = s.collectors.count;
        };
      }
        where
          knows_still : (n : ℕ) (k : Kept) → get (owns j).cleaners n ≡ Some (cleaner_of k) → Knows st k.cell k.lock.start k.lock.first (verdict_of k.fate) → Knows after k.cell k.lock.start k.lock.first (verdict_of k.fate)
          knows_still n k h known =
              view_knows whole (record (own_of st) { sessions = whole.active }) _ _ _ _ (leads.knows k.cell k.lock.start k.lock.first (verdict_of k.fate)
              (turn_right st own _ ((shows.parts j).cleaners n _ h)).tried
              (view_knows st (record own { sessions = st.active }) _ _ _ _ known))

    -- the server sees its next state
    same_view : next ≡ view after own_after
    same_view = leads.seen

    late : (x : Cell) (t : ℕ) (b : List ℕ) → at cells' x Data t ≡ Some b → ¬ InPhase after t Open
    late x t b h is = elim (leads.each t Open is) [
      | inl own_now ↦ (cells_shown.given x t b h).late own_now
      | inr (none, before) ↦ elim (some_or_none (at cells x Data t)) [
        | inl (c, was) ↦ (shows.store.given x t c was).late before
        | inr absent ↦ let (p, active) = data_joins cells cells' (view st own) changes x t b h absent in none-some p (sym none ∙ active)
      ]
    ]

    pub shows_after : ShowsServers cells' (with_one servers i server') floors last' after owns_after
    shows_after = record {
      reached = reached;
      store = whole_shown cells' after own_after (subst (λ s. ShowsCells cells' s) same_view cells_shown) late;
      top = subst (λ (s : State). s.top ≤ last') same_view top;
      parts = each_one owns i own_after (λ j o. IsPartOf o after) own_part other_part;
      apart = apart';
      whose = whose';
      published = published';
      each = each';
    }
      where
        apart' : (j l : ℕ) → j ≢ l → AreApart (owns_after j).sessions (owns_after l).sessions
        apart' j l ne = elim (cases_eq j i) [
          | inl e ↦ let off : l ≢ i = λ f. ne (e ∙ sym f) in subst (λ (o : Own). AreApart o.sessions (owns_after l).sessions) (sym (at_own owns i own_after j e)) (subst (λ (o : Own). AreApart own_after.sessions o.sessions) (sym (at_other owns i own_after l off)) (own_apart l off))
          | inr off ↦ subst (λ (o : Own). AreApart o.sessions (owns_after l).sessions) (sym (at_other owns i own_after j off)) (elim (cases_eq l i) [
            | inl f ↦ subst (λ (o : Own). AreApart (owns j).sessions o.sessions) (sym (at_own owns i own_after l f)) (other_apart j off)
            | inr far ↦ subst (λ (o : Own). AreApart (owns j).sessions o.sessions) (sym (at_other owns i own_after l far)) (shows.apart j l ne)
          ])
        ]

        whose' : (t : ℕ) (p : Phase) → InPhase after t p → (j : ℕ) × (get (owns_after j).sessions t ≡ Some p)
        whose' t p h = elim (leads.each t p h) [
          | inl now ↦ (i, subst (λ (o : Own). get o.sessions t ≡ Some p) (sym (at_own owns i own_after i refl)) now)
          | inr (none, before) ↦ let (j, g) = shows.whose t p before in elim (cases_eq j i) [
            | inl e ↦ absurd (none-some p (sym none ∙ subst (λ (n : ℕ). get (owns n).sessions t ≡ Some p) e g))
            | inr ne ↦ (j, subst (λ (o : Own). get o.sessions t ≡ Some p) (sym (at_other owns i own_after j ne)) g)
          ]
        ]

        published' : (j : ℕ) → IsBelowAll (view after (owns_after j)) (floors j)
        published' = each_one owns i own_after (λ j o. IsBelowAll (view after o) (floors j)) (subst (λ (s : State). IsBelowAll s (floors i)) same_view low)
            (λ j ne. let b = shows.published j in let under = b.0 in let rises = leads.rises in (omega arith, b.1))

        each' : (j : ℕ) → ShowsServer cells' (with_one servers i server' j) (view after (owns_after j))
        each' j = elim (cases_eq j i) [
          | inl e ↦ subst (λ (o : Own). ShowsServer cells' (with_one servers i server' j) (view after o)) (sym (at_own owns i own_after j e)) (subst (λ (s : Server). ShowsServer cells' s (view after own_after)) (sym (at_own servers i server' j e)) (subst (λ s. ShowsServer cells' server' s) same_view server_shown))
          | inr ne ↦ subst (λ (o : Own). ShowsServer cells' (with_one servers i server' j) (view after o)) (sym (at_other owns i own_after j ne)) (subst (λ (s : Server). ShowsServer cells' s (view after (owns j))) (sym (at_other servers i server' j ne)) (other_each j ne))
        ]

  -- ---- the turn

  -- what one request comes to
  pub record Turned (q : Request) (r : Reply) : Type 0 where
    pub next : State
    pub owns_next : ℕ → Own
    pub turn_taken : IsTurn st owns i q r next owns_next
    pub shown : ShowsServers cells' (with_one servers i server') floors last' next owns_next

  accepted : (q : Request) (r : Reply) (next : State) → q ≢ CollectBegin → IsAcceptable (view st own) q → Acts (view st own) q r next → ChangesCells cells (view st own) cells' → ShowsCells cells' next → ShowsServer cells' server' next → next.top ≤ last' → Turned q r
  accepted q r next ne ok act changes cells_shown server_shown top =
      let low = acts_below (floors i) act (shows.published i) in
      let (whole, lifted) = views_lift turn next mine q r turn_reached part.sessions ne act in
      let leads = leads_by turn_reached ok lifted in
      let own_next : Own = own_after next whole leads changes cells_shown server_shown top low in
      let machine : State = after next whole leads changes cells_shown server_shown top low in record {
        next = machine;
        owns_next = with_one owns i own_next;
        turn_taken = record {
          seen = subst (λ (o : Own). Step (view st own) q r (view machine o)) (sym (at_own owns i own_next i refl)) (subst (λ (s : State). Step (view st own) q r s) lifted.seen (accepts ok act));
          whole = inr (subst (λ (o : Own). Acts turn q r (turn_of machine o)) (sym (at_own owns i own_next i refl)) lifted.by);
          others = λ j off. at_other owns i own_next j off;
        };
        shown = shows_after next whole leads changes cells_shown server_shown top low;
      }

  pub refused : (q : Request) (n : Refusal) → Refuses (view st own) q n → ChangesCells cells (view st own) cells' → ShowsCells cells' (view st own) → ShowsServer cells' server' (view st own) → st.top ≤ last' → Turned q (Refused n)
  refused q n why changes cells_shown server_shown top =
      let low = shows.published i in
      let leads = leads_nowhere turn mine turn_reached part.sessions in
      let own_next : Own = own_after (view st own) turn leads changes cells_shown server_shown top low in record {
        next = st;
        owns_next = with_one owns i own_next;
        turn_taken = record {
          seen = subst (λ (o : Own). Step (view st own) q (Refused n) (view st o)) (sym (at_own owns i own_next i refl)) (refuses why);
          whole = inl (n, refl, refl);
          others = λ j off. at_other owns i own_next j off;
        };
        shown = shows_after (view st own) turn leads changes cells_shown server_shown top low;
      }

  pub turned : (q : Request) (r : Reply) (next : State) → q ≢ CollectBegin → Step (view st own) q r next → ChangesCells cells (view st own) cells' → ShowsCells cells' next → ShowsServer cells' server' next → next.top ≤ last' → Turned q r
  turned q r next ne (accepts ok act) changes cells_shown server_shown top = accepted q r next ne ok act changes cells_shown server_shown top
  turned q _ next ne (refuses {n = n} why) changes cells_shown server_shown top = refused q n why changes cells_shown server_shown top
