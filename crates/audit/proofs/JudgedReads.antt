-- Reads: the audit's state before and after them.
use Rattle.std.proofs.Common.{◌≡◌, ◌≢◌, ◌∙◌, ℕ, ◌+◌, ◌<◌, ◌≤◌, inl, inr, Bool, true, false, List, [], ◌∷◌, ◌++◌, length, map, Option, Some, None, refl, sym, subst, ap, arith}
use Rattle.std.specs.List.{AllByRecursion}
use Rattle.std.specs.Prelude.{is_some, cond, if◌then◌else◌}
use Rattle.std.specs.FinMap.{get}
use Rattle.std.specs.Ordering.{nat_cmp, is_eq}
use Rattle.std.specs.BTreeMap as btree
use Rattle.std.proofs.lemmas.Bool.{cases_eq, cases_lt}
use Rattle.std.proofs.lemmas.Option.{none-some, same_Some}
use Rattle.cell_key.specs.Names.{IsRow, IsFamily, IsFamilyByte}
use Rattle.cell_key.specs.declared.refusals.Refusal.{Refusal}
use Rattle.cell_key.specs.declared.refusals.Refusal.TheVariants.{BadRow, BadColumn, BadCount, UnknownSession, WrongPhase}
use Rattle.si_model.specs.Machine as machine
use Rattle.si_model.specs.Machine.{State, Item, Value, Valued, Locked, Unsent, Open, InPhase, Marked, IsSnapshot, IsReached, Reply, Answered, Pending, Refused, Refuses, IsAcceptable, IsFirstRefusal, IsStorageRefusal, Step, accepts, reads, tells, waits, stops, StopDone, Begin, Get, Stop}
use Rattle.si_model.specs.Refusing.{get_row, get_family}
use Rattle.si_model.specs.Refusing.Refuses.{applies_first, gives_up}
use Rattle.si_model.specs.Scans.{IsFreeAt}
use Rattle.si_model.specs.Transactions.{Goes, IsReadCount, IsTold, Opens, Read, ReadDone, ReadsAll, all_read, finds, ReadsTogether, Said, StaysOrEnds, has_nothing, is_sent, is_left_out, is_blocked, miscounts, most_told, names_late, names_unknown, refuses_begin, refuses_read, reads_together, told_length}
use Rattle.si_model.specs.Transactions as several
use Rattle.si_model.specs.declared.replies.Cell.{Cell}
use Rattle.si_model.proofs.Acceptable.{begin_ok, get_ok, stop_ok}
use Rattle.si_model.proofs.Decided.{mark_of, snapshot_of}
use Rattle.si_model.proofs.FirstRefusals.{get_row_first, get_family_first}
use Rattle.si_model.proofs.Reached.{stays_reached}
use Rattle.si_model.proofs.Steps.{reached_sound}
use Rattle.audit.specs.Audits.{Keeps, KeepsReached, SameMembers, commit_of}
use Rattle.audit.specs.AuditOperations.{MayOpen, MayRead, MayTell, MayTellAll, RefusesFirstName, RefusesOnly}
use Rattle.audit.specs.AuditRefusals.{RefusesFirst, RefusesName, RefusesUnlessOpen}
use Rattle.audit.specs.AuditScans.{seen}
use Rattle.si_model.specs.Takings.{IsNamed}
use Rattle.audit.specs.declared.audit.Audit.{Audit}
use Rattle.audit.specs.declared.audit.parts.Phase.{Phase}
use Rattle.audit.proofs.JudgedCommits.{late_phase}
use Rattle.audit.proofs.JudgedRefusals.{only_first}
use Rattle.audit.proofs.JudgedSessions.{in_no_phase, in_phase, kept_open, stop_yes, with_read}
use Rattle.audit.proofs.OpenedSessions.{IsAt, opened, opens}
use Rattle.audit.proofs.Searches.{snapshot_over}

-- ---- names

at_least : (m n : ℕ) → ¬ (¬ (m ≤ n)) → m ≤ n
at_least m n h = elim (cases_lt n m) [ inl lt ↦ absurd (h (λ le. absurd (omega (arith, lt, le)))) | inr ge ↦ ge ]

row_stable : (row : List ℕ) → ¬ (¬ IsRow row) → IsRow row
row_stable row h = record {
  some = at_least 1 (length row) (λ n. h (λ p. n p.some));
  few = at_least (length row) 4000 (λ n. h (λ p. n p.few));
}

byte_stable : (b : ℕ) → ¬ (¬ IsFamilyByte b) → IsFamilyByte b
byte_stable b h = record {
  low = at_least 33 b (λ n. h (λ p. n p.low));
  high = at_least b 126 (λ n. h (λ p. n p.high));
  no_colon = λ e. h (λ p. p.no_colon e);
}

bytes_stable : (bs : List ℕ) → ¬ (¬ AllByRecursion IsFamilyByte bs) → AllByRecursion IsFamilyByte bs
bytes_stable [] h = tt
bytes_stable (b ∷ bs) h = (byte_stable b (λ n. h (λ p. n p.0)), bytes_stable bs (λ n. h (λ p. n p.1)))

family_stable : (family : List ℕ) → ¬ (¬ IsFamily family) → IsFamily family
family_stable family h = record {
  some = at_least 1 (length family) (λ n. h (λ p. n p.some));
  few = at_least (length family) 64 (λ n. h (λ p. n p.few));
  bytes = bytes_stable family (λ n. h (λ p. n p.bytes));
}

-- ---- the reads of a session

module _ (old : Audit) (s : ℕ) where
  -- a state in which the session is open, with the audit's marks and commits
  record Sees (st : State) : Type 0 where
    active : InPhase st s Open
    marks : SameMembers old.marks st.marks
    commits : SameMembers (map commit_of old.commits) st.commits

  -- only reads were added
  abbrev OnlyRead : State → State → Type 0
  OnlyRead st next = next ≡ record st { reads = next.reads }

  read_then : (a b c : State) → OnlyRead a b → OnlyRead b c → OnlyRead a c
  read_then a b c f g = g ∙ ap (λ (m : State). record m { reads = c.reads }) f

  sees_still : (st next : State) → OnlyRead st next → Sees st → Sees next
  sees_still st next only sees = subst Sees (sym only) (record { active = sees.active; marks = sees.marks; commits = sees.commits })

  read_so : (st : State) (x : Cell) (reply : Reply) → Sees st → IsNamed x → MayRead (seen old) s x reply → (next : State) × Step st (Get s x) reply next × OnlyRead st next
  read_so st x (Answered answer) sees named may = (
    record st { reads = record { start = s; cell = x; answer = answer } ∷ st.reads },
    accepts (get_ok sees.active named.0 named.1) (reads sees.active (λ t m. may.0 t ((sees.marks (x, t)).1 m)) (snapshot_over (map commit_of old.commits) st.commits sees.commits s x answer may.1)),
    refl,
  )
  read_so st x (Pending t) sees named may = (st, accepts (get_ok sees.active named.0 named.1) (tells (waits sees.active ((sees.marks (x, t)).0 may.0) may.1)), refl)
  read_so st x _ sees named may = absurd may

  tell_all : (xs : List Cell) (said : List (Option Item)) (used : ℕ) (st : State) → Sees st → MayTellAll old s used xs said → (next : State) × ReadsAll s used st xs said next × OnlyRead st next
  tell_all [] [] used st sees h = (st, all_read, refl)
  tell_all [] (r ∷ rs) used st sees h = absurd h
  tell_all (x ∷ xs) [] used st sees h = absurd h
  tell_all (x ∷ xs) (r ∷ rs) used st sees h =
      let one = read_so st x h.0.reply sees h.0.named h.0.read in
      let more = tell_all xs rs (used + told_length r) one.0 (sees_still st one.0 one.2 sees) h.1 in
      (more.0, finds h.0.reply one.1 h.0.told more.1, read_then st one.0 more.0 one.2 more.2)

  -- what the machine reads, the audit may tell
  named_by : (st : State) (x : Cell) → IsAcceptable st (Get s x) → IsNamed x
  named_by st x ok = (row_stable x.row (λ n. ok BadRow (get_row n)), family_stable x.family (λ n. ok BadColumn (get_family n)))

  read_back : (st next : State) (x : Cell) (used : ℕ) (reply : Reply) (said : Option Item) → Sees st → Step st (Get s x) reply next → IsTold used reply said → MayTell old s used x said × OnlyRead st next
  read_back st next x used (Answered answer) said sees (accepts ok (reads h free shown)) told =
      (record { named = named_by st x ok; reply = Answered answer; read = (λ t m. free t ((sees.marks (x, t)).0 m), snapshot_over st.commits (map commit_of old.commits) (λ a. ((sees.commits a).1, (sees.commits a).0)) s x answer shown); told = told }, refl)
  read_back st next x used (Answered answer) said sees (accepts ok (tells t)) told = elim t [ ]
  read_back st next x used (Pending t) said sees (accepts ok (tells (waits h m low))) told =
      (record { named = named_by st x ok; reply = Pending t; read = ((sees.marks (x, t)).1 m, low); told = told }, refl)
  read_back st next x used _ said sees step told = elim told [ ]

  told_all : {xs : List Cell} {said : List (Option Item)} {used : ℕ} {st next : State} → Sees st → ReadsAll s used st xs said next → MayTellAll old s used xs said × OnlyRead st next
  told_all sees all_read = (tt, refl)
  told_all {used = used} {st = st} {next = next} sees (finds {mid = mid} {x = x} {said = r} reply step told more) =
      let one = read_back st mid x used reply r sees step told in
      let rest = told_all (sees_still st mid one.1 sees) more in
      ((one.0, rest.0), read_then st mid next one.1 rest.1)

  -- a cell whose names are valid can be read
  can_read : (st : State) (x : Cell) (used : ℕ) → IsReached st → Sees st → IsNamed x → (said : Option Item) × MayTell old s used x said
  can_read st x used reached sees named = elim (mark_of st.marks x) [
    | inr none ↦ shown (λ t m. absurd (none t ((sees.marks (x, t)).0 m)))
    | inl (t, m) ↦ elim (cases_lt s t) [
      | inl late ↦ shown (λ u n. subst (λ (v : ℕ). s < v) ((reached_sound reached).one_mark x t u m ((sees.marks (x, u)).0 n)) late)
      | inr low ↦ (Some (Locked t), record { named = named; reply = Pending t; read = ((sees.marks (x, t)).1 m, low); told = is_blocked })
    ]
  ]
    where
      said_of : (answer : Option Value) → (said : Option Item) × IsTold used (Answered answer) said
      said_of None = (None, has_nothing)
      said_of (Some value) = elim (cases_lt most_told (used + told_length (Some (Valued value)))) [
        | inl many ↦ (Some Unsent, is_left_out many)
        | inr few ↦ (Some (Valued value), is_sent few)
      ]

      shown : IsFreeAt (seen old) s x → (said : Option Item) × MayTell old s used x said
      shown free =
          let found = snapshot_of (map commit_of old.commits) s x in
          let told = said_of found.0 in
          (told.0, record { named = named; reply = Answered found.0; read = (free, found.1); told = told.1 })

  can_read_all : (xs : List Cell) (st : State) (used : ℕ) → IsReached st → Sees st → AllByRecursion IsNamed xs → (said : List (Option Item)) × MayTellAll old s used xs said
  can_read_all [] st used reached sees all = ([], tt)
  can_read_all (x ∷ xs) st used reached sees all =
      let one = can_read st x used reached sees all.0 in
      let more = can_read_all xs st (used + told_length one.0) reached sees all.1 in
      (one.0 ∷ more.0, (one.1, more.1))

  sees_at : (st : State) (reached : IsReached st) (kept : Keeps old st) (mid : State) (all : machine.Writes) → IsAt old st reached kept s mid all → Sees mid
  sees_at st reached kept mid all at = record {
    active = at.active;
    marks = subst (λ (m : State). SameMembers old.marks m.marks) (sym at.rest) kept.marks;
    commits = subst (λ (m : State). SameMembers (map commit_of old.commits) m.commits) (sym at.rest) kept.commits;
  }

-- ---- a Read that is answered

module _ (old : Audit) (start : ℕ) (xs : List Cell) (stays_open : Bool) where
  module _ (s : ℕ) (said : List (Option Item)) where
    -- what each run tells that reads this
    pub record HasRead : Type 0 where
      pub count : IsReadCount (length xs)
      pub may : MayOpen old start s
      pub told : MayTellAll old s 0 xs said

    pub has_read : (st next : State) → KeepsReached old st → Goes st (Read start xs stays_open) (ReadDone s said) next → HasRead
    has_read st next k (reads_together (several.reads {mid = mid} {read = read} count o all end)) =
        let from = opened old st k.0 k.1 start s mid o in
        record {
          count = count;
          may = from.0;
          told = (told_all old s (sees_at old s st k.0 k.1 mid from.1.before from.1.at) all).0;
        }

    pub not_read : ¬ HasRead → (st next : State) → KeepsReached old st → Goes st (Read start xs stays_open) (ReadDone s said) next → ⊥
    not_read not st next k goes = not (has_read st next k goes)

    module _ (opening : Audit) (opens_to : (st : State) → KeepsReached old st → (mid : State) × Opens st start s mid × KeepsReached opening mid) (count : IsReadCount (length xs)) (tells : MayTellAll old s 0 xs said) where
      record AllRead (st : State) : Type 0 where
        mid : State
        read : State
        opens : Opens st start s mid
        all : ReadsAll s 0 mid xs said read
        active : InPhase read s Open
        kept : Keeps opening read

      all_told : (st : State) → KeepsReached old st → AllRead st
      all_told st k =
          let o = opens_to st k in
          let from = (opened old st k.0 k.1 start s o.0 o.1).1 in
          let sees = sees_at old s st k.0 k.1 o.0 from.before from.at in
          let t = tell_all old s xs said 0 o.0 sees tells in
          record {
            mid = o.0;
            read = t.0;
            opens = o.1;
            all = t.1;
            active = (sees_still old s o.0 t.0 t.2 sees).active;
            kept = subst (Keeps opening) (sym t.2) (with_read opening o.0 t.0.reads o.2.1);
          }

      pub read_stays : stays_open ≡ true → (st : State) → KeepsReached old st → (next : State) × Goes st (Read start xs stays_open) (ReadDone s said) next × KeepsReached opening next
      read_stays is st k =
          let r = all_told st k in
          let goes : Goes st (Read start xs stays_open) (ReadDone s said) r.read = reads_together (several.reads count r.opens r.all (subst (λ (b : Bool). StaysOrEnds b r.read s r.read) (sym is) refl)) in
          (r.read, goes, (stays_reached st r.read (Read start xs stays_open) (ReadDone s said) k.0 goes, r.kept))

      pub read_ends : stays_open ≡ false → (active : btree.BTreeMap ℕ Phase) (o : Option Phase) → o ≡ btree.get nat_cmp opening.active s
          → ((q : ℕ) → btree.get nat_cmp active q ≡ cond (is_eq (nat_cmp s q)) None (btree.get nat_cmp opening.active q))
          → btree.btree_map_len active + (if is_some o then 1 else 0) ≡ btree.btree_map_len opening.active
          → (st : State) → KeepsReached old st → (next : State) × Goes st (Read start xs stays_open) (ReadDone s said) next × KeepsReached (record opening { active = active }) next
      read_ends is active o was at len st k =
          let r = all_told st k in
          let there : is_some o ≡ true = ap is_some (was ∙ kept_open opening r.read s r.kept r.active) in
          let stop = stop_yes opening active s o was there at len r.read r.kept in
          let goes : Goes st (Read start xs stays_open) (ReadDone s said) stop.0 = reads_together (several.reads count r.opens r.all (subst (λ (b : Bool). StaysOrEnds b r.read s stop.0) (sym is) (accepts (stop_ok Open r.active) stop.1))) in
          (stop.0, goes, (stays_reached st stop.0 (Read start xs stays_open) (ReadDone s said) k.0 goes, stop.2))

  -- no session is opened
  pub not_opened : (s : ℕ) (said : List (Option Item)) → ((st mid : State) → KeepsReached old st → Opens st start s mid → ⊥) → (st next : State) → KeepsReached old st → Goes st (Read start xs stays_open) (ReadDone s said) next → ⊥
  not_opened s said none st next k (reads_together (several.reads {mid = mid} count o all end)) = none st mid k o

  -- ---- refusals

  -- why a Read is refused, but by the storage
  data Why (st : State) (n : Refusal) : Type 0 where
    miscounted : ¬ IsReadCount (length xs) → n ≡ BadCount → Why st n
    unknown : IsReadCount (length xs) → start ≢ 0 → get st.active start ≡ None → n ≡ UnknownSession → Why st n
    late : {p : machine.Phase} → IsReadCount (length xs) → start ≢ 0 → InPhase st start p → p ≢ Open → n ≡ WrongPhase → Why st n
    full : IsReadCount (length xs) → start ≡ 0 → Refuses st Begin n → Why st n
    in_read : {s : ℕ} {before : List Cell} {x : Cell} {said : List (Option Item)} {mid far : State} (after : List Cell) → IsReadCount (length xs) → xs ≡ before ++ x ∷ after → Opens st start s mid → ReadsAll s 0 mid before said far → Refuses far (Get s x) n → Why st n

  why_of : {st next : State} {n : Refusal} → ¬ IsStorageRefusal n → Goes st (Read start xs stays_open) (Said (Refused n)) next → Why st n × (next ≡ st)
  why_of not (reads_together (miscounts bad)) = (miscounted bad refl, refl)
  why_of not (reads_together (several.gives_up_reads g)) = absurd (not g)
  why_of not (reads_together (refuses_begin count is0 r)) = (full count is0 r, refl)
  why_of not (reads_together (refuses_read after count is o all r)) = (in_read after count is o all r, refl)
  why_of not (reads_together (names_unknown count ne e)) = (unknown count ne e refl, refl)
  why_of not (reads_together (names_late count ne h l)) = (late count ne h l refl, refl)

  only : (found : Option Refusal) → ((st : State) (n : Refusal) → KeepsReached old st → ¬ IsStorageRefusal n → found ≡ Some n → Goes st (Read start xs stays_open) (Said (Refused n)) st)
      → ((st : State) (n : Refusal) → KeepsReached old st → ¬ IsStorageRefusal n → Why st n → found ≡ Some n) → RefusesOnly old (Read start xs stays_open) found
  only found to from st next n k not = (to st n k not, λ goes. let w = why_of not goes in (from st n k not w.0, w.1))

  -- a refusal that is the one found
  as_found : (st : State) (m n : Refusal) → Some m ≡ Some n → Goes st (Read start xs stays_open) (Said (Refused m)) st → Goes st (Read start xs stays_open) (Said (Refused n)) st
  as_found st m n e goes = subst (λ (i : Refusal). Goes st (Read start xs stays_open) (Said (Refused i)) st) (same_Some m n e) goes

  pub refused_count : ¬ IsReadCount (length xs) → RefusesOnly old (Read start xs stays_open) (Some BadCount)
  refused_count bad = only (Some BadCount) (λ st n k not e. as_found st BadCount n e (reads_together (miscounts bad))) (λ st n k not why. from st n why)
    where
      from : (st : State) (n : Refusal) → Why st n → Some BadCount ≡ Some n
      from st n (miscounted b is) = ap Some (sym is)
      from st n (unknown count ne e is) = absurd (bad count)
      from st n (late count ne g l is) = absurd (bad count)
      from st n (full count is0 r) = absurd (bad count)
      from st n (in_read after count is o all r) = absurd (bad count)

  module _ (count : IsReadCount (length xs)) where
    module _ (none : (s : ℕ) → ¬ MayOpen old start s) where
      opens_none : (st : State) → KeepsReached old st → {s : ℕ} {mid : State} → Opens st start s mid → ⊥
      opens_none st k {s} {mid} o = none s (opened old st k.0 k.1 start s mid o).0

      unopened_named : (ne : start ≢ 0) (found : Option Refusal) → RefusesUnlessOpen old start found → RefusesOnly old (Read start xs stays_open) found
      unopened_named ne None h = absurd (none start (inl (ne, refl, h)))
      unopened_named ne (Some UnknownSession) h = only (Some UnknownSession) (λ st n k not e. as_found st UnknownSession n e (reads_together (names_unknown count ne (in_no_phase old st start k.1 h)))) (λ st n k not why. from st n k why)
        where
          from : (st : State) (n : Refusal) → KeepsReached old st → Why st n → Some UnknownSession ≡ Some n
          from st n k (miscounted b is) = absurd (b count)
          from st n k (unknown few ne' e is) = ap Some (sym is)
          from st n k (late {p = p} few ne' g l is) = absurd (none-some p (sym (in_no_phase old st start k.1 h) ∙ g))
          from st n k (full few is0 r) = absurd (ne is0)
          from st n k (in_read after few is o all r) = absurd (opens_none st k o)
      unopened_named ne (Some WrongPhase) h = only (Some WrongPhase) (λ st n k not e. as_found st WrongPhase n e (reads_together (names_late count ne (in_phase old st start h.0 k.1 h.1) (λ is. late_phase h.0 h.2 is)))) (λ st n k not why. from st n k why)
        where
          from : (st : State) (n : Refusal) → KeepsReached old st → Why st n → Some WrongPhase ≡ Some n
          from st n k (miscounted b is) = absurd (b count)
          from st n k (unknown few ne' e is) = absurd (none-some _ (sym e ∙ in_phase old st start h.0 k.1 h.1))
          from st n k (late few ne' g l is) = ap Some (sym is)
          from st n k (full few is0 r) = absurd (ne is0)
          from st n k (in_read after few is o all r) = absurd (opens_none st k o)
      unopened_named ne (Some _) h = absurd h

      unopened_new : (is0 : start ≡ 0) (found : Option Refusal) → RefusesFirst old Begin found → RefusesOnly old (Read start xs stays_open) found
      unopened_new is0 None h = only None (λ st n k not e. absurd (none-some n e)) (λ st n k not why. absurd (from st n k not why))
        where
          from : (st : State) (n : Refusal) → KeepsReached old st → ¬ IsStorageRefusal n → Why st n → ⊥
          from st n k not (miscounted b is) = b count
          from st n k not (unknown few ne e is) = ne is0
          from st n k not (late few ne g l is) = ne is0
          from st n k not (full few e (applies_first f)) = h st k.1 n f.applies
          from st n k not (full few e (gives_up g)) = not g
          from st n k not (in_read after few is o all r) = opens_none st k o
      unopened_new is0 (Some m) h = only (Some m) (λ st n k not e. as_found st m n e (reads_together (refuses_begin count is0 (applies_first (h st k.1))))) (λ st n k not why. from st n k not why)
        where
          from : (st : State) (n : Refusal) → KeepsReached old st → ¬ IsStorageRefusal n → Why st n → Some m ≡ Some n
          from st n k not (miscounted b is) = absurd (b count)
          from st n k not (unknown few ne e is) = absurd (ne is0)
          from st n k not (late few ne g l is) = absurd (ne is0)
          from st n k not (full few e r) = ap Some (only_first st Begin m n (h st k.1) not r)
          from st n k not (in_read after few is o all r) = absurd (opens_none st k o)

      pub unopened : (found : Option Refusal) → (start ≢ 0 → RefusesUnlessOpen old start found) → (start ≡ 0 → RefusesFirst old Begin found) → RefusesOnly old (Read start xs stays_open) found
      unopened found named new = elim (cases_eq start 0) [ inl is0 ↦ unopened_new is0 found (new is0) | inr ne ↦ unopened_named ne found (named ne) ]

    module _ (s : ℕ) (may : MayOpen old start s) where
      -- the first cell whose names aren't valid
      record FirstUnnamed (ys : List Cell) (n : Refusal) : Type 0 where
        before : List Cell
        cell : Cell
        after : List Cell
        split : ys ≡ before ++ cell ∷ after
        named : AllByRecursion IsNamed before
        why : RefusesName cell (Some n)

      first_unnamed : (ys : List Cell) (n : Refusal) → RefusesFirstName ys (Some n) → FirstUnnamed ys n
      first_unnamed [] n h = absurd (none-some n (sym h))
      first_unnamed (y ∷ ys) n (inl (some, why)) = record { before = []; cell = y; after = ys; split = refl; named = tt; why = why }
      first_unnamed (y ∷ ys) n (inr (named, rest)) =
          let f = first_unnamed ys n rest in
          record { before = y ∷ f.before; cell = f.cell; after = f.after; split = ap (λ (l : List Cell). y ∷ l) f.split; named = (named, f.named); why = f.why }

      refuses_get : (u : ℕ) (st : State) (x : Cell) (n : Refusal) → InPhase st u Open → RefusesName x (Some n) → Refuses st (Get u x) n
      refuses_get u st x BadRow h why = get_row_first h why
      refuses_get u st x BadColumn h why = get_family_first h why.0 why.1
      refuses_get u st x _ h why = absurd why

      not_storage : (x : Cell) (n : Refusal) → RefusesName x (Some n) → ¬ IsStorageRefusal n
      not_storage x BadRow why g = g
      not_storage x BadColumn why g = g
      not_storage x _ why g = absurd why

      first_get : (u : ℕ) (st : State) (x : Cell) (n : Refusal) → ¬ IsStorageRefusal n → Refuses st (Get u x) n → IsFirstRefusal st (Get u x) n
      first_get u st x n not (applies_first f) = f
      first_get u st x n not (gives_up g) = absurd (not g)

      here_refused : (u : ℕ) (st : State) (x : Cell) (ys : List Cell) (n : Refusal) (found : Option Refusal) → InPhase st u Open → Refuses st (Get u x) n → ¬ IsStorageRefusal n → RefusesFirstName (x ∷ ys) found → found ≡ Some n
      here_refused u st x ys n None h r not (inl (some, why)) = absurd (some refl)
      here_refused u st x ys n (Some m) h r not (inl (some, why)) = ap Some (only_first st (Get u x) m n (first_get u st x m (not_storage x m why) (refuses_get u st x m h why)) not r)
      here_refused u st x ys n found h r not (inr (named, rest)) = absurd (get_ok h named.0 named.1 n (first_get u st x n not r).applies)

      names_bad : (y : Cell) (found : Option Refusal) → IsNamed y → found ≢ None → RefusesName y found → ⊥
      names_bad y None named some why = some refl
      names_bad y (Some BadRow) named some why = why named.0
      names_bad y (Some BadColumn) named some why = why.1 named.1
      names_bad y (Some _) named some why = absurd why

      later_refused : {u : ℕ} {before : List Cell} {said : List (Option Item)} {used : ℕ} {st far : State} (ys : List Cell) (x : Cell) (n : Refusal) (found : Option Refusal) → Sees old u st → ReadsAll u used st before said far → Refuses far (Get u x) n → ¬ IsStorageRefusal n → RefusesFirstName (before ++ x ∷ ys) found → found ≡ Some n
      later_refused {u = u} {st = st} ys x n found sees all_read r not h = here_refused u st x ys n found sees.active r not h
      later_refused {u = u} {used = used} {st = st} ys x n found sees (finds {mid = mid} {x = y} {said = told_here} reply step told more) r not (inl bad) =
          absurd (names_bad y found (read_back old u st mid y used reply told_here sees step told).0.named bad.0 bad.1)
      later_refused {u = u} {used = used} {st = st} ys x n found sees (finds {mid = mid} {x = y} {said = told_here} reply step told more) r not (inr rest) =
          let one = read_back old u st mid y used reply told_here sees step told in
          later_refused ys x n found (sees_still old u st mid one.1 sees) more r not rest.1

      pub refused_name : (found : Option Refusal) → RefusesFirstName xs found → RefusesOnly old (Read start xs stays_open) found
      refused_name found h = only found (to found h) from
        where
          to : (found : Option Refusal) → RefusesFirstName xs found → (st : State) (n : Refusal) → KeepsReached old st → ¬ IsStorageRefusal n → found ≡ Some n → Goes st (Read start xs stays_open) (Said (Refused n)) st
          to None h st n k not e = absurd (none-some n e)
          to (Some m) h st n k not e =
              let f = first_unnamed xs m h in
              let o = opens old st k.0 k.1 start s may in
              let sees = sees_at old s st k.0 k.1 o.0 o.2.before o.2.at in
              let can = can_read_all old s f.before o.0 0 o.2.at.reached sees f.named in
              let t = tell_all old s f.before can.0 0 o.0 sees can.1 in
              as_found st m n e (reads_together (refuses_read f.after count f.split o.1 t.1 (refuses_get s t.0 f.cell m (sees_still old s o.0 t.0 t.2 sees).active f.why)))

          from : (st : State) (n : Refusal) → KeepsReached old st → ¬ IsStorageRefusal n → Why st n → found ≡ Some n
          from st n k not (miscounted b is) = absurd (b count)
          from st n k not (unknown few ne e is) = absurd (no_phase may)
            where
              no_phase : MayOpen old start s → ⊥
              no_phase (inl (ne', same, h)) = none-some _ (sym e ∙ in_phase old st start _ k.1 h)
              no_phase (inr (is0, low, high, few)) = ne is0
          from st n k not (late {p = p} few ne g l is) = absurd (no_phase may)
            where
              no_phase : MayOpen old start s → ⊥
              no_phase (inl (ne', same, h)) = l (same_Some p Open (sym g ∙ in_phase old st start _ k.1 h))
              no_phase (inr (is0, low, high, few)) = ne is0
          from st n k not (full few is0 r) = absurd (no_room may r)
            where
              no_room : MayOpen old start s → Refuses st Begin n → ⊥
              no_room (inl (ne, same, found)) r = ne is0
              no_room (inr (e, low, high, few)) (applies_first f) = let open_count = k.1.active_count in begin_ok (omega (arith, few, open_count)) n f.applies
              no_room (inr (e, low, high, few)) (gives_up g) = not g
          from st n k not (in_read {s = u} {before = before} {x = x} {said = said} {mid = mid} {far = far} after few is o all r) =
              let from = (opened old st k.0 k.1 start u mid o).1 in
              later_refused after x n found (sees_at old u st k.0 k.1 mid from.before from.at) all r not (subst (λ (l : List Cell). RefusesFirstName l found) is h)
