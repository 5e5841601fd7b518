-- A step of what one server sees is a step of the whole machine.
use Rattle.std.proofs.Common.{◌≡◌, ◌≢◌, ℕ, ◌+◌, ◌≤◌, ◌<◌, ◌⊎◌, Bool, true, false, cond, List, [], ◌∷◌, length, Option, Some, None, inl, inr, refl, sym, ap, ◌∙◌, arith}
use Rattle.std.specs.Prelude.{nat_eq}
use Rattle.std.specs.FinMap.{get, insert, remove}
use Rattle.std.proofs.lemmas.Option.{none-some}
use Rattle.si_model.specs.Scans.{IsScanned, IsSaid, Says, Covers}
use Rattle.si_model.specs.declared.replies.Cell.{Cell}
use Rattle.si_model.specs.Machine.{State, Range, Reach, Item, Valued, Locked, Unsent, Phase, Open, Holding, Stamped, Finishing, Request, Reply, CollectBegin, Writes, HasHeld, finishing}
use Rattle.si_model.specs.Machine.{Acts, tells, waits, finds_none, is_blocked, goes_further, minors, merges, majors, sweeps, restarts, finds_raw, checkpoints, reports, begins, reads, scans, sets, deletes, holds, conflicts, draws, loses, commits, finishes, stops, opens, kills, learns, rolls_forward, rolls_back, finds_gone, collects, has_collected, splits, moves_tablet}
use Rattle.si_model.specs.Servers.{Sessions, HasSessions, seen_with}
use Rattle.si_model.specs.ServerLaws.{IsStepOfAll, ViewsLift}
use Rattle.si_model.proofs.Tools.{get_same, get_other, get_remains, each_insert, each_remove}
use Rattle.si_model.proofs.Invariant.{Sound}
use Rattle.si_model.proofs.Steps.{servers_sound}

-- each session of the first is in the second, in the same phase
abbrev IsAmong : Sessions → Sessions → Type 0
IsAmong mine all = (t : ℕ) (p : Phase) → get mine t ≡ Some p → get all t ≡ Some p

-- the session is mine, or another's
abbrev IsOfEither : Sessions → Sessions → Sessions → ℕ → Phase → Type 0
IsOfEither now mine all t p = (get now t ≡ Some p) ⊎ ((get mine t ≡ None) × (get all t ≡ Some p))

module _ (mine all : Sessions) (among : IsAmong mine all) where
  differs : (t u : ℕ) (p : Phase) → get mine t ≡ Some p → get mine u ≡ None → u ≢ t
  differs t u p h none e = none-some p (sym none ∙ (ap (get mine) e ∙ h))

  same_each : (u : ℕ) (p : Phase) → get all u ≡ Some p → IsOfEither mine mine all u p
  same_each u p h = by (get mine u) refl
    where
      by : (o : Option Phase) → get mine u ≡ o → IsOfEither mine mine all u p
      by None e = inr (e, h)
      by (Some q) e = inl (e ∙ (sym (among u q e) ∙ h))

  insert_among : (t : ℕ) (p : Phase) → IsAmong (insert mine t p) (insert all t p)
  insert_among t p = each_insert mine t (λ u q. get (insert all t p) u ≡ Some q) p (get_same all t p) (λ u q ne h. get_other all t p u ne ∙ among u q h)

  insert_each : (t : ℕ) (v : Phase) (u : ℕ) (p : Phase) → get (insert all t v) u ≡ Some p → IsOfEither (insert mine t v) mine all u p
  insert_each t v = each_insert all t (λ u p. IsOfEither (insert mine t v) mine all u p) v (inl (get_same mine t v))
      (λ u p ne h. elim (same_each u p h) [ inl g ↦ inl (get_other mine t v u ne ∙ g) | inr g ↦ inr g ])

  remove_among : (t : ℕ) → IsAmong (remove mine t) (remove all t)
  remove_among t = each_remove mine t (λ u q. get (remove all t) u ≡ Some q) (λ u q ne h. get_remains all t u ne ∙ among u q h)

  remove_each : (t u : ℕ) (p : Phase) → get (remove all t) u ≡ Some p → IsOfEither (remove mine t) mine all u p
  remove_each t = each_remove all t (λ u p. IsOfEither (remove mine t) mine all u p)
      (λ u p ne h. elim (same_each u p h) [ inl g ↦ inl (get_remains mine t u ne ∙ g) | inr g ↦ inr g ])

  finishing_among : (t c k n : ℕ) → IsAmong (finishing mine t c k n) (finishing all t c k n)
  finishing_among t c k n = elim (nat_eq k n) as (λ b. IsAmong (cond b (remove mine t) (insert mine t (Finishing c k))) (cond b (remove all t) (insert all t (Finishing c k)))) [
    | true ↦ remove_among t
    | false ↦ insert_among t (Finishing c k)
  ]

  finishing_each : (t c k n u : ℕ) (p : Phase) → get (finishing all t c k n) u ≡ Some p → IsOfEither (finishing mine t c k n) mine all u p
  finishing_each t c k n u p = elim (nat_eq k n) as (λ b. get (cond b (remove all t) (insert all t (Finishing c k))) u ≡ Some p → IsOfEither (cond b (remove mine t) (insert mine t (Finishing c k))) mine all u p) [
    | true ↦ remove_each t u p
    | false ↦ insert_each t (Finishing c k) u p
  ]

-- what a change of the session at t leaves of another one
finishing_other : (all : Sessions) (t c k n u : ℕ) → u ≢ t → get (finishing all t c k n) u ≡ get all u
finishing_other all t c k n u ne = elim (nat_eq k n) as (λ b. get (cond b (remove all t) (insert all t (Finishing c k))) u ≡ get all u) [
  | true ↦ get_remains all t u ne
  | false ↦ get_other all t (Finishing c k) u ne
]

module _ (st : State) (mine : Sessions) (i : Sound st) (part : HasSessions st mine) where
  held : (t k : ℕ) → HasHeld (seen_with st mine) t k → HasHeld st t k
  held t k (inl h) = inl (part t (Holding k) h)
  held t k (inr (h, z)) = inr (part t Open h, z)

  -- the new start is no session's
  new_differs : (s u : ℕ) (p : Phase) → st.top < s → get st.active u ≡ Some p → u ≢ s
  new_differs s u p later h e = let (ws, w) = i.has_begun u p h in let low = i.start_low u ws w in omega (arith, e)

  held_differs : (t k u : ℕ) → HasHeld (seen_with st mine) t k → get mine u ≡ None → u ≢ t
  held_differs t k u (inl h) none = differs mine st.active part t u (Holding k) h none
  held_differs t k u (inr (h, z)) none = differs mine st.active part t u Open h none

  scanned_whole : {s cells : ℕ} {range : Range} {keys_only : Bool} {items : List (Cell × Item)} {reach : Reach} → IsScanned (seen_with st mine) s range keys_only cells items reach → IsScanned st s range keys_only cells items reach
  scanned_whole {s = s} {range = range} {items = items} {reach = reach} is = record { said = said_whole is.said; covered = is.covered; rises = is.rises; few = is.few; stops = is.stops; unsent = is.unsent; withheld = is.withheld }
    where
      said_whole : ((x : Cell) → Covers range reach x → (said : Option Item) → Says items x said → IsSaid (seen_with st mine) s x said) → (x : Cell) → Covers range reach x → (said : Option Item) → Says items x said → IsSaid st s x said
      said_whole f x covers None says = f x covers None says
      said_whole f x covers (Some (Valued v)) says = f x covers (Some (Valued v)) says
      said_whole f x covers (Some (Locked t)) says = f x covers (Some (Locked t)) says
      said_whole f x covers (Some Unsent) says = f x covers (Some Unsent) says

  abbrev Lifts : Request → Reply → State → Type 0
  Lifts q r next = (whole : State) × IsStepOfAll st mine q r next whole

  -- a step that leaves all sessions and their writes
  aside : {q : Request} {r : Reply} {next : State} (whole : State) → whole.active ≡ st.active → whole.begun ≡ st.begun → st.top ≤ whole.top → next ≡ seen_with whole mine → Acts st q r whole → Lifts q r next
  aside {next = next} whole active begun rises seen by = (
    whole,
    record {
      by = by;
      seen = seen ∙ ap (λ m. seen_with whole m) (sym now);
      sessions = λ t p h. ap (λ m. get m t) active ∙ part t p (sym (ap (λ m. get m t) now) ∙ h);
      rises = rises;
      each = λ t p h. elim (same_each mine st.active part t p (sym (ap (λ m. get m t) active) ∙ h)) [ inl g ↦ inl (ap (λ m. get m t) now ∙ g) | inr g ↦ inr g ];
      others = λ t p none g. (ap (λ m. get m t) active ∙ g, ap (λ m. get m t) now ∙ none);
      wrote = λ t p ws none g w. ap (λ m. get m t) begun ∙ w;
    },
  )
    where
      now : next.active ≡ mine
      now = ap (λ (s : State). s.active) seen

  -- a session's writes change
  rewritten : {q : Request} {r : Reply} (s : ℕ) (ws' : Writes) → get mine s ≡ Some Open → Acts st q r (record st { begun = insert st.begun s ws' })
      → Lifts q r (record (seen_with st mine) { begun = insert st.begun s ws' })
  rewritten s ws' h by = (
    record st { begun = insert st.begun s ws' },
    record {
      by = by;
      seen = refl;
      sessions = part;
      rises = omega arith;
      each = same_each mine st.active part;
      others = λ u p none g. (g, none);
      wrote = λ u p ws none g w. get_other st.begun s ws' u (differs mine st.active part s u Open h none) ∙ w;
    },
  )

  -- a session goes on, with what its step does beside
  goes_on : {q : Request} {r : Reply} (t : ℕ) (v : Phase) (beside : State) → beside.begun ≡ st.begun → st.top ≤ beside.top → ((u : ℕ) → get mine u ≡ None → u ≢ t)
      → Acts st q r (record beside { active = insert st.active t v }) → Lifts q r (record beside { active = insert mine t v })
  goes_on t v beside begun rises other by = (
    record beside { active = insert st.active t v },
    record {
      by = by;
      seen = refl;
      sessions = insert_among mine st.active part t v;
      rises = rises;
      each = insert_each mine st.active part t v;
      others = λ u p none g. (get_other st.active t v u (other u none) ∙ g, get_other mine t v u (other u none) ∙ none);
      wrote = λ u p ws none g w. ap (λ m. get m u) begun ∙ w;
    },
  )

  ended : {q : Request} {r : Reply} (t : ℕ) → ((u : ℕ) → get mine u ≡ None → u ≢ t)
      → Acts st q r (record st { active = remove st.active t }) → Lifts q r (record st { active = remove mine t })
  ended t other by = (
    record st { active = remove st.active t },
    record {
      by = by;
      seen = refl;
      sessions = remove_among mine st.active part t;
      rises = omega arith;
      each = remove_each mine st.active part t;
      others = λ u p none g. (get_remains st.active t u (other u none) ∙ g, get_remains mine t u (other u none) ∙ none);
      wrote = λ u p ws none g w. w;
    },
  )

  finished : {q : Request} {r : Reply} (t c k n : ℕ) (beside : State) → beside.begun ≡ st.begun → st.top ≤ beside.top → ((u : ℕ) → get mine u ≡ None → u ≢ t)
      → Acts st q r (record beside { active = finishing st.active t c k n }) → Lifts q r (record beside { active = finishing mine t c k n })
  finished t c k n beside begun rises other by = (
    record beside { active = finishing st.active t c k n },
    record {
      by = by;
      seen = refl;
      sessions = finishing_among mine st.active part t c k n;
      rises = rises;
      each = finishing_each mine st.active part t c k n;
      others = λ u p none g. (finishing_other st.active t c k n u (other u none) ∙ g, finishing_other mine t c k n u (other u none) ∙ none);
      wrote = λ u p ws none g w. ap (λ m. get m u) begun ∙ w;
    },
  )

  lift : {q : Request} {r : Reply} {next : State} → q ≢ CollectBegin → Acts (seen_with st mine) q r next → Lifts q r next
  lift ne (tells (waits {s} {t} {x} h m le)) = aside st refl refl (omega arith) refl (tells (waits (part s Open h) m le))
  lift ne (tells (finds_none f)) = aside st refl refl (omega arith) refl (tells (finds_none f))
  lift ne (tells (is_blocked {n = n} h m le)) = aside st refl refl (omega arith) refl (tells (is_blocked {n = n} h m le))
  lift ne (tells (goes_further {n = n} h)) = aside st refl refl (omega arith) refl (tells (goes_further {n = n} h))
  lift ne (tells minors) = aside st refl refl (omega arith) refl (tells minors)
  lift ne (tells merges) = aside st refl refl (omega arith) refl (tells merges)
  lift ne (tells majors) = aside st refl refl (omega arith) refl (tells majors)
  lift ne (tells sweeps) = aside st refl refl (omega arith) refl (tells sweeps)
  lift ne (tells restarts) = aside st refl refl (omega arith) refl (tells restarts)
  lift ne (tells finds_raw) = aside st refl refl (omega arith) refl (tells finds_raw)
  lift ne (tells checkpoints) = aside st refl refl (omega arith) refl (tells checkpoints)
  lift ne (tells reports) = aside st refl refl (omega arith) refl (tells reports)
  lift ne (begins {s = s} d) = (
    record st { top = s; begun = insert st.begun s []; active = insert st.active s Open },
    record {
      by = begins d;
      seen = refl;
      sessions = insert_among mine st.active part s Open;
      rises = (let h = d.0 in omega arith);
      each = insert_each mine st.active part s Open;
      others = λ u p none g. (get_other st.active s Open u (new_differs s u p d.0 g) ∙ g, get_other mine s Open u (new_differs s u p d.0 g) ∙ none);
      wrote = λ u p ws none g w. get_other st.begun s [] u (new_differs s u p d.0 g) ∙ w;
    },
  )
  lift ne (reads {s = s} {x = x} {answer = v} h none shown) = aside (record st { reads = record { start = s; cell = x; answer = v } ∷ st.reads }) refl refl (omega arith) refl (reads (part s Open h) none shown)
  lift ne (scans {s = s} {range = range} {items = items} {reach = reach} h is) =
      aside (record st { scans = record { start = s; range = range; reach = reach; items = items } ∷ st.scans }) refl refl (omega arith) refl (scans (part s Open h) (scanned_whole is))
  lift ne (sets {s = s} {ws' = ws'} h w by) = rewritten s ws' h (sets (part s Open h) w by)
  lift ne (deletes {s = s} {ws' = ws'} h w by) = rewritten s ws' h (deletes (part s Open h) w by)
  lift ne (holds {t = t} {k = k} {x = x} h w puts free) =
      goes_on t (Holding (k + 1)) (record st { marks = (x, t) ∷ st.marks }) refl (omega arith) (λ u none. held_differs t k u h none) (holds (held t k h) w puts free)
  lift ne (conflicts {t = t} {k = k} h w puts clash) = ended t (λ u none. held_differs t k u h none) (conflicts (held t k h) w puts clash)
  lift ne (draws {t = t} {c = c} {ws = ws} h w d) =
      goes_on t (Stamped c) (record st { top = c }) refl (let h = d.0 in omega arith) (λ u none. differs mine st.active part t u (Holding (length ws)) h none) (draws (part t (Holding (length ws)) h) w d)
  lift ne (loses {t = t} {c = c} h dead) = ended t (λ u none. differs mine st.active part t u (Stamped c) h none) (loses (part t (Stamped c) h) dead)
  lift ne (commits {t = t} {c = c} {ws = ws} {marks' = marks'} h alive w puts less) =
      finished t c 1 (length ws) (record st { commits = record { start = t; stamp = c; writes = ws } ∷ st.commits; marks = marks' }) refl (omega arith)
      (λ u none. differs mine st.active part t u (Stamped c) h none) (commits (part t (Stamped c) h) alive w puts less)
  lift ne (finishes {t = t} {c = c} {k = k} {ws = ws} {marks' = marks'} h w puts less) =
      finished t c (k + 1) (length ws) (record st { marks = marks' }) refl (omega arith) (λ u none. differs mine st.active part t u (Finishing c k) h none) (finishes (part t (Finishing c k) h) w puts less)
  lift ne (stops {t = t} {p = p} h) = ended t (λ u none. differs mine st.active part t u p h none) (stops (part t p h))
  lift ne (opens {x = x} {t = t} m room) = aside (record st { cleaners = insert st.cleaners st.next_cleaner (record { cell = x; start = t; decided = false }); next_cleaner = st.next_cleaner + 1 }) refl refl (omega arith) refl (opens m room)
  lift ne (kills {i = n} {t = t} {x = x} {marks' = marks'} is nc alive w puts less) =
      aside (record st { dead = t ∷ st.dead; marks = marks'; cleaners = insert st.cleaners n (record { cell = x; start = t; decided = true }) }) refl refl (omega arith) refl (kills is nc alive w puts less)
  lift ne (learns {i = n} {t = t} {x = x} is fate) = aside (record st { cleaners = insert st.cleaners n (record { cell = x; start = t; decided = true }) }) refl refl (omega arith) refl (learns is fate)
  lift ne (rolls_forward {i = n} {marks' = marks'} is m committed less) = aside (record st { marks = marks'; cleaners = remove st.cleaners n }) refl refl (omega arith) refl (rolls_forward is m committed less)
  lift ne (rolls_back {i = n} {marks' = marks'} is m nc less) = aside (record st { marks = marks'; cleaners = remove st.cleaners n }) refl refl (omega arith) refl (rolls_back is m nc less)
  lift ne (finds_gone {i = n} is m) = aside (record st { cleaners = remove st.cleaners n }) refl refl (omega arith) refl (finds_gone is m)
  lift ne (collects f room) = absurd (ne refl)
  lift ne (has_collected {i = n} {n = visits} h none) = aside (record st { collectors = remove st.collectors n }) refl refl (omega arith) refl (has_collected {n = visits} h none)
  lift ne (splits {places' = places'} cut) = aside (record st { places = places'; next_tablet = st.next_tablet + 1 }) refl refl (omega arith) refl (splits cut)
  lift ne (moves_tablet {places' = places'} is) = aside (record st { places = places' }) refl refl (omega arith) refl (moves_tablet is)

pub views_lift : ViewsLift
views_lift st next mine q r reached part ne a = lift st mine (servers_sound reached) part ne a
