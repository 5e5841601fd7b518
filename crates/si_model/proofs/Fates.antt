-- The mark of a start's first cell tells its fate: it is gone once the start is dead or committed, and is there before.
use Rattle.std.proofs.Common.{◌≡◌, ◌≢◌, ℕ, max, zero, suc, ◌<◌, true, false, List, [], ◌∷◌, Option, Some, ◌⊎◌, inl, inr, refl, sym, ap, subst, ◌∙◌, arith}
use Rattle.std.specs.Prelude.{slice_get}
use Rattle.std.specs.Ordering.{nat_cmp}
use Rattle.std.specs.FinMap.{get, insert, remove, get-empty}
use Rattle.std.proofs.lemmas.Bool.{cases_eq}
use Rattle.std.proofs.lemmas.Option.{same_Some, none-some}
use Rattle.si_model.specs.Sets.{◌∈◌, here, there, IsWithout}
use Rattle.si_model.specs.Machine.{State, Change, Writes, Phase, Open, Holding, Stamped, Finishing, Commit, Cleaner, Request, Reply, InPhase, Wrote, Marked, Puts, IsDead, IsCommitted, HasHeld}
use Rattle.si_model.specs.declared.replies.Cell.{Cell}
use Rattle.si_model.specs.Machine.{Acts, tells, begins, reads, scans, sets, deletes, holds, conflicts, draws, loses, commits, finishes, stops, opens, kills, learns, rolls_forward, rolls_back, finds_gone, collects, has_collected, splits, moves_tablet}
use Rattle.si_model.specs.Machine.{new_machine}
use Rattle.si_model.specs.Servers.{Own, IsPartOf, IsRightCleaner, view, IsReachedByServers, starts_new, acts, raises, sees}
use Rattle.si_model.specs.Laws.{FateSeen}
use Rattle.si_model.proofs.Tools.{each_cons, get_other, each_insert, each_remove, same_entry}
use Rattle.si_model.proofs.Invariant.{IsPast, HasTried, Sound}
use Rattle.si_model.proofs.Kept.{HeldPhase, held_phase}
use Rattle.si_model.proofs.Steps.{acts_sound, servers_sound}
use Rattle.si_model.proofs.Gone.{acts_placed, acts_no_return}

-- the first cell of t, which t has held
pub record Primary (st : State) (t : ℕ) : Type 0 where
  pub x : Cell
  pub ws : Writes
  pub v : Change
  pub wrote : Wrote st t ws
  pub puts : Puts ws 0 x v
  pub placed : HasTried st x t

-- the mark of the first cell is there, or the fate of t is decided
pub record IsKnown (st : State) (t : ℕ) : Type 0 where
  pub first : Primary st t
  pub fate : Marked st first.x t ⊎ (IsCommitted st t ⊎ IsDead st t)

-- the mark of the first cell is gone for good
pub record IsOver (st : State) (t : ℕ) : Type 0 where
  pub first : Primary st t
  pub left : ¬ Marked st first.x t

pub record Fates (st : State) : Type 0 where
  pub of_mark : (x : Cell) (t : ℕ) → Marked st x t → IsKnown st t
  pub of_cleaner : (i : ℕ) (k : Cleaner) → get st.cleaners i ≡ Some k → IsKnown st k.start
  pub of_dead : (t : ℕ) → IsDead st t → IsOver st t
  pub of_commit : (a : Commit) → a ∈ st.commits → IsOver st a.start

-- the writes of a start that has held a cell are unchanged
pub acts_wrote : {st st' : State} {q : Request} {r : Reply} → Sound st → Acts st q r st' → (y : Cell) (u : ℕ) → HasTried st y u → (ws : Writes) → Wrote st u ws → Wrote st' u ws
acts_wrote i (tells t) y u p ws w = w
acts_wrote {st} i (begins {s = s} d) y u p ws w = let low = i.start_low u ws w in let new = d.0 in let ne : u ≢ s = omega arith in get_other st.begun s [] u ne ∙ w
acts_wrote {st} i (sets {s = s} {ws' = ws'} h w' by) y u p ws w = elim (cases_eq u s) [
  | inl e ↦ absurd (p.past Open (subst (λ v. InPhase st v Open) (sym e) h))
  | inr ne ↦ get_other st.begun s ws' u ne ∙ w
]
acts_wrote {st} i (deletes {s = s} {ws' = ws'} h w' by) y u p ws w = elim (cases_eq u s) [
  | inl e ↦ absurd (p.past Open (subst (λ v. InPhase st v Open) (sym e) h))
  | inr ne ↦ get_other st.begun s ws' u ne ∙ w
]
acts_wrote i (reads h none shown) y u p ws w = w
acts_wrote i (scans h is) y u p ws w = w
acts_wrote i (holds h w0 puts free) y u p ws w = w
acts_wrote i (conflicts h w0 puts clash) y u p ws w = w
acts_wrote i (draws h w0 d) y u p ws w = w
acts_wrote i (loses h d) y u p ws w = w
acts_wrote i (commits h alive w0 puts less) y u p ws w = w
acts_wrote i (finishes h w0 puts less) y u p ws w = w
acts_wrote i (stops h) y u p ws w = w
acts_wrote i (opens m room) y u p ws w = w
acts_wrote i (kills is nc alive w0 puts less) y u p ws w = w
acts_wrote i (learns is fate) y u p ws w = w
acts_wrote i (rolls_forward is m committed less) y u p ws w = w
acts_wrote i (rolls_back is m nc less) y u p ws w = w
acts_wrote i (finds_gone is m) y u p ws w = w
acts_wrote i (collects is_floor room) y u p ws w = w
acts_wrote i (has_collected h none) y u p ws w = w
acts_wrote i (splits cut) y u p ws w = w
acts_wrote i (moves_tablet is_moved) y u p ws w = w

abbrev still_primary : {st st' : State} {q : Request} {r : Reply} → Sound st → Acts st q r st' → (u : ℕ) → Primary st u → Primary st' u
still_primary i s u p = record { x = p.x; ws = p.ws; v = p.v; wrote = acts_wrote i s p.x u p.placed p.ws p.wrote; puts = p.puts; placed = acts_placed i s p.x u p.placed }

-- if the mark of t on x is removed, and t is committed or dead by then
left_known : (st st' : State) (x : Cell) (t : ℕ) → IsWithout st.marks (x, t) st'.marks → (IsCommitted st' t ⊎ IsDead st' t) → ((u : ℕ) → IsCommitted st u ⊎ IsDead st u → IsCommitted st' u ⊎ IsDead st' u)
    → (y : Cell) (u : ℕ) → Marked st y u ⊎ (IsCommitted st u ⊎ IsDead st u) → Marked st' y u ⊎ (IsCommitted st' u ⊎ IsDead st' u)
left_known st st' x t less fate later y u (inr f) = inr (later u f)
left_known st st' x t less fate later y u (inl m) = elim (cases_eq u t) [
  | inl e ↦ inr (subst (λ v. IsCommitted st' v ⊎ IsDead st' v) (sym e) fate)
  | inr ne ↦ inl ((less.same (y, u)).1 (m, λ e. ne (ap (λ q. q.1) e)))
]

pub acts_fate : {st st' : State} {q : Request} {r : Reply} → Sound st → Acts st q r st' → (y : Cell) (u : ℕ) → Marked st y u ⊎ (IsCommitted st u ⊎ IsDead st u) → Marked st' y u ⊎ (IsCommitted st' u ⊎ IsDead st' u)
acts_fate i (tells t) y u f = f
acts_fate i (holds h w puts free) y u f = elim f [ inl m ↦ inl (there m) | inr d ↦ inr d ]
acts_fate {st} {st'} i (commits {t = t} {c = c} {ws = ws} {x = x} h alive w puts less) y u f =
    left_known st st' x t less (inl (c, (ws, here))) (λ u d. elim d [ inl m ↦ inl (m.0, (m.1.0, there m.1.1)) | inr d ↦ inr d ]) y u f
acts_fate {st} {st'} i (finishes {t = t} {c = c} {k = k} {x = x} h w puts less) y u f =
    left_known st st' x t less (inl (c, i.finishes t (Finishing c k) h c k refl)) (λ u d. d) y u f
acts_fate {st} {st'} i (kills {t = t} {y = x} is nc alive w puts less) y u f =
    left_known st st' x t less (inr here) (λ u d. elim d [ inl m ↦ inl m | inr d ↦ inr (there d) ]) y u f
acts_fate {st} {st'} i (rolls_forward {i = n} {t = t} {x = x} is m committed less) y u f =
    left_known st st' x t less (i.decided n (record { cell = x; start = t; decided = true }) is refl) (λ u d. d) y u f
acts_fate {st} {st'} i (rolls_back {i = n} {t = t} {x = x} is m nc less) y u f =
    left_known st st' x t less (i.decided n (record { cell = x; start = t; decided = true }) is refl) (λ u d. d) y u f
acts_fate i (begins d) y u f = f
acts_fate i (reads h none shown) y u f = f
acts_fate i (scans h is) y u f = f
acts_fate i (sets h w by) y u f = f
acts_fate i (deletes h w by) y u f = f
acts_fate i (conflicts h w puts clash) y u f = f
acts_fate i (draws h w d) y u f = f
acts_fate i (loses h d) y u f = f
acts_fate i (stops h) y u f = f
acts_fate i (opens m room) y u f = f
acts_fate i (learns is fate) y u f = f
acts_fate i (finds_gone is m) y u f = f
acts_fate i (collects is_floor room) y u f = f
acts_fate i (has_collected h none) y u f = f
acts_fate i (splits cut) y u f = f
acts_fate i (moves_tablet is_moved) y u f = f

still_known : {st st' : State} {q : Request} {r : Reply} → Sound st → Acts st q r st' → (u : ℕ) → IsKnown st u → IsKnown st' u
still_known i s u k = record { first = still_primary i s u k.first; fate = acts_fate i s k.first.x u k.fate }

still_over : {st st' : State} {q : Request} {r : Reply} → Sound st → Acts st q r st' → (u : ℕ) → IsOver st u → IsOver st' u
still_over i s u o = record { first = still_primary i s u o.first; left = λ m. o.left (acts_no_return i s o.first.x u o.first.placed m) }

primary_is : (st : State) (t : ℕ) (ws : Writes) (x : Cell) (v : Change) (p : Primary st t) → Wrote st t ws → Puts ws 0 x v → p.x ≡ x
primary_is st t ws x v p w puts =
    let pairs : ◌≡◌ {A = Option (Cell × Change)} (Some (p.x, p.v)) (Some (x, v)) = sym p.puts ∙ (ap (λ (l : Writes). slice_get l 0) (same_entry st.begun t p.ws ws p.wrote w) ∙ puts) in
    ap (λ (q : Cell × Change). q.0) (same_Some (p.x, p.v) (x, v) pairs)

first_put : (ws : Writes) (k : ℕ) (x : Cell) (v : Change) → Puts ws k x v → (q : Cell × Change) × (slice_get ws 0 ≡ Some q)
first_put [] k x v puts = absurd (none-some (x, v) puts)
first_put (q ∷ ws) k x v puts = (q, refl)

-- a phase that has gone past a cell has gone past the first
past_first : (p : Phase) (k : ℕ) → IsPast p k → IsPast p 0
past_first Open k past = past
past_first (Holding n) k past = omega arith
past_first (Stamped c) k past = tt
past_first (Finishing c n) k past = tt

-- the first cell of a start that has had its chance at a cell
abbrev first_of : {st : State} {x : Cell} {t : ℕ} (tried : HasTried st x t) (first : (q : Cell × Change) × (slice_get tried.ws 0 ≡ Some q)) → Primary st t
first_of tried first = record {
  x = first.0.0;
  ws = tried.ws;
  v = first.0.1;
  wrote = tried.wrote;
  puts = first.1;
  placed = record { ws = tried.ws; k = 0; v = first.0.1; wrote = tried.wrote; puts = first.1; past = λ p h. past_first p tried.k (tried.past p h) };
}

-- the fate of a start that holds a further cell is known: its first mark is there, unless it is dead
known_before : (st : State) (t k : ℕ) (ws : Writes) (x : Cell) (v : Change) → Sound st → HasHeld st t k → Wrote st t ws → Puts ws k x v → 0 < k → IsKnown st t
known_before st t k ws x v i h w puts more = record {
  first = record {
    x = one.0.0;
    ws = ws;
    v = one.0.1;
    wrote = w;
    puts = one.1;
    placed = record { ws = ws; k = 0; v = one.0.1; wrote = w; puts = one.1; past = λ p g. subst (λ q. IsPast q 0) (same_Some hp.p p (sym hp.is ∙ g)) (hp.above 0 more) };
  };
  fate = elim (i.stands t hp.p hp.is hp.live ws w) [ inl d ↦ inr (inr d) | inr f ↦ inl (f 0 one.0.0 one.0.1 one.1 (hp.above 0 more)) ];
}
  where
    hp : HeldPhase st t k
    hp = held_phase st t k h

    one : (q : Cell × Change) × (slice_get ws 0 ≡ Some q)
    one = first_put ws k x v puts

-- the new mark
known_held : {st st' : State} {q : Request} {r : Reply} (t k : ℕ) (ws : Writes) (x : Cell) (v : Change) → Sound st → Acts st q r st' → Wrote st t ws → HasHeld st t k → Puts ws k x v → Wrote st' t ws → Marked st' x t → IsKnown st' t
known_held {st} {st'} t zero ws x v i s w h puts w' m = record {
  first = record { x = x; ws = ws; v = v; wrote = w'; puts = puts; placed = (acts_sound i s).placed x t m };
  fate = inl m;
}
known_held {st} {st'} t (suc k) ws x v i s w h puts w' m = still_known i s t (known_before st t (suc k) ws x v i h w puts (omega arith))

over_now : (st : State) (t : ℕ) (ws : Writes) (x : Cell) (v : Change) (marks : List (Cell × ℕ)) → Primary st t → Wrote st t ws → Puts ws 0 x v → IsWithout marks (x, t) st.marks → IsOver st t
over_now st t ws x v marks p w puts less = record {
  first = p;
  left = λ m. ((less.same (p.x, t)).0 m).1 (ap (λ y. (y, t)) (primary_is st t ws x v p w puts));
}

-- a step that marks nothing new, and decides no fate
fates_by : {st st' : State} {q : Request} {r : Reply} → Sound st → Fates st → Acts st q r st' → ((y : Cell) (u : ℕ) → Marked st' y u → Marked st y u)
    → ((n : ℕ) (k : Cleaner) → get st'.cleaners n ≡ Some k → IsKnown st k.start) → ((u : ℕ) → IsDead st' u → IsDead st u) → ((a : Commit) → a ∈ st'.commits → a ∈ st.commits) → Fates st'
fates_by i f s marked cleaned dead committed = record {
  of_mark = λ y u m. still_known i s u (f.of_mark y u (marked y u m));
  of_cleaner = λ n k h. still_known i s k.start (cleaned n k h);
  of_dead = λ u d. still_over i s u (f.of_dead u (dead u d));
  of_commit = λ a m. still_over i s a.start (f.of_commit a (committed a m));
}

-- a cleaner closes
others_known : (st : State) (n : ℕ) → Fates st → (j : ℕ) (k : Cleaner) → get (remove st.cleaners n) j ≡ Some k → IsKnown st k.start
others_known st n f = each_remove st.cleaners n (λ j k. IsKnown st k.start) (λ j k ne h. f.of_cleaner j k h)

-- a cleaner takes its first step
decides_known : (st : State) (n t : ℕ) (x : Cell) → get st.cleaners n ≡ Some (record { cell = x; start = t; decided = false }) → Fates st
    → (j : ℕ) (k : Cleaner) → get (insert st.cleaners n (record { cell = x; start = t; decided = true })) j ≡ Some k → IsKnown st k.start
decides_known st n t x is f =
    each_insert st.cleaners n (λ j k. IsKnown st k.start) (record { cell = x; start = t; decided = true })
    (f.of_cleaner n (record { cell = x; start = t; decided = false }) is) (λ j k ne h. f.of_cleaner j k h)

pub acts_fates : {st st' : State} {q : Request} {r : Reply} → Sound st → Fates st → Acts st q r st' → Fates st'
acts_fates i f (tells t) = f
acts_fates {st} {st'} i f (holds {t = t} {k = k} {ws = ws} {x = x} {v = v} h w puts free) =
    let s : Acts st _ _ st' = holds h w puts free in
    record {
      of_mark = λ y u m. each_cons (λ (q : Cell × ℕ). IsKnown st' q.1) (known_held t k ws x v i s w h puts w here) (λ q m. still_known i s q.1 (f.of_mark q.0 q.1 m)) (y, u) m;
      of_cleaner = λ n k h. still_known i s k.start (f.of_cleaner n k h);
      of_dead = λ u d. still_over i s u (f.of_dead u d);
      of_commit = λ a m. still_over i s a.start (f.of_commit a m);
    }
acts_fates {st} {st'} i f (commits {t = t} {c = c} {ws = ws} {x = x} {v = v} h alive w puts less) =
    let s : Acts st _ _ st' = commits h alive w puts less in
    let stands : Marked st x t = elim (i.stands t (Stamped c) h tt ws w) [ inl d ↦ absurd (alive d) | inr g ↦ g 0 x v puts tt ] in
    record {
      of_mark = λ y u m. still_known i s u (f.of_mark y u ((less.same (y, u)).0 m).0);
      of_cleaner = λ n k h. still_known i s k.start (f.of_cleaner n k h);
      of_dead = λ u d. still_over i s u (f.of_dead u d);
      of_commit = each_cons (λ a. IsOver st' a.start) (over_now st' t ws x v st.marks (still_primary i s t (f.of_mark x t stands).first) w puts less)
          (λ a m. still_over i s a.start (f.of_commit a m));
    }
acts_fates {st} {st'} i f (kills {i = n} {t = t} {x = x} {y = y} {v = v} {ws = ws} is nc alive w puts less) =
    let s : Acts st _ _ st' = kills is nc alive w puts less in
    record {
      of_mark = λ y u m. still_known i s u (f.of_mark y u ((less.same (y, u)).0 m).0);
      of_cleaner = λ j k h. still_known i s k.start (decides_known st n t x is f j k h);
      of_dead = each_cons (λ u. IsOver st' u)
          (over_now st' t ws y v st.marks (still_primary i s t (f.of_cleaner n (record { cell = x; start = t; decided = false }) is).first) w puts less)
          (λ u d. still_over i s u (f.of_dead u d));
      of_commit = λ a m. still_over i s a.start (f.of_commit a m);
    }
acts_fates {st} {st'} i f (opens {x = x} {t = t} m room) =
    let s : Acts st _ _ st' = opens m room in
    fates_by i f s (λ y u m. m)
    (each_insert st.cleaners st.next_cleaner (λ n k. IsKnown st k.start) (record { cell = x; start = t; decided = false }) (f.of_mark x t m) (λ n k ne h. f.of_cleaner n k h))
    (λ u d. d) (λ a m. m)
acts_fates {st} {st'} i f (begins d) = let s : Acts st _ _ st' = begins d in fates_by i f s (λ y u m. m) f.of_cleaner (λ u d. d) (λ a m. m)
acts_fates {st} {st'} i f (reads h none shown) = let s : Acts st _ _ st' = reads h none shown in fates_by i f s (λ y u m. m) f.of_cleaner (λ u d. d) (λ a m. m)
acts_fates {st} {st'} i f (scans h is) = let s : Acts st _ _ st' = scans h is in fates_by i f s (λ y u m. m) f.of_cleaner (λ u d. d) (λ a m. m)
acts_fates {st} {st'} i f (sets h w by) = let s : Acts st _ _ st' = sets h w by in fates_by i f s (λ y u m. m) f.of_cleaner (λ u d. d) (λ a m. m)
acts_fates {st} {st'} i f (deletes h w by) = let s : Acts st _ _ st' = deletes h w by in fates_by i f s (λ y u m. m) f.of_cleaner (λ u d. d) (λ a m. m)
acts_fates {st} {st'} i f (conflicts h w puts clash) = let s : Acts st _ _ st' = conflicts h w puts clash in fates_by i f s (λ y u m. m) f.of_cleaner (λ u d. d) (λ a m. m)
acts_fates {st} {st'} i f (draws h w d) = let s : Acts st _ _ st' = draws h w d in fates_by i f s (λ y u m. m) f.of_cleaner (λ u d. d) (λ a m. m)
acts_fates {st} {st'} i f (loses h d) = let s : Acts st _ _ st' = loses h d in fates_by i f s (λ y u m. m) f.of_cleaner (λ u d. d) (λ a m. m)
acts_fates {st} {st'} i f (stops h) = let s : Acts st _ _ st' = stops h in fates_by i f s (λ y u m. m) f.of_cleaner (λ u d. d) (λ a m. m)
acts_fates {st} {st'} i f (collects is_floor room) = let s : Acts st _ _ st' = collects is_floor room in fates_by i f s (λ y u m. m) f.of_cleaner (λ u d. d) (λ a m. m)
acts_fates {st} {st'} i f (splits cut) = let s : Acts st _ _ st' = splits cut in fates_by i f s (λ y u m. m) f.of_cleaner (λ u d. d) (λ a m. m)
acts_fates {st} {st'} i f (moves_tablet is_moved) = let s : Acts st _ _ st' = moves_tablet is_moved in fates_by i f s (λ y u m. m) f.of_cleaner (λ u d. d) (λ a m. m)
acts_fates {st} {st'} i f (has_collected {n = n} h none) = let s : Acts st _ _ st' = has_collected {n = n} h none in fates_by i f s (λ y u m. m) f.of_cleaner (λ u d. d) (λ a m. m)
acts_fates {st} {st'} i f (finishes h w puts less) = let s : Acts st _ _ st' = finishes h w puts less in fates_by i f s (λ y u m. ((less.same (y, u)).0 m).0) f.of_cleaner (λ u d. d) (λ a m. m)
acts_fates {st} {st'} i f (learns {i = n} {t = t} {x = x} is fate) = let s : Acts st _ _ st' = learns is fate in fates_by i f s (λ y u m. m) (decides_known st n t x is f) (λ u d. d) (λ a m. m)
acts_fates {st} {st'} i f (rolls_forward {i = n} is m committed less) = let s : Acts st _ _ st' = rolls_forward is m committed less in fates_by i f s (λ y u m. ((less.same (y, u)).0 m).0) (others_known st n f) (λ u d. d) (λ a m. m)
acts_fates {st} {st'} i f (rolls_back {i = n} is m nc less) = let s : Acts st _ _ st' = rolls_back is m nc less in fates_by i f s (λ y u m. ((less.same (y, u)).0 m).0) (others_known st n f) (λ u d. d) (λ a m. m)
acts_fates {st} {st'} i f (finds_gone {i = n} is m) = let s : Acts st _ _ st' = finds_gone is m in fates_by i f s (λ y u m. m) (others_known st n f) (λ u d. d) (λ a m. m)

new_fates : Fates new_machine
new_fates = record {
  of_mark = λ x t m. elim m [ ];
  of_cleaner = λ n k h. absurd (none-some k (sym (get-empty nat_cmp n) ∙ h));
  of_dead = λ t d. elim d [ ];
  of_commit = λ a m. elim m [ ];
}

-- what a server sees of them
module _ (st : State) (own : Own) (part : IsPartOf own st) where
  abbrev seen_primary : (t : ℕ) → Primary st t → Primary (view st own) t
  seen_primary t p = record {
    x = p.x;
    ws = p.ws;
    v = p.v;
    wrote = p.wrote;
    puts = p.puts;
    placed = record { ws = p.placed.ws; k = p.placed.k; v = p.placed.v; wrote = p.placed.wrote; puts = p.placed.puts; past = λ q h. p.placed.past q (part.sessions t q h) };
  }

  seen_over : (t : ℕ) → IsOver st t → IsOver (view st own) t
  seen_over t o = record { first = seen_primary t o.first; left = o.left }

  -- of a right cleaner's start
  right_known : (k : Cleaner) (right : IsRightCleaner st k) (first : (q : Cell × Change) × (slice_get right.tried.ws 0 ≡ Some q)) → IsKnown st k.start
  right_known k right first = record { first = first_of right.tried first; fate = right.known first.0.0 (right.tried.ws, first.0.1, right.tried.wrote, first.1) }

  seen_fates : Fates st → Fates (view st own)
  seen_fates f = record {
    of_mark = λ x t m. let k = f.of_mark x t m in record { first = seen_primary t k.first; fate = k.fate };
    of_cleaner = λ n k h. let r = part.cleaners n k h in let i = right_known k r (first_put r.tried.ws r.tried.k k.cell r.tried.v r.tried.puts) in record { first = seen_primary k.start i.first; fate = i.fate };
    of_dead = λ t d. seen_over t (f.of_dead t d);
    of_commit = λ a m. seen_over a.start (f.of_commit a m);
  }

-- with a greater floor
module _ (st : State) (floor : ℕ) where
  abbrev raised : State
  raised = record st { floor = floor }

  abbrev raised_primary : (t : ℕ) → Primary st t → Primary raised t
  raised_primary t p = record {
    x = p.x;
    ws = p.ws;
    v = p.v;
    wrote = p.wrote;
    puts = p.puts;
    placed = record { ws = p.placed.ws; k = p.placed.k; v = p.placed.v; wrote = p.placed.wrote; puts = p.placed.puts; past = p.placed.past };
  }

  raised_known : (t : ℕ) → IsKnown st t → IsKnown raised t
  raised_known t k = record { first = raised_primary t k.first; fate = k.fate }

  raised_over : (t : ℕ) → IsOver st t → IsOver raised t
  raised_over t o = record { first = raised_primary t o.first; left = o.left }

  raised_fates : Fates st → Fates raised
  raised_fates f = record {
    of_mark = λ x t m. raised_known t (f.of_mark x t m);
    of_cleaner = λ n k h. raised_known k.start (f.of_cleaner n k h);
    of_dead = λ t d. raised_over t (f.of_dead t d);
    of_commit = λ a m. raised_over a.start (f.of_commit a m);
  }

pub servers_fates : {st : State} → IsReachedByServers st → Fates st
servers_fates starts_new = new_fates
servers_fates (acts mine r ok a) = acts_fates (servers_sound r) (servers_fates r) a
servers_fates (raises {st = st} {f = f} r low) = raised_fates st (max st.floor f) (servers_fates r)
servers_fates (sees {st = st} {own = own} r part) = seen_fates st own part (servers_fates r)

first_gone : (st : State) (t : ℕ) (ws : Writes) (x : Cell) (v : Change) → Wrote st t ws → Puts ws 0 x v → IsOver st t → ¬ Marked st x t
first_gone st t ws x v w puts o m = o.left (subst (λ (y : Cell). Marked st y t) (sym (primary_is st t ws x v o.first w puts)) m)

first_known : (st : State) (t : ℕ) (ws : Writes) (x : Cell) (v : Change) → Wrote st t ws → Puts ws 0 x v → IsKnown st t → Marked st x t ⊎ (IsCommitted st t ⊎ IsDead st t)
first_known st t ws x v w puts k = subst (λ (y : Cell). Marked st y t ⊎ (IsCommitted st t ⊎ IsDead st t)) (primary_is st t ws x v k.first w puts) k.fate

pub fate_seen : (st : State) → IsReachedByServers st → FateSeen st
fate_seen st r t ws x v w puts = let f = servers_fates r in record {
  dead = λ d. first_gone st t ws x v w puts (f.of_dead t d);
  committed = λ m. first_gone st t ws x v w puts (f.of_commit (record { start = t; stamp = m.0; writes = m.1.0 }) m.1.1);
  marked = λ y m. first_known st t ws x v w puts (f.of_mark y t m);
  cleaned = λ n k h e. first_known st t ws x v w puts (subst (IsKnown st) e (f.of_cleaner n k h));
}
