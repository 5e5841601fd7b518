-- Each change of the machine keeps the invariant.
use Rattle.std.proofs.Common.{◌≡◌, ◌≢◌, ℕ, ◌+◌, ◌<◌, ◌≤◌, Bool, true, false, cond, List, [], ◌∷◌, length, Option, Some, None, ◌⊎◌, inl, inr, refl, sym, ap, subst, ◌∙◌, arith}
use Rattle.std.specs.Prelude.{slice_get, nat_eq}
use Rattle.std.specs.Ordering.{nat_cmp}
use Rattle.std.specs.FinMap.{FinMap, get, insert, remove}
use Rattle.std.proofs.lemmas.Bool.{cases_eq, cases_lt}
use Rattle.std.proofs.lemmas.Option.{same_Some, slice_get_within}
use Rattle.si_model.specs.Sets.{◌∈◌, here, there, IsWithout}
use Rattle.si_model.specs.Machine.{State, Value, Change, Writes, Phase, Open, Holding, Stamped, Finishing, Commit, Read, Item, Valued, Locked, Unsent, Scan, Cleaner, Place, InPhase, Wrote, Marked, Puts, Names, IsDead, CommittedAt, IsCommitted, IsSnapshot, Clashes, HasHeld, finishing}
use Rattle.si_model.specs.declared.replies.Cell.{Cell}
use Rattle.si_model.proofs.Tools.{each_cons, get_same, get_other, each_insert, each_remove, same_entry, CellsDiffer}
use Rattle.si_model.specs.Scans.{IsFreeAt, IsSo}
use Rattle.si_model.specs.ScanLaws.{SaysOf}
use Rattle.si_model.proofs.Invariant.{SaysThere, Told, IsLive, IsPast, HasTried, IsOwn, IsFair, Sound}

-- a session begins
module _ (st : State) (s : ℕ) (new : st.top < s) where
  abbrev pub begun : State
  begun = record st { top = s; begun = insert st.begun s []; active = insert st.active s Open }

  wrote_still : (i : Sound st) (t : ℕ) (ws : Writes) → Wrote st t ws → Wrote begun t ws
  wrote_still i t ws h = let low = i.start_low t ws h in let ne : t ≢ s = omega arith in get_other st.begun s [] t ne ∙ h

  pub begun_placed : (i : Sound st) (x : Cell) (t : ℕ) → HasTried st x t → HasTried begun x t
  begun_placed i x t p =
      let low = i.start_low t p.ws p.wrote in
      let ne : t ≢ s = omega arith in
      record {
        ws = p.ws;
        k = p.k;
        v = p.v;
        wrote = wrote_still i t p.ws p.wrote;
        puts = p.puts;
        past = λ q h. p.past q (sym (get_other st.active s Open t ne) ∙ h);
      }

  pub begun_sound : Sound st → Sound begun
  begun_sound i = record {
    start_low = each_insert st.begun s (λ t ws. t ≤ s) [] (omega arith) (λ t ws ne h. let low = i.start_low t ws h in omega arith);
    cells_differ = each_insert st.begun s (λ t ws. CellsDiffer ws) [] tt (λ t ws ne h. i.cells_differ t ws h);
    has_begun = each_insert st.active s (λ t p. (ws : Writes) × Wrote begun t ws) Open ([], get_same st.begun s [])
        (λ t p ne h. let b = i.has_begun t p h in (b.0, get_other st.begun s [] t ne ∙ b.1));
    uncommitted = each_insert st.active s (λ t p. IsLive p → (a : Commit) → a ∈ st.commits → a.start ≢ t) Open
        (λ l a m. let low = i.start_low a.start a.writes (i.fair a m).wrote in omega arith) (λ t p ne h. i.uncommitted t p h);
    stands = each_insert st.active s (λ t p. IsLive p → (ws : Writes) → Wrote begun t ws → IsDead st t ⊎ ((k : ℕ) (x : Cell) (v : Change) → Puts ws k x v → IsPast p k → Marked st x t)) Open
        (λ l ws w. inr (λ k x v h b. absurd b)) (λ t p ne h l ws w. i.stands t p h l ws (sym (get_other st.begun s [] t ne) ∙ w));
    drawn = each_insert st.active s (λ t p. (c : ℕ) → p ≡ Stamped c → IsOwn begun t c) Open
        (λ c e. cc) (λ t p ne h c e. let o = i.drawn t p h c e in record {
          later = o.later;
          low = (let low = o.low in omega arith);
          no_start = each_insert st.begun s (λ u ws. u ≢ c) [] (let low = o.low in omega arith) (λ u ws nu g. o.no_start u ws g);
          no_commit = o.no_commit;
          no_other = λ u g. each_insert st.active s (λ u p. p ≡ Stamped c → u ≡ t) Open (λ f. cc) (λ u p nu g f. o.no_other u (subst (λ (q : Phase). InPhase st u q) f g)) u (Stamped c) g refl;
        });
    finishes = each_insert st.active s (λ t p. (c k : ℕ) → p ≡ Finishing c k → CommittedAt st t c) Open (λ c k e. cc) (λ t p ne h. i.finishes t p h);
    placed = λ x t m. begun_placed i x t (i.placed x t m);
    one_mark = i.one_mark;
    younger = i.younger;
    fair = λ a m. let f = i.fair a m in record {
      wrote = wrote_still i a.start a.writes f.wrote;
      later = f.later;
      low = (let low = f.low in omega arith);
      no_start = each_insert st.begun s (λ u ws. u ≢ a.stamp) [] (let low = f.low in omega arith) (λ u ws nu g. f.no_start u ws g);
    };
    starts_differ = i.starts_differ;
    stamps_differ = i.stamps_differ;
    not_dead = i.not_dead;
    first_committer = i.first_committer;
    read_low = λ r m. let low = i.read_low r m in omega arith;
    settled = i.settled;
    scans_settled = i.scans_settled;
    unread = λ r m. each_insert st.active s (λ t p. (c : ℕ) → p ≡ Stamped c → (ws : Writes) → Wrote begun t ws → Names ws r.cell → c ≤ r.start → IsDead st t) Open
        (λ c e. cc) (λ t p ne h c e ws w. i.unread r m t p h c e ws (sym (get_other st.begun s [] t ne) ∙ w));
    decided = i.decided;
  }

-- a Get is answered
module _ (st : State) (s : ℕ) (x : Cell) (v : Option Value) where
  abbrev pub answered : State
  answered = record st { reads = record { start = s; cell = x; answer = v } ∷ st.reads }

  told_more : (P : Read → Type 0) → P (record { start = s; cell = x; answer = v }) → ((r : Read) → Told st r → P r) → (r : Read) → Told answered r → P r
  told_more P new old r (inl m) = each_cons P new (λ r m. old r (inl m)) r m
  told_more P new old r (inr by) = old r (inr by)

  -- a session that has drawn its stamp below s and writes x is dead: otherwise its mark would have blocked the answer
  pub no_answer : ((t : ℕ) → Marked st x t → s < t) → Sound st → (t : ℕ) (p : Phase) → InPhase st t p → (c : ℕ) → p ≡ Stamped c → (ws : Writes) → Wrote st t ws → Names ws x → c ≤ s → IsDead st t
  no_answer none i t p h c e ws w names low = elim (i.stands t p h (subst IsLive (sym e) tt) ws w) [
    | inl d ↦ d
    | inr f ↦ let later = (i.drawn t p h c e).later in
        let young = none t (f names.1.0 x names.0 names.1.1 (subst (λ q. IsPast q names.1.0) (sym e) tt)) in
        absurd (omega arith)
  ]

  pub answered_sound : InPhase st s Open → ((t : ℕ) → Marked st x t → s < t) → IsSnapshot st.commits s x v → Sound st → Sound answered
  answered_sound is_open none shown i = record {
    start_low = i.start_low;
    cells_differ = i.cells_differ;
    has_begun = i.has_begun;
    uncommitted = i.uncommitted;
    stands = i.stands;
    drawn = λ t p h c e. let o = i.drawn t p h c e in record { later = o.later; low = o.low; no_start = o.no_start; no_commit = o.no_commit; no_other = o.no_other };
    finishes = i.finishes;
    placed = λ y t m. let p = i.placed y t m in record { ws = p.ws; k = p.k; v = p.v; wrote = p.wrote; puts = p.puts; past = p.past };
    one_mark = i.one_mark;
    younger = i.younger;
    fair = λ a m. let f = i.fair a m in record { wrote = f.wrote; later = f.later; low = f.low; no_start = f.no_start };
    starts_differ = i.starts_differ;
    stamps_differ = i.stamps_differ;
    not_dead = i.not_dead;
    first_committer = i.first_committer;
    read_low = told_more (λ r. r.start ≤ st.top) (let b = i.has_begun s Open is_open in i.start_low s b.0 b.1) i.read_low;
    scans_settled = i.scans_settled;
    settled = each_cons (λ r. IsSnapshot st.commits r.start r.cell r.answer) shown i.settled;
    unread = told_more (λ r. (t : ℕ) (p : Phase) → InPhase st t p → (c : ℕ) → p ≡ Stamped c → (ws : Writes) → Wrote st t ws → Names ws r.cell → c ≤ r.start → IsDead st t)
        (no_answer none i) i.unread;
    decided = i.decided;
  }

-- a scan's answers are right as of its start, and no mark blocked a cell that isn't named as locked
pub record IsRight (st : State) (scan : Scan) : Type 0 where
  pub so : (x : Cell) (said : Option Item) → SaysOf scan x said → IsSo st.commits scan.start x said
  pub free : (x : Cell) → SaysThere scan x → IsFreeAt st scan.start x

-- a scan is answered
module _ (st : State) (scan : Scan) where
  abbrev pub scanned : State
  scanned = record st { scans = scan ∷ st.scans }

  told_scan : (P : Read → Type 0) → ((r : Read) → r.start ≡ scan.start → SaysThere scan r.cell → P r) → ((r : Read) → Told st r → P r)
      → (r : Read) → Told scanned r → P r
  told_scan P new old r (inl m) = old r (inl m)
  told_scan P new old r (inr (one, m, says, starts)) =
      each_cons (λ (one : Scan). SaysThere one r.cell → r.start ≡ one.start → P r) (λ says starts. new r starts says)
      (λ one m says starts. old r (inr (one, m, says, starts))) one m says starts

  pub scanned_sound : InPhase st scan.start Open → IsRight st scan → Sound st → Sound scanned
  scanned_sound is_open is i = record {
    start_low = i.start_low;
    cells_differ = i.cells_differ;
    has_begun = i.has_begun;
    uncommitted = i.uncommitted;
    stands = i.stands;
    drawn = λ t p h c e. let o = i.drawn t p h c e in record { later = o.later; low = o.low; no_start = o.no_start; no_commit = o.no_commit; no_other = o.no_other };
    finishes = i.finishes;
    placed = λ y t m. let p = i.placed y t m in record { ws = p.ws; k = p.k; v = p.v; wrote = p.wrote; puts = p.puts; past = p.past };
    one_mark = i.one_mark;
    younger = i.younger;
    fair = λ a m. let f = i.fair a m in record { wrote = f.wrote; later = f.later; low = f.low; no_start = f.no_start };
    starts_differ = i.starts_differ;
    stamps_differ = i.stamps_differ;
    not_dead = i.not_dead;
    first_committer = i.first_committer;
    read_low = told_scan (λ r. r.start ≤ st.top) (λ r e says. let b = i.has_begun scan.start Open is_open in let low = i.start_low scan.start b.0 b.1 in omega (arith, e)) i.read_low;
    settled = i.settled;
    scans_settled = each_cons (λ (one : Scan). (x : Cell) (said : Option Item) → SaysOf one x said → IsSo st.commits one.start x said) is.so i.scans_settled;
    unread = told_scan (λ r. (t : ℕ) (p : Phase) → InPhase st t p → (c : ℕ) → p ≡ Stamped c → (ws : Writes) → Wrote st t ws → Names ws r.cell → c ≤ r.start → IsDead st t)
        (λ r e says t p h c stamped ws w names low. no_answer st scan.start r.cell None (is.free r.cell says) i t p h c stamped ws w names (omega (arith, e))) i.unread;
    decided = i.decided;
  }

-- a session's writes change
module _ (st : State) (s : ℕ) (ws' : Writes) where
  abbrev pub rewritten : State
  rewritten = record st { begun = insert st.begun s ws' }

  pub rewritten_placed : InPhase st s Open → (x : Cell) (t : ℕ) → HasTried st x t → HasTried rewritten x t
  rewritten_placed is_open x t p = elim (cases_eq t s) [
    | inl e ↦ absurd (p.past Open (subst (λ u. InPhase st u Open) (sym e) is_open))
    | inr ne ↦ record { ws = p.ws; k = p.k; v = p.v; wrote = get_other st.begun s ws' t ne ∙ p.wrote; puts = p.puts; past = p.past }
  ]

  -- a session in another phase is another one
  apart : InPhase st s Open → (t : ℕ) (p : Phase) → InPhase st t p → p ≢ Open → t ≢ s
  apart is_open t p h ne e = ne (same_Some p Open (sym h ∙ (ap (get st.active) e ∙ is_open)))

  start_still : (i : Sound st) (ws : Writes) → Wrote st s ws → (P : ℕ → Type 0) → ((u : ℕ) (us : Writes) → Wrote st u us → P u) → (u : ℕ) (us : Writes) → Wrote rewritten u us → P u
  start_still i ws w P all = each_insert st.begun s (λ u us. P u) ws' (all s ws w) (λ u us nu g. all u us g)

  pub rewritten_sound : InPhase st s Open → (ws : Writes) → Wrote st s ws → CellsDiffer ws' → Sound st → Sound rewritten
  rewritten_sound is_open ws w differ i = record {
    start_low = each_insert st.begun s (λ t us. t ≤ st.top) ws' (i.start_low s ws w) (λ t us ne h. i.start_low t us h);
    cells_differ = each_insert st.begun s (λ t us. CellsDiffer us) ws' differ (λ t us ne h. i.cells_differ t us h);
    has_begun = λ t p h. elim (cases_eq t s) [
      | inl e ↦ (ws', ap (get (insert st.begun s ws')) e ∙ get_same st.begun s ws')
      | inr ne ↦ let b = i.has_begun t p h in (b.0, get_other st.begun s ws' t ne ∙ b.1)
    ];
    uncommitted = i.uncommitted;
    stands = λ t p h l us g. elim (cases_eq t s) [
      | inl e ↦ inr (λ k x v puts past. absurd (subst (λ q. IsPast q k) (same_Some p Open (sym h ∙ (ap (get st.active) e ∙ is_open))) past))
      | inr ne ↦ i.stands t p h l us (sym (get_other st.begun s ws' t ne) ∙ g)
    ];
    drawn = λ t p h c e. let o = i.drawn t p h c e in record { later = o.later; low = o.low; no_start = start_still i ws w (λ u. u ≢ c) o.no_start; no_commit = o.no_commit; no_other = o.no_other };
    finishes = i.finishes;
    placed = λ x t m. rewritten_placed is_open x t (i.placed x t m);
    one_mark = i.one_mark;
    younger = i.younger;
    fair = λ a m. let f = i.fair a m in record {
      wrote = get_other st.begun s ws' a.start (i.uncommitted s Open is_open tt a m) ∙ f.wrote;
      later = f.later;
      low = f.low;
      no_start = start_still i ws w (λ u. u ≢ a.stamp) f.no_start;
    };
    starts_differ = i.starts_differ;
    stamps_differ = i.stamps_differ;
    not_dead = i.not_dead;
    first_committer = i.first_committer;
    read_low = i.read_low;
    settled = i.settled;
    scans_settled = i.scans_settled;
    unread = λ r m t p h c e us g. i.unread r m t p h c e us (sym (get_other st.begun s ws' t (apart is_open t p h (λ f. let g : Stamped c ≡ Open = cc in cc))) ∙ g);
    decided = i.decided;
  }

-- a session moves to a phase that has passed more cells
module _ (st : State) (t : ℕ) (p' : Phase) where
  pub phase_placed : (p : Phase) → InPhase st t p → ((j : ℕ) → IsPast p j → IsPast p' j) → (x : Cell) (u : ℕ) → HasTried st x u → HasTried (record st { active = insert st.active t p' }) x u
  phase_placed p h more x u pl = record {
    ws = pl.ws;
    k = pl.k;
    v = pl.v;
    wrote = pl.wrote;
    puts = pl.puts;
    past = λ q g. each_insert st.active t (λ v q. v ≡ u → IsPast q pl.k) p' (λ e. more pl.k (pl.past p (subst (λ v. InPhase st v p) e h)))
        (λ v q ne g e. pl.past q (subst (λ v. InPhase st v q) e g)) u q g refl;
  }

-- the phase of a session that has held k cells
pub record HeldPhase (st : State) (t k : ℕ) : Type 0 where
  pub p : Phase
  pub is : InPhase st t p
  pub live : IsLive p
  pub below : (j : ℕ) → IsPast p j → j < k
  pub above : (j : ℕ) → j < k → IsPast p j

pub held_phase : (st : State) (t k : ℕ) → HasHeld st t k → HeldPhase st t k
held_phase st t k (inl h) = record { p = Holding k; is = h; live = tt; below = λ j g. g; above = λ j g. g }
held_phase st t k (inr (h, e)) = record { p = Open; is = h; live = tt; below = λ j g. absurd g; above = λ j g. absurd (omega arith) }

-- a cell is held
module _ (st : State) (t k : ℕ) (x : Cell) where
  abbrev pub held : State
  held = record st { marks = (x, t) ∷ st.marks; active = insert st.active t (Holding (k + 1)) }

  pub held_placed : HasHeld st t k → (y : Cell) (u : ℕ) → HasTried st y u → HasTried held y u
  held_placed h y u pl =
      let hp = held_phase st t k h in
      let p = phase_placed st t (Holding (k + 1)) hp.p hp.is (λ j g. let below = hp.below j g in omega arith) y u pl in
      record { ws = p.ws; k = p.k; v = p.v; wrote = p.wrote; puts = p.puts; past = p.past }

  -- the marks of the session are there after it
  stands_on : (i : Sound st) → HasHeld st t k → (ws : Writes) (v : Change) → Wrote st t ws → Puts ws k x v → (us : Writes) → Wrote st t us
      → IsDead st t ⊎ ((j : ℕ) (y : Cell) (w : Change) → Puts us j y w → IsPast (Holding (k + 1)) j → Marked held y t)
  stands_on i h ws v w puts us g = elim (i.stands t hp.p hp.is hp.live us g) [
    | inl d ↦ inl d
    | inr f ↦ inr (λ j y z at past. elim (cases_lt j k) [
      | inl lt ↦ there (f j y z at (hp.above j lt))
      | inr ge ↦ let e : j ≡ k = omega arith in
          let same : ◌≡◌ {A = Cell × Change} (y, z) (x, v) = same_Some (y, z) (x, v) (sym at ∙ (ap (slice_get us) e ∙ (ap (λ (l : Writes). slice_get l k) (same_entry st.begun t us ws g w) ∙ puts))) in
          subst (λ (q : Cell). (q, t) ∈ ((x, t) ∷ st.marks)) (ap (λ q. q.0) (sym same)) here
    ])
  ]
    where
      hp : HeldPhase st t k
      hp = held_phase st t k h

  pub held_sound : HasHeld st t k → (ws : Writes) (v : Change) → Wrote st t ws → Puts ws k x v → ¬ Clashes st x t → Sound st → Sound held
  held_sound h ws v w puts free i = record {
    start_low = i.start_low;
    cells_differ = i.cells_differ;
    has_begun = each_insert st.active t (λ u p. (us : Writes) × Wrote st u us) (Holding (k + 1)) (ws, w) (λ u p ne g. i.has_begun u p g);
    uncommitted = each_insert st.active t (λ u p. IsLive p → (a : Commit) → a ∈ st.commits → a.start ≢ u) (Holding (k + 1))
        (λ l. i.uncommitted t hp.p hp.is hp.live) (λ u p ne g. i.uncommitted u p g);
    stands = each_insert st.active t (λ u p. IsLive p → (us : Writes) → Wrote st u us → IsDead st u ⊎ ((j : ℕ) (y : Cell) (z : Change) → Puts us j y z → IsPast p j → Marked held y u)) (Holding (k + 1))
        (λ l. stands_on i h ws v w puts)
        (λ u p ne g l us gw. elim (i.stands u p g l us gw) [ inl d ↦ inl d | inr f ↦ inr (λ j y z at past. there (f j y z at past)) ]);
    drawn = each_insert st.active t (λ u p. (c : ℕ) → p ≡ Stamped c → IsOwn held u c) (Holding (k + 1)) (λ c e. cc)
        (λ u p ne g c e. let o = i.drawn u p g c e in record {
          later = o.later;
          low = o.low;
          no_start = o.no_start;
          no_commit = o.no_commit;
          no_other = λ r gr. each_insert st.active t (λ r q. q ≡ Stamped c → r ≡ u) (Holding (k + 1)) (λ f. cc) (λ r q nr gq f. o.no_other r (subst (λ (q : Phase). InPhase st r q) f gq)) r (Stamped c) gr refl;
        });
    finishes = each_insert st.active t (λ u p. (c n : ℕ) → p ≡ Finishing c n → CommittedAt st u c) (Holding (k + 1)) (λ c n e. cc) (λ u p ne g. i.finishes u p g);
    placed = λ y u m. placed_in y u m;
    one_mark = λ y u r m n. one_in y u r m n;
    younger = λ y u m. younger_in y u m;
    fair = λ a m. let f = i.fair a m in record { wrote = f.wrote; later = f.later; low = f.low; no_start = f.no_start };
    starts_differ = i.starts_differ;
    stamps_differ = i.stamps_differ;
    not_dead = i.not_dead;
    first_committer = i.first_committer;
    read_low = i.read_low;
    settled = i.settled;
    scans_settled = i.scans_settled;
    unread = λ r m. each_insert st.active t (λ u p. (c : ℕ) → p ≡ Stamped c → (us : Writes) → Wrote st u us → Names us r.cell → c ≤ r.start → IsDead st u) (Holding (k + 1))
        (λ c e. cc) (λ u p ne g. i.unread r m u p g);
    decided = i.decided;
  }
    where
      hp : HeldPhase st t k
      hp = held_phase st t k h

      new_placed : HasTried held x t
      new_placed = record {
        ws = ws;
        k = k;
        v = v;
        wrote = w;
        puts = puts;
        past = λ p g. subst (λ q. IsPast q k) (same_Some (Holding (k + 1)) p (sym (get_same st.active t (Holding (k + 1))) ∙ g)) (let b : k < k + 1 = omega arith in b);
      }

      placed_in : (y : Cell) (u : ℕ) → (y, u) ∈ ((x, t) ∷ st.marks) → HasTried held y u
      placed_in y u m = each_cons (λ (q : Cell × ℕ). HasTried held q.0 q.1) new_placed (λ q n. held_placed h q.0 q.1 (i.placed q.0 q.1 n)) (y, u) m

      -- x has no mark yet
      unmarked : (u : ℕ) → ¬ Marked st x u
      unmarked u m = free (inl (u, m))

      one_in : (y : Cell) (u r : ℕ) → (y, u) ∈ ((x, t) ∷ st.marks) → (y, r) ∈ ((x, t) ∷ st.marks) → u ≡ r
      one_in y u r m n = each_cons (λ (q : Cell × ℕ). q.0 ≡ y → q.1 ≡ r)
          (λ e. each_cons (λ (q : Cell × ℕ). q.0 ≡ x → t ≡ q.1) (λ f. refl) (λ q mq f. absurd (unmarked q.1 (subst (λ z. (z, q.1) ∈ st.marks) f mq))) (y, r) n (sym e))
          (λ q mq e. each_cons (λ (s : Cell × ℕ). s.0 ≡ q.0 → q.1 ≡ s.1) (λ f. absurd (unmarked q.1 (subst (λ z. (z, q.1) ∈ st.marks) (sym f) mq)))
          (λ s ms f. i.one_mark q.0 q.1 s.1 mq (subst (λ z. (z, s.1) ∈ st.marks) f ms)) (y, r) n (sym e))
          (y, u) m refl

      first_here : (a : Commit) → a ∈ st.commits → a.start ≢ t → Names a.writes x → a.stamp < t
      first_here a m ne names =
          let apart : t ≢ a.stamp = (i.fair a m).no_start t ws w in
          elim (cases_lt t a.stamp) [ inl lt ↦ absurd (free (inr (a, m, names, lt))) | inr ge ↦ omega arith ]

      younger_in : (y : Cell) (u : ℕ) → (y, u) ∈ ((x, t) ∷ st.marks) → (a : Commit) → a ∈ st.commits → a.start ≢ u → Names a.writes y → a.stamp < u
      younger_in y u m = each_cons (λ (q : Cell × ℕ). (a : Commit) → a ∈ st.commits → a.start ≢ q.1 → Names a.writes q.0 → a.stamp < q.1)
          first_here (λ q mq. i.younger q.0 q.1 mq) (y, u) m

-- the commit stamp is drawn
module _ (st : State) (t c : ℕ) (ws : Writes) (new : st.top < c) where
  abbrev pub stamped : State
  stamped = record st { top = c; active = insert st.active t (Stamped c) }

  pub stamped_placed : InPhase st t (Holding (length ws)) → (y : Cell) (u : ℕ) → HasTried st y u → HasTried stamped y u
  stamped_placed h y u pl =
      let p = phase_placed st t (Stamped c) (Holding (length ws)) h (λ j g. tt) y u pl in
      record { ws = p.ws; k = p.k; v = p.v; wrote = p.wrote; puts = p.puts; past = p.past }

  all_stand : (i : Sound st) → InPhase st t (Holding (length ws)) → Wrote st t ws → (us : Writes) → Wrote st t us
      → IsDead st t ⊎ ((j : ℕ) (y : Cell) (w : Change) → Puts us j y w → IsPast (Stamped c) j → Marked st y t)
  all_stand i h w us g = elim (i.stands t (Holding (length ws)) h tt us g) [
    | inl d ↦ inl d
    | inr f ↦ inr (λ j y z at past. f j y z at (subst (λ (l : Writes). j < length l) (same_entry st.begun t us ws g w) (slice_get_within us j (y, z) at)))
  ]

  own : (i : Sound st) → Wrote st t ws → IsOwn stamped t c
  own i w = record {
    later = (let low = i.start_low t ws w in omega arith);
    low = omega arith;
    no_start = λ u us g. let low = i.start_low u us g in omega arith;
    no_commit = λ a m. let low = (i.fair a m).low in omega arith;
    no_other = λ u g. each_insert st.active t (λ u q. q ≡ Stamped c → u ≡ t) (Stamped c) (λ f. refl)
        (λ u q ne gq f. let low = (i.drawn u q gq c f).low in absurd (omega arith)) u (Stamped c) g refl;
  }

  still_own : (i : Sound st) (u d : ℕ) → IsOwn st u d → IsOwn stamped u d
  still_own i u d o = record {
    later = o.later;
    low = (let low = o.low in omega arith);
    no_start = o.no_start;
    no_commit = o.no_commit;
    no_other = λ r g. each_insert st.active t (λ r q. q ≡ Stamped d → r ≡ u) (Stamped c)
        (λ f. let e : c ≡ d = cc in let low = o.low in absurd (omega arith))
        (λ r q ne gq f. o.no_other r (subst (λ (q : Phase). InPhase st r q) f gq)) r (Stamped d) g refl;
  }

  pub stamped_sound : InPhase st t (Holding (length ws)) → Wrote st t ws → Sound st → Sound stamped
  stamped_sound h w i = record {
    start_low = λ u us g. let low = i.start_low u us g in omega arith;
    cells_differ = i.cells_differ;
    has_begun = each_insert st.active t (λ u p. (us : Writes) × Wrote st u us) (Stamped c) (ws, w) (λ u p ne g. i.has_begun u p g);
    uncommitted = each_insert st.active t (λ u p. IsLive p → (a : Commit) → a ∈ st.commits → a.start ≢ u) (Stamped c)
        (λ l. i.uncommitted t (Holding (length ws)) h tt) (λ u p ne g. i.uncommitted u p g);
    stands = each_insert st.active t (λ u p. IsLive p → (us : Writes) → Wrote st u us → IsDead st u ⊎ ((j : ℕ) (y : Cell) (z : Change) → Puts us j y z → IsPast p j → Marked st y u)) (Stamped c)
        (λ l. all_stand i h w) (λ u p ne g. i.stands u p g);
    drawn = each_insert st.active t (λ u p. (d : ℕ) → p ≡ Stamped d → IsOwn stamped u d) (Stamped c)
        (λ d e. let f : c ≡ d = cc in subst (λ d. IsOwn stamped t d) f (own i w)) (λ u p ne g d e. still_own i u d (i.drawn u p g d e));
    finishes = each_insert st.active t (λ u p. (d n : ℕ) → p ≡ Finishing d n → CommittedAt st u d) (Stamped c) (λ d n e. cc) (λ u p ne g. i.finishes u p g);
    placed = λ y u m. stamped_placed h y u (i.placed y u m);
    one_mark = i.one_mark;
    younger = i.younger;
    fair = λ a m. let f = i.fair a m in record { wrote = f.wrote; later = f.later; low = (let low = f.low in omega arith); no_start = f.no_start };
    starts_differ = i.starts_differ;
    stamps_differ = i.stamps_differ;
    not_dead = i.not_dead;
    first_committer = i.first_committer;
    read_low = λ r m. let low = i.read_low r m in omega arith;
    settled = i.settled;
    scans_settled = i.scans_settled;
    unread = λ r m. each_insert st.active t (λ u p. (d : ℕ) → p ≡ Stamped d → (us : Writes) → Wrote st u us → Names us r.cell → d ≤ r.start → IsDead st u) (Stamped c)
        (λ d e us g names le. let f : c ≡ d = cc in let low = i.read_low r m in absurd (omega arith)) (λ u p ne g. i.unread r m u p g);
    decided = i.decided;
  }

-- t is finishing the commit that it made
pub record IsFinishing (st : State) (t : ℕ) (p : Phase) : Type 0 where
  pub c : ℕ
  pub k : ℕ
  pub is : p ≡ Finishing c k
  pub committed : CommittedAt st t c
  pub ws : Writes
  pub wrote : Wrote st t ws

-- sessions end, or continue finishing
abbrev pub Recedes : State → FinMap nat_cmp Phase → Type 0
Recedes st active' = (u : ℕ) (p : Phase) → get active' u ≡ Some p → InPhase st u p ⊎ IsFinishing st u p

module _ (st : State) (active' : FinMap nat_cmp Phase) (less : Recedes st active') where
  abbrev pub receded : State
  receded = record st { active = active' }

  each_left : (P : ℕ → Phase → Type 0) → ((u : ℕ) (p : Phase) → InPhase st u p → P u p) → ((u : ℕ) (c k : ℕ) → CommittedAt st u c → (ws : Writes) → Wrote st u ws → P u (Finishing c k)) → (u : ℕ) (p : Phase) → InPhase receded u p → P u p
  each_left P old new u p h = elim (less u p h) [
    | inl g ↦ old u p g
    | inr f ↦ subst (P u) (sym f.is) (new u f.c f.k f.committed f.ws f.wrote)
  ]

  -- a stamp that is drawn was drawn before
  stamped_before : (u c : ℕ) → InPhase receded u (Stamped c) → InPhase st u (Stamped c)
  stamped_before u c h = each_left (λ u p. p ≡ Stamped c → InPhase st u (Stamped c)) (λ u p g e. subst (λ q. InPhase st u q) e g) (λ u d k m ws w e. cc) u (Stamped c) h refl

  pub receded_placed : (x : Cell) (t : ℕ) → HasTried st x t → HasTried receded x t
  receded_placed x t pl = record {
    ws = pl.ws;
    k = pl.k;
    v = pl.v;
    wrote = pl.wrote;
    puts = pl.puts;
    past = λ p h. each_left (λ u p. u ≡ t → IsPast p pl.k) (λ u p g e. pl.past p (subst (λ v. InPhase st v p) e g)) (λ u c k m ws w e. tt) t p h refl;
  }

  pub receded_sound : Sound st → Sound receded
  receded_sound i = record {
    start_low = i.start_low;
    cells_differ = i.cells_differ;
    has_begun = each_left (λ u p. (ws : Writes) × Wrote st u ws) i.has_begun (λ u c k m ws w. (ws, w));
    uncommitted = each_left (λ u p. IsLive p → (a : Commit) → a ∈ st.commits → a.start ≢ u) i.uncommitted (λ u c k m ws w l. absurd l);
    stands = each_left (λ u p. IsLive p → (ws : Writes) → Wrote st u ws → IsDead st u ⊎ ((k : ℕ) (x : Cell) (v : Change) → Puts ws k x v → IsPast p k → Marked st x u)) i.stands (λ u c k m ws w l. absurd l);
    drawn = each_left (λ u p. (c : ℕ) → p ≡ Stamped c → IsOwn receded u c)
        (λ u p g c e. let o = i.drawn u p g c e in record { later = o.later; low = o.low; no_start = o.no_start; no_commit = o.no_commit; no_other = λ r h. o.no_other r (stamped_before r c h) })
        (λ u c k m ws w d e. cc);
    finishes = each_left (λ u p. (c k : ℕ) → p ≡ Finishing c k → CommittedAt st u c) i.finishes
        (λ u c k m ws w d j e. let f : c ≡ d = cc in subst (CommittedAt st u) f m);
    placed = λ x t m. receded_placed x t (i.placed x t m);
    one_mark = i.one_mark;
    younger = i.younger;
    fair = λ a m. let f = i.fair a m in record { wrote = f.wrote; later = f.later; low = f.low; no_start = f.no_start };
    starts_differ = i.starts_differ;
    stamps_differ = i.stamps_differ;
    not_dead = i.not_dead;
    first_committer = i.first_committer;
    read_low = i.read_low;
    settled = i.settled;
    scans_settled = i.scans_settled;
    unread = λ r m. each_left (λ u p. (c : ℕ) → p ≡ Stamped c → (ws : Writes) → Wrote st u ws → Names ws r.cell → c ≤ r.start → IsDead st u) (i.unread r m) (λ u c k n ws w d e. cc);
    decided = i.decided;
  }

pub ends : (st : State) (t : ℕ) → Recedes st (remove st.active t)
ends st t u p h = inl (each_remove st.active t (λ u p. InPhase st u p) (λ u p ne g. g) u p h)

-- also if only t's entry in active is new
pub ends_or_finishes : (st : State) (active : FinMap nat_cmp Phase) (t c k n : ℕ) → ((u : ℕ) (p : Phase) → u ≢ t → get active u ≡ Some p → InPhase st u p)
    → CommittedAt st t c → (ws : Writes) → Wrote st t ws → Recedes st (finishing active t c k n)
ends_or_finishes st active t c k n others m ws w u p h = by_test (nat_eq k n) h
  where
    by_test : (b : Bool) → get (cond b (remove active t) (insert active t (Finishing c k))) u ≡ Some p → InPhase st u p ⊎ IsFinishing st u p
    by_test true g = inl (each_remove active t (λ u p. InPhase st u p) others u p g)
    by_test false g = each_insert active t (λ u p. InPhase st u p ⊎ IsFinishing st u p) (Finishing c k)
        (inr (record { c = c; k = k; is = refl; committed = m; ws = ws; wrote = w })) (λ u p ne g. inl (others u p ne g)) u p g

-- a commit is added; its session is not active
pub record Joins (st : State) (t c : ℕ) (ws : Writes) : Type 0 where
  pub wrote : Wrote st t ws
  pub own : IsOwn st t c
  pub idle : (p : Phase) → ¬ InPhase st t p
  pub alive : ¬ IsDead st t
  pub once : (a : Commit) → a ∈ st.commits → a.start ≢ t
  pub stands : (x : Cell) → Names ws x → Marked st x t
  pub unread : (r : Read) → Told st r → Names ws r.cell → r.start < c

module _ (st : State) (t c : ℕ) (ws : Writes) where
  abbrev pub new_commit : Commit
  new_commit = record { start = t; stamp = c; writes = ws }

  abbrev pub joined : State
  joined = record st { commits = new_commit ∷ st.commits }

  first_before : Joins st t c ws → Sound st → (a : Commit) → a ∈ st.commits → (x : Cell) → Names a.writes x → Names ws x → a.stamp < t
  first_before j i a m x na n = i.younger x t (j.stands x n) a m (j.once a m) na

  settled_still : Joins st t c ws → (r : Read) → Told st r → (v : Option Value) → IsSnapshot st.commits r.start r.cell v → IsSnapshot joined.commits r.start r.cell v
  settled_still j r m v old = elim old [
    | inl (a, ma, gives, le, most) ↦ inl (
      a,
      there ma,
      gives,
      le,
      each_cons (λ b. Names b.writes r.cell → b.stamp ≤ r.start → b.stamp ≤ a.stamp) (λ n low. let late = j.unread r m n in absurd (omega arith)) most,
    )
    | inr (e, none) ↦ inr (e, each_cons (λ b. Names b.writes r.cell → r.start < b.stamp) (j.unread r m) none)
  ]

  shown_still : Joins st t c ws → (scan : Scan) → scan ∈ st.scans → (x : Cell) (said : Option Item) → SaysOf scan x said → ((u : ℕ) → said ≢ Some (Locked u))
      → (v : Option Value) → IsSnapshot st.commits scan.start x v → IsSnapshot joined.commits scan.start x v
  shown_still j scan m x said says free v =
      settled_still j (record { start = scan.start; cell = x; answer = v }) (inr (scan, m, record { said = said; is = says; free = free }, refl)) v

  -- a scan's answers are still right
  says_still : Joins st t c ws → Sound st → (scan : Scan) → scan ∈ st.scans → (x : Cell) (said : Option Item) → SaysOf scan x said → IsSo joined.commits scan.start x said
  says_still j i scan m x None says = shown_still j scan m x None says (λ t e. cc) None (i.scans_settled scan m x None says)
  says_still j i scan m x (Some (Valued v)) says = shown_still j scan m x (Some (Valued v)) says (λ t e. cc) (Some v) (i.scans_settled scan m x (Some (Valued v)) says)
  says_still j i scan m x (Some Unsent) says = let v = i.scans_settled scan m x (Some Unsent) says in (v.0, shown_still j scan m x (Some Unsent) says (λ t e. cc) (Some v.0) v.1)
  says_still j i scan m x (Some (Locked u)) says = tt

  pub joined_sound : Joins st t c ws → Sound st → Sound joined
  joined_sound j i = record {
    start_low = i.start_low;
    cells_differ = i.cells_differ;
    has_begun = i.has_begun;
    uncommitted = λ u p h l. each_cons (λ a. a.start ≢ u) (λ e. j.idle p (subst (λ v. InPhase st v p) (sym e) h)) (i.uncommitted u p h l);
    stands = i.stands;
    drawn = λ u p h d e. let o = i.drawn u p h d e in record {
      later = o.later;
      low = o.low;
      no_start = o.no_start;
      no_commit = each_cons (λ a. a.stamp ≢ d) (λ f. j.idle p (subst (λ v. InPhase st v p) (j.own.no_other u (subst (λ q. InPhase st u q) (e ∙ ap Stamped (sym f)) h)) h)) o.no_commit;
      no_other = o.no_other;
    };
    finishes = λ u p h d k e. let f = i.finishes u p h d k e in (f.0, there f.1);
    placed = λ x u m. let p = i.placed x u m in record { ws = p.ws; k = p.k; v = p.v; wrote = p.wrote; puts = p.puts; past = p.past };
    one_mark = i.one_mark;
    younger = λ x u m. each_cons (λ a. a.start ≢ u → Names a.writes x → a.stamp < u) (λ ne n. absurd (ne (i.one_mark x t u (j.stands x n) m))) (i.younger x u m);
    fair = each_cons (λ a. IsFair joined a) (record { wrote = j.wrote; later = j.own.later; low = j.own.low; no_start = j.own.no_start })
        (λ a m. let f = i.fair a m in record { wrote = f.wrote; later = f.later; low = f.low; no_start = f.no_start });
    starts_differ = (j.once, i.starts_differ);
    stamps_differ = λ a b m n. each_cons (λ a. a.stamp ≡ b.stamp → a.start ≡ b.start)
        (each_cons (λ b. c ≡ b.stamp → t ≡ b.start) (λ e. refl) (λ b n e. absurd (j.own.no_commit b n (sym e))) b n)
        (λ a m. each_cons (λ b. a.stamp ≡ b.stamp → a.start ≡ b.start) (λ e. absurd (j.own.no_commit a m e)) (λ b n. i.stamps_differ a b m n) b n) a m;
    not_dead = each_cons (λ a. ¬ IsDead st a.start) j.alive i.not_dead;
    first_committer = λ a b m n. each_cons (λ a. a.start ≢ b.start → (x : Cell) → Names a.writes x → Names b.writes x → (a.stamp < b.start) ⊎ (b.stamp < a.start))
        (each_cons (λ b. t ≢ b.start → (x : Cell) → Names ws x → Names b.writes x → (c < b.start) ⊎ (b.stamp < t))
        (λ ne. absurd (ne refl)) (λ b n ne x na nb. inr (first_before j i b n x nb na)) b n)
        (λ a m. each_cons (λ b. a.start ≢ b.start → (x : Cell) → Names a.writes x → Names b.writes x → (a.stamp < b.start) ⊎ (b.stamp < a.start))
        (λ ne x na nb. inl (first_before j i a m x na nb)) (λ b n. i.first_committer a b m n) b n) a m;
    read_low = i.read_low;
    settled = λ r m. settled_still j r (inl m) r.answer (i.settled r m);
    scans_settled = says_still j i;
    unread = i.unread;
    decided = λ n k h e. elim (i.decided n k h e) [ inl f ↦ inl (f.0, (f.1.0, there f.1.1)) | inr d ↦ inr d ];
  }

-- a mark of a dead or committed start is removed
module _ (st : State) (x : Cell) (t : ℕ) (marks' : List (Cell × ℕ)) (less : IsWithout st.marks (x, t) marks') where
  abbrev pub unmarked : State
  unmarked = record st { marks = marks' }

  was_marked : (y : Cell) (u : ℕ) → (y, u) ∈ marks' → Marked st y u
  was_marked y u m = ((less.same (y, u)).0 m).0

  stands_still : IsCommitted st t ⊎ IsDead st t → Sound st → (u : ℕ) (p : Phase) → InPhase st u p → IsLive p → (ws : Writes) → Wrote st u ws
      → IsDead st u ⊎ ((k : ℕ) (y : Cell) (v : Change) → Puts ws k y v → IsPast p k → (y, u) ∈ marks')
  stands_still fate i u p h l ws w = elim (i.stands u p h l ws w) [
    | inl d ↦ inl d
    | inr f ↦ elim (cases_eq u t) [
      | inl e ↦ elim fate [
        | inl m ↦ absurd (i.uncommitted u p h l (record { start = t; stamp = m.0; writes = m.1.0 }) m.1.1 (sym e))
        | inr d ↦ inl (subst (IsDead st) (sym e) d)
      ]
      | inr ne ↦ inr (λ k y v at past. (less.same (y, u)).1 (f k y v at past, λ e. ne (ap (λ q. q.1) e)))
    ]
  ]

  pub unmarked_sound : IsCommitted st t ⊎ IsDead st t → Sound st → Sound unmarked
  unmarked_sound fate i = record {
    start_low = i.start_low;
    cells_differ = i.cells_differ;
    has_begun = i.has_begun;
    uncommitted = i.uncommitted;
    stands = stands_still fate i;
    drawn = λ t p h c e. let o = i.drawn t p h c e in record { later = o.later; low = o.low; no_start = o.no_start; no_commit = o.no_commit; no_other = o.no_other };
    finishes = i.finishes;
    placed = λ y u m. let p = i.placed y u (was_marked y u m) in record { ws = p.ws; k = p.k; v = p.v; wrote = p.wrote; puts = p.puts; past = p.past };
    one_mark = λ y u r m n. i.one_mark y u r (was_marked y u m) (was_marked y r n);
    younger = λ y u m. i.younger y u (was_marked y u m);
    fair = λ a m. let f = i.fair a m in record { wrote = f.wrote; later = f.later; low = f.low; no_start = f.no_start };
    starts_differ = i.starts_differ;
    stamps_differ = i.stamps_differ;
    not_dead = i.not_dead;
    first_committer = i.first_committer;
    read_low = i.read_low;
    settled = i.settled;
    scans_settled = i.scans_settled;
    unread = i.unread;
    decided = i.decided;
  }

-- a start dies
module _ (st : State) (t : ℕ) where
  abbrev pub killed : State
  killed = record st { dead = t ∷ st.dead }

  pub killed_sound : ¬ IsCommitted st t → Sound st → Sound killed
  killed_sound not_committed i = record {
    start_low = i.start_low;
    cells_differ = i.cells_differ;
    has_begun = i.has_begun;
    uncommitted = i.uncommitted;
    stands = λ u p h l ws w. elim (i.stands u p h l ws w) [ inl d ↦ inl (there d) | inr f ↦ inr f ];
    drawn = λ t p h c e. let o = i.drawn t p h c e in record { later = o.later; low = o.low; no_start = o.no_start; no_commit = o.no_commit; no_other = o.no_other };
    finishes = i.finishes;
    placed = λ y u m. let p = i.placed y u m in record { ws = p.ws; k = p.k; v = p.v; wrote = p.wrote; puts = p.puts; past = p.past };
    one_mark = i.one_mark;
    younger = i.younger;
    fair = λ a m. let f = i.fair a m in record { wrote = f.wrote; later = f.later; low = f.low; no_start = f.no_start };
    starts_differ = i.starts_differ;
    stamps_differ = i.stamps_differ;
    not_dead = λ a m d. each_cons (λ u. u ≡ a.start → ⊥) (λ e. not_committed (a.stamp, (a.writes, subst (λ u. record { start = u; stamp = a.stamp; writes = a.writes } ∈ st.commits) (sym e) m)))
        (λ u n e. i.not_dead a m (subst (IsDead st) e n)) a.start d refl;
    first_committer = i.first_committer;
    read_low = i.read_low;
    settled = i.settled;
    scans_settled = i.scans_settled;
    unread = λ r m u p h c e ws w n le. there (i.unread r m u p h c e ws w n le);
    decided = λ n k h e. elim (i.decided n k h e) [ inl f ↦ inl f | inr d ↦ inr (there d) ];
  }

-- only parts change that do not concern sessions, marks and commits
module _ (st : State) (cleaners' : FinMap nat_cmp Cleaner) (next : ℕ) (collectors' : FinMap nat_cmp ℕ) (next_collector' floor' : ℕ) (places' : List Place) (next_tablet' : ℕ) where
  abbrev pub aside : State
  aside = record st { cleaners = cleaners'; next_cleaner = next; collectors = collectors'; next_collector = next_collector'; floor = floor'; places = places'; next_tablet = next_tablet' }

  pub aside_sound : ((n : ℕ) (k : Cleaner) → get cleaners' n ≡ Some k → k.decided ≡ true → IsCommitted st k.start ⊎ IsDead st k.start) → Sound st → Sound aside
  aside_sound fates i = record {
    start_low = i.start_low;
    cells_differ = i.cells_differ;
    has_begun = i.has_begun;
    uncommitted = i.uncommitted;
    stands = i.stands;
    drawn = λ t p h c e. let o = i.drawn t p h c e in record { later = o.later; low = o.low; no_start = o.no_start; no_commit = o.no_commit; no_other = o.no_other };
    finishes = i.finishes;
    placed = λ y u m. let p = i.placed y u m in record { ws = p.ws; k = p.k; v = p.v; wrote = p.wrote; puts = p.puts; past = p.past };
    one_mark = i.one_mark;
    younger = i.younger;
    fair = λ a m. let f = i.fair a m in record { wrote = f.wrote; later = f.later; low = f.low; no_start = f.no_start };
    starts_differ = i.starts_differ;
    stamps_differ = i.stamps_differ;
    not_dead = i.not_dead;
    first_committer = i.first_committer;
    read_low = i.read_low;
    settled = i.settled;
    scans_settled = i.scans_settled;
    unread = i.unread;
    decided = fates;
  }

-- only the cleaners change
pub cleaning_sound : (st : State) (cleaners' : FinMap nat_cmp Cleaner) (next : ℕ) → ((n : ℕ) (k : Cleaner) → get cleaners' n ≡ Some k → k.decided ≡ true → IsCommitted st k.start ⊎ IsDead st k.start) → Sound st → Sound (record st { cleaners = cleaners'; next_cleaner = next })
cleaning_sound st cleaners' next = aside_sound st cleaners' next st.collectors st.next_collector st.floor st.places st.next_tablet

-- only parts beside the transactions change
pub beside_sound : (st : State) (collectors' : FinMap nat_cmp ℕ) (next_collector' floor' : ℕ) (places' : List Place) (next_tablet' : ℕ) → Sound st
    → Sound (record st { collectors = collectors'; next_collector = next_collector'; floor = floor'; places = places'; next_tablet = next_tablet' })
beside_sound st collectors' next_collector' floor' places' next_tablet' i = aside_sound st st.cleaners st.next_cleaner collectors' next_collector' floor' places' next_tablet' i.decided i
