-- The machine's steps of a session, if the cell map shows its state.
use Rattle.std.proofs.Common.{◌≡◌, ℕ, ◌+◌, ◌<◌, ◌≤◌, ◌⊎◌, inl, inr, ◌∷◌, length, None, refl, sym, subst, ◌∙◌, arith}
use Rattle.std.specs.FinMap.{insert, remove}
use Rattle.std.proofs.lemmas.Option.{none-some, slice_get_within}
use Rattle.cell_key.specs.Cells.{Cells}
use Rattle.cell_key.specs.declared.keys.Qualifier.TheVariants.{Lock}
use Rattle.si_model.specs.Sets.{◌∈◌, here, there, IsWithout}
use Rattle.si_model.specs.Machine.{State, Change, Writes, Phase, Open, Holding, Stamped, Finishing, Commit, Request, Reply, Advance, Begin, Get, Held, Conflict, Drawn, Committed, Lost, Finished, Begun, Answered, Pending, InPhase, Wrote, Puts, Gives, Names, Marked, IsDead, IsCommitted, CommittedAt, Clashes, HasHeld, IsSnapshot, IsAcceptable, finishing, end_of_stamps}
use Rattle.si_model.specs.Servers.{IsReachedByServers}
use Rattle.si_model.specs.declared.replies.Cell.{Cell}
use Rattle.si_model.specs.Machine as step
use Rattle.si_model.specs.Machine.{Step, accepts}
use Rattle.si_model.proofs.Tools.{each_cons, same_entry, get_same}
use Rattle.si_model.proofs.Kept.{held_phase}
use Rattle.si_model.proofs.Steps.{servers_sound}
use Rattle.si_model.proofs.Floors.{servers_floors}
use Rattle.si_model.proofs.Fates.{fate_seen}
use Rattle.si_model.proofs.Without.{without}
use Rattle.si_model.proofs.Snapshots.{same_commit}
use Rattle.si_model.proofs.Bounds.{servers_bounds}
use Rattle.si_model.proofs.Goes.{goes}
use Rattle.si_model.proofs.Acceptable.{advance_ok}
use Rattle.si_model.specs.ShowsCells.{at, kind_of_change, HasData, IsThere, ShowsCells, held_cells, recorded_cells}
use Rattle.si_model.proofs.ShownKept.{mark_data, shows_beside, shows_held, shows_recorded}
use Rattle.txn_client.specs.Reads.{IsTaken, IsFree}

some_write : (ws : Writes) (k : ℕ) (x : Cell) (v : Change) → Puts ws k x v → 1 ≤ length ws
some_write ws k x v puts = let low = slice_get_within ws k (x, v) puts in omega arith

module _ (cells : Cells) (st : State) (reached : IsReachedByServers st) (shown : ShowsCells cells st) where
  -- a commit is later than its start, and its writes are its start's
  made : (a : Commit) → a ∈ st.commits → a.start < a.stamp
  made a i = ((servers_sound reached).fair a i).later

  pub taken_clash : (x : Cell) (t : ℕ) (ws : Writes) → Wrote st t ws → IsTaken cells x t → Clashes st x t
  taken_clash x t ws w (inl (u, lock)) = inl (u, shown.locks x u lock.0 lock.1)
  taken_clash x t ws w (inr (c, le, r)) =
      let k = shown.records x c r.0 r.1 in
      let apart = ((servers_sound reached).fair k.commit k.is_in).no_start t ws w in
      let e = k.stamp in
      inr (k.commit, k.is_in, (k.change, k.gives), omega arith)

  unmarked : (x : Cell) (t : ℕ) → IsFree cells x t → (u : ℕ) → ¬ Marked st x u
  unmarked x t free u m =
      let k = shown.marks x u m in
      let low = (servers_sound reached).start_low u k.is_first.0 k.is_first.2 in
      let top = (servers_bounds reached).top in
      none-some _ (sym (free.0 u (omega arith) (omega arith)) ∙ k.lock)

  pub free_open : (x : Cell) (t : ℕ) (p : Phase) → InPhase st t p → IsFree cells x t → ¬ Clashes st x t
  free_open x t p h free (inl m) = unmarked x t free m.0 m.1
  free_open x t p h free (inr (a, i, names, later)) = elim (shown.commits a i x names (unmarked x t free a.start)) [
    | inl old ↦ let low = ((servers_sound reached).fair a i).low in let top = (servers_bounds reached).top in none-some _ (sym (free.1 a.stamp (omega arith) (omega arith)) ∙ old.1)
    | inr lack ↦ let floor = (servers_floors reached).above t p h in elim lack [
      | inl (b, j, named, le, cleared) ↦ let below = cleared.0 in absurd (omega arith)
      | inr f ↦ let below = f.cleared.0 in absurd (omega arith)
    ]
  ]

  -- the clash test succeeds: the session ends
  pub conflicts_at : (x : Cell) (v : Change) (t k : ℕ) (ws : Writes) → HasHeld st t k → Wrote st t ws → Puts ws k x v → IsTaken cells x t
      → Step st (Advance t) (Conflict (k + 1)) (record st { active = remove st.active t }) × ShowsCells cells (record st { active = remove st.active t })
  conflicts_at x v t k ws held w puts taken =
      let hp = held_phase st t k held in
      let s = accepts (advance_ok hp.p ws hp.is w (some_write ws k x v puts)) (step.conflicts held w puts (taken_clash x t ws w taken)) in
      (s, shows_beside cells st (record st { active = remove st.active t }) (goes reached s) shown (λ y u m. m) (λ y u m. m) refl)

  -- the cell is free: it is held
  pub holds_at : (x : Cell) (v : Change) (first : Cell) (w0 : Change) (t k : ℕ) (ws : Writes) → HasHeld st t k → Wrote st t ws → Puts ws k x v → Puts ws 0 first w0 → IsFree cells x t
      → Step st (Advance t) (Held (k + 1) (length ws)) (record st { marks = (x, t) ∷ st.marks; active = insert st.active t (Holding (k + 1)) })
      × ShowsCells (held_cells cells x t v first) (record st { marks = (x, t) ∷ st.marks; active = insert st.active t (Holding (k + 1)) })
  holds_at x v first w0 t k ws held w puts puts0 free =
      let hp = held_phase st t k held in
      let s = accepts (advance_ok hp.p ws hp.is w (some_write ws k x v puts)) (step.holds held w puts (free_open x t hp.p hp.is free)) in (
        s,
        shows_held cells st (record st { marks = (x, t) ∷ st.marks; active = insert st.active t (Holding (k + 1)) }) (goes reached s) shown x t v first here
            (λ y u m. joined y u m) (λ y u m. there m) (unmarked x t free) refl (λ a i e. (servers_sound reached).uncommitted t hp.p hp.is hp.live a i e)
            (ws, w0, w, puts0) ws w (k, puts) (λ h. cc (sym (get_same st.active t (Holding (k + 1))) ∙ h)),
      )
    where
      joined : (y : Cell) (u : ℕ) → (y, u) ∈ ((x, t) ∷ st.marks) → ((y ≡ x) × (u ≡ t)) ⊎ Marked st y u
      joined y u h = each_cons (λ (n : Cell × ℕ). ((n.0 ≡ x) × (n.1 ≡ t)) ⊎ Marked st n.0 n.1) (inl (refl, refl)) (λ n m. inr m) (y, u) h

  pub draws_at : (t c : ℕ) (ws : Writes) → InPhase st t (Holding (length ws)) → Wrote st t ws → st.top < c → c < end_of_stamps
      → Step st (Advance t) (Drawn c) (record st { top = c; active = insert st.active t (Stamped c) }) × ShowsCells cells (record st { top = c; active = insert st.active t (Stamped c) })
  draws_at t c ws h w new limit =
      let fit = (servers_bounds reached).fits t (Holding (length ws)) h ws w in
      let s = accepts (advance_ok (Holding (length ws)) ws h w fit.0) (step.draws h w (new, limit)) in
      (s, shows_beside cells st (record st { top = c; active = insert st.active t (Stamped c) }) (goes reached s) shown (λ y u m. m) (λ y u m. m) refl)

  module _ (t c : ℕ) (ws : Writes) (x : Cell) (v : Change) (w : Wrote st t ws) (puts : Puts ws 0 x v) (h : InPhase st t (Stamped c)) where
    able : IsAcceptable st (Advance t)
    able = advance_ok (Stamped c) ws h w (some_write ws 0 x v puts)

    alive : Marked st x t → ¬ IsDead st t
    alive m d = (fate_seen st reached t ws x v w puts).dead d m

    dies : ¬ Marked st x t → IsDead st t
    dies left = elim ((servers_sound reached).stands t (Stamped c) h tt ws w) [ inl d ↦ d | inr f ↦ absurd (left (f 0 x v puts tt)) ]

    -- the primary's lock is gone: the session is lost
    pub loses_at : at cells x Lock t ≡ None
        → Step st (Advance t) Lost (record st { active = remove st.active t }) × ShowsCells cells (record st { active = remove st.active t })
    loses_at gone =
        let s = accepts able (step.loses h (dies (λ m. none-some _ (sym gone ∙ (shown.marks x t m).lock)))) in
        (s, shows_beside cells st (record st { active = remove st.active t }) (goes reached s) shown (λ y u m. m) (λ y u m. m) refl)

    abbrev commit_of : Commit
    commit_of = record { start = t; stamp = c; writes = ws }

    abbrev pub after_commit : State
    after_commit = record st { commits = commit_of ∷ st.commits; marks = (without st.marks (x, t)).0; active = finishing st.active t c 1 (length ws) }

    -- the primary's lock is there: the session commits
    pub commits_at : IsThere cells x Lock t → (next : State) × Step st (Advance t) (Committed c) next × ShowsCells (recorded_cells cells x t c (kind_of_change v)) next
        × (next.begun ≡ st.begun) × (next.active ≡ finishing st.active t c 1 (length ws)) × (next.top ≡ st.top)
    commits_at lock = (after_commit, s, shows_recorded cells st after_commit (goes reached s) shown x t commit_of v marked less here refl later (0, puts) value (λ b i. there i) (λ b i. either b i) one_start joined, refl, refl, refl)
      where
        marked : Marked st x t
        marked = shown.locks x t lock.0 lock.1

        less : IsWithout st.marks (x, t) (without st.marks (x, t)).0
        less = (without st.marks (x, t)).1

        s : Step st (Advance t) (Committed c) after_commit
        s = accepts able (step.commits h (alive marked) w puts less)

        either : (b : Commit) → b ∈ (commit_of ∷ st.commits) → (b ∈ st.commits) ⊎ (b ≡ commit_of)
        either b i = each_cons (λ (b : Commit). (b ∈ st.commits) ⊎ (b ≡ commit_of)) (inr refl) (λ b j. inl j) b i

        later : t < c
        later = ((servers_sound reached).drawn t (Stamped c) h c refl).later

        value : HasData cells x t v
        value = mark_data cells st (servers_sound reached) x t (shown.marks x t marked) v (ws, w, (0, puts))

        one_start : (b : Commit) → b ∈ (commit_of ∷ st.commits) → b.start ≡ t → b ≡ commit_of
        one_start b i e = elim (either b i) [
          | inl j ↦ absurd ((servers_sound reached).uncommitted t (Stamped c) h tt b j e)
          | inr f ↦ f
        ]

        joined : (y : Cell) → Names ws y → ¬ Marked st y t → commit_of ∈ st.commits
        joined y names left = elim ((servers_sound reached).stands t (Stamped c) h tt ws w) [
          | inl d ↦ absurd (alive marked d)
          | inr f ↦ absurd (left (f names.1.0 y names.0 names.1.1 tt))
        ]

  module _ (t c k : ℕ) (ws : Writes) (x : Cell) (v : Change) (w : Wrote st t ws) (puts : Puts ws k x v) (h : InPhase st t (Finishing c k)) where
    able_on : IsAcceptable st (Advance t)
    able_on = advance_ok (Finishing c k) ws h w (some_write ws k x v puts)

    abbrev after_gone : State
    after_gone = record st { marks = st.marks; active = finishing st.active t c (k + 1) (length ws) }

    abbrev after_finish : State
    after_finish = record st { marks = (without st.marks (x, t)).0; active = finishing st.active t c (k + 1) (length ws) }

    committed : CommittedAt st t c
    committed = (servers_sound reached).finishes t (Finishing c k) h c k refl

    abbrev made_of : Commit
    made_of = record { start = t; stamp = c; writes = committed.0 }

    -- the cell's lock is gone: the session continues
    pub finishes_gone : at cells x Lock t ≡ None → (next : State) × Step st (Advance t) (Finished (k + 1) (length ws)) next × ShowsCells cells next
        × (next.begun ≡ st.begun) × (next.active ≡ finishing st.active t c (k + 1) (length ws)) × (next.top ≡ st.top)
    finishes_gone gone = (after_gone, s, shows_beside cells st after_gone (goes reached s) shown (λ y u m. m) (λ y u m. m) refl, refl, refl, refl)
      where
        left : ¬ Marked st x t
        left m = none-some _ (sym gone ∙ (shown.marks x t m).lock)

        less : IsWithout st.marks (x, t) st.marks
        less = record { same = λ n. (λ m. (m, λ e. left (subst (λ n. n ∈ st.marks) e m)), λ p. p.0) }

        s : Step st (Advance t) (Finished (k + 1) (length ws)) after_gone
        s = accepts able_on (step.finishes h w puts less)

    -- the cell's lock is there: it is replaced by its record
    pub finishes_at : IsThere cells x Lock t → (next : State) × Step st (Advance t) (Finished (k + 1) (length ws)) next × ShowsCells (recorded_cells cells x t c (kind_of_change v)) next
        × (next.begun ≡ st.begun) × (next.active ≡ finishing st.active t c (k + 1) (length ws)) × (next.top ≡ st.top)
    finishes_at lock = (after_finish, s, shows_recorded cells st after_finish (goes reached s) shown x t made_of v marked (without st.marks (x, t)).1 is_in refl later gives value (λ b i. i) (λ b i. inl i) one_start (λ y names left. is_in), refl, refl, refl)
      where
        marked : Marked st x t
        marked = shown.locks x t lock.0 lock.1

        is_in : made_of ∈ st.commits
        is_in = committed.1

        same : ws ≡ committed.0
        same = same_entry st.begun t ws committed.0 w ((servers_sound reached).fair made_of is_in).wrote

        gives : Gives committed.0 x v
        gives = subst (λ (ws : Writes). Gives ws x v) same (k, puts)

        later : t < c
        later = made made_of is_in

        value : HasData cells x t v
        value = mark_data cells st (servers_sound reached) x t (shown.marks x t marked) v (ws, w, (k, puts))

        s : Step st (Advance t) (Finished (k + 1) (length ws)) after_finish
        s = accepts able_on (step.finishes h w puts (without st.marks (x, t)).1)

        one_start : (b : Commit) → b ∈ st.commits → b.start ≡ t → b ≡ made_of
        one_start b i e = same_commit st.commits (servers_sound reached).starts_differ b made_of i is_in e
