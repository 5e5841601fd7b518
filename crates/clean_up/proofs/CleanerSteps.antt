-- The steps of one cleaner, if cells and cleaner show the machine's state.
use Rattle.std.proofs.Common.{◌≡◌, ◌≢◌, ℕ, ◌<◌, ◌≤◌, ◌^◌, ◌⊎◌, inl, inr, Bool, true, false, List, ◌∷◌, Option, Some, None, refl, sym, ap, subst, ◌∙◌, arith}
use Rattle.std.specs.FinMap as finmap
use Rattle.std.proofs.lemmas.Bool.{cases_lt}
use Rattle.std.proofs.lemmas.Option.{none-some, same_Some}
use Rattle.cell_key.specs.Cells.{Cells}
use Rattle.cell_key.specs.declared.keys.Qualifier.TheVariants as column
use Rattle.cell_key.specs.Columns.{NamesStart, IsRecordText}
use Rattle.cell_key.proofs.RecordTexts.{names_of, one_write}
use Rattle.cell_key.specs.declared.columns.WriteKind.{WriteKind}
use Rattle.rows.specs.Calls.{AppliesSuch, OnlyReads, View}
use Rattle.si_model.specs.Deciding.{IsRight, TellsFirst}
use Rattle.si_model.specs.Sets.{◌∈◌, here, IsWithout}
use Rattle.si_model.specs.Machine as machine
use Rattle.si_model.specs.Machine.{State, Commit, Step, accepts, IsAcceptable, Gives, Marked, IsDead, IsCommitted, CommittedAt}
use Rattle.si_model.specs.Replies.{clean_reply}
use Rattle.si_model.specs.Servers.{IsReachedByServers}
use Rattle.si_model.specs.ShowsCells.{NamesAt, NamesCommit, ShowsCells, ShowsMark, IsThere, at, erased_cells, kind_of_change, recorded_cells}
use Rattle.si_model.specs.declared.replies.Cell.{Cell}
use Rattle.si_model.specs.declared.replies.CleanReply.{CleanReply}
use Rattle.si_model.specs.declared.replies.CleanReply.TheVariants as clean
use Rattle.si_model.proofs.Acceptable.{clean_step_ok}
use Rattle.si_model.proofs.Bounds.{servers_bounds}
use Rattle.si_model.proofs.CleanerFates.{first_tells, names_nearest}
use Rattle.si_model.proofs.EditedCells.{make_cells}
use Rattle.si_model.proofs.Goes.{goes}
use Rattle.si_model.proofs.Invariant.{IsFair}
use Rattle.si_model.proofs.ShownKept.{shows_beside, shows_erased, shows_recorded}
use Rattle.si_model.proofs.Snapshots.{same_commit}
use Rattle.si_model.proofs.Steps.{servers_sound}
use Rattle.si_model.proofs.Tools.{same_entry}
use Rattle.si_model.proofs.Without.{without}
use Rattle.clean_up.specs.Fates.{Decides, IsNextRecord, IsToldBy, NamesOther, verdict_of}
use Rattle.clean_up.specs.Locks.{TellsKind}
use Rattle.clean_up.specs.Room.{ClearsCell}
use Rattle.clean_up.specs.Shows.{Advances, Follows, ShowsCleaner, cleaner_of, is_decided}
use Rattle.clean_up.specs.declared.cleaner.Cleaner.{Cleaner}
use Rattle.clean_up.specs.declared.fates.Fate.{Fate}
use Rattle.clean_up.specs.declared.fates.Fate.TheVariants.{Open, Forward, Back}
use Rattle.clean_up.proofs.LockTexts.{told_kind}

-- the machine takes the step, with this next state
abbrev Takes : State → ℕ → Cells → Cleaner → CleanReply → Type 0
Takes st i cells' cleaner' reply = (next : State) × Step st (machine.CleanStep i) (clean_reply reply) next × ShowsCells cells' next × Follows st next i cleaner' reply

not_open : true ≡ false → ⊥
not_open e = cc

-- a record names one start
not_named : (b : List ℕ) (t : ℕ) → NamesOther b t → ¬ NamesStart b t
not_named b t (u, (kind, named), other) (k, names) = other (sym named.start ∙ names.start)

module _ (cells : Cells) (cleaner : Cleaner) (st : State) (i : ℕ) (reached : IsReachedByServers st) (store : ShowsCells cells st) (mine : ShowsCleaner cleaner i st) where
  abbrev t : ℕ
  t = cleaner.lock.start

  abbrev x : Cell
  x = cleaner.cell

  abbrev first : Cell
  first = cleaner.lock.first

  able : IsAcceptable st (machine.CleanStep i)
  able = clean_step_ok (cleaner_of cleaner) mine.kept

  kept : (f : Fate) → cleaner.fate ≡ f → finmap.get st.cleaners i ≡ Some (record { cell = x; start = t; decided = is_decided f })
  kept f is = subst (λ (f : Fate). finmap.get st.cleaners i ≡ Some (record { cell = x; start = t; decided = is_decided f })) is mine.kept

  marked : IsThere cells x column.Lock t → Marked st x t
  marked stands = store.locks x t stands.0 stands.1

  unmarked : at cells x column.Lock t ≡ None → ¬ Marked st x t
  unmarked gone m = none-some _ (sym gone ∙ (store.marks x t m).lock)

  right : (f : Fate) → cleaner.fate ≡ f → IsThere cells x column.Lock t → IsRight st t (verdict_of f)
  right f is stands = subst (λ (f : Fate). IsRight st t (verdict_of f)) is (mine.knows.right (marked stands))

  tells : TellsFirst cells st t first
  tells = first_tells cells st reached store t first mine.knows.is_first

  no_commit : ¬ IsCommitted st t → (a : Commit) → a ∈ st.commits → a.start ≢ t
  no_commit none a is_in e = none (a.stamp, (a.writes, subst (λ (n : ℕ). record { start = n; stamp = a.stamp; writes = a.writes } ∈ st.commits) e is_in))

  start_low : t < 2 ^ 64
  start_low = let to = (servers_bounds reached).start_to t mine.knows.is_first.0 mine.knows.is_first.2 in omega arith

  -- ---- the first step

  abbrev with_fate : Fate → Cleaner
  with_fate f = record { cell = cleaner.cell; lock = cleaner.lock; fate = f }

  abbrev killed : State
  killed = record st { dead = t ∷ st.dead; marks = (without st.marks (first, t)).0; cleaners = finmap.insert st.cleaners i (record { cell = x; start = t; decided = true }) }

  -- the first cell has the lock: the start is rolled back
  kills_at : cleaner.fate ≡ Open → IsThere cells first column.Lock t → Takes st i (erased_cells cells first t) (with_fate Back) clean.Decided
  kills_at is there = (killed, s, shows_erased cells st killed (goes reached s) store first t less refl (no_commit open_yet.0), record { cleaners = refl; next_cleaner = refl; knows = λ e. record { is_first = mine.knows.is_first; right = λ m. here } })
    where
      open_yet : (¬ IsCommitted st t) × (¬ IsDead st t)
      open_yet = tells.locked there

      less : IsWithout st.marks (first, t) (without st.marks (first, t)).0
      less = (without st.marks (first, t)).1

      s : Step st (machine.CleanStep i) machine.Decided killed
      s = accepts able (machine.kills (kept Open is) open_yet.0 open_yet.1 mine.knows.is_first.2 mine.knows.is_first.3 less)

  abbrev learned : State
  learned = record st { cleaners = finmap.insert st.cleaners i (record { cell = x; start = t; decided = true }) }

  learns_at : cleaner.fate ≡ Open → IsCommitted st t ⊎ IsDead st t → Step st (machine.CleanStep i) machine.Decided learned × ShowsCells cells learned
  learns_at is fate =
      let s = accepts able (machine.learns (kept Open is) fate) in
      (s, shows_beside cells st learned (goes reached s) store (λ y u m. m) (λ y u m. m) refl)

  -- a record whose text names t is t's record
  named_at : (c : ℕ) (b : List ℕ) → at cells first column.Write c ≡ Some b → NamesStart b t → NamesAt cells first c t
  named_at c b there (kind, names) = (b, kind_of_change k.change, there, subst (λ (u : ℕ). IsRecordText u (kind_of_change k.change) b) same k.is_text)
    where
      k : NamesCommit cells st first c b
      k = store.records first c b there

      low : k.commit.start < 2 ^ 64
      low =
          let start = (servers_sound reached).start_low k.commit.start k.commit.writes ((servers_sound reached).fair k.commit k.is_in).wrote in
          let top = (servers_bounds reached).top in
          omega arith

      same : k.commit.start ≡ t
      same = (one_write b k.commit.start t (kind_of_change k.change) kind (names_of k.commit.start (kind_of_change k.change) b low k.is_text) names).0

  -- if the first record above t doesn't name it, none does
  none_names : (next : Option (ℕ × List ℕ)) → IsNextRecord cells first t next → ((c : ℕ) (b : List ℕ) → next ≡ Some (c, b) → ¬ NamesStart b t)
      → (c : ℕ) → t < c → ¬ NamesAt cells first c t
  none_names None none other c above (text, kind, named, is) =
      let k = store.records first c text named in
      let same = k.stamp in
      let to = (servers_bounds reached).commit_to k.commit k.is_in in
      none-some _ (sym (none c (omega arith) (omega arith)) ∙ named)
  none_names (Some (d, b)) (low, high, there, before) other c above (text, kind, named, is) = elim (cases_lt c d) [
    | inl less ↦ none-some _ (sym (before c (omega arith) less) ∙ named)
    | inr most ↦ other d b refl (kind, names_of t kind b start_low (subst (IsRecordText t kind) (same_text most) is))
  ]
    where
      same : d ≤ c → c ≡ d
      same most = let least = names_nearest cells st reached store first t c d start_low (text, kind, named, is) (omega arith) (b, there) in omega arith

      same_text : d ≤ c → text ≡ b
      same_text most = same_Some text b (sym (subst (λ (n : ℕ). at cells first column.Write n ≡ Some text) (same most) named) ∙ there)

  told_at : (f : Fate) → cleaner.fate ≡ Open → at cells first column.Lock t ≡ None → IsToldBy cells first t f → Takes st i cells (with_fate f) clean.Decided
  told_at Open is gone told = absurd told
  told_at (Forward c) is gone told =
      let committed = tells.forward c (named_at c told.0 told.1 told.2) in
      let s = learns_at is (inl (c, committed)) in
      (learned, s.0, s.1, record { cleaners = refl; next_cleaner = refl; knows = λ e. record { is_first = mine.knows.is_first; right = λ m. committed } })
  told_at Back is gone told =
      let s = learns_at is (tells.unlocked gone i (cleaner_of cleaner) mine.kept refl) in
      (learned, s.0, s.1, record { cleaners = refl; next_cleaner = refl; knows = λ e. record { is_first = mine.knows.is_first; right = λ m. tells.back gone (none_names told.0 told.1 (λ c b is. not_named b t (told.2 c b is))) x m } })

  -- ---- the second step

  abbrev closed : State
  closed = record st { cleaners = finmap.remove st.cleaners i }

  abbrev cleared : State
  cleared = record st { marks = (without st.marks (x, t)).0; cleaners = finmap.remove st.cleaners i }

  less : IsWithout st.marks (x, t) (without st.marks (x, t)).0
  less = (without st.marks (x, t)).1

  -- the lock is gone already
  gone_at : (f : Fate) → cleaner.fate ≡ f → is_decided f ≡ true → at cells x column.Lock t ≡ None → Takes st i cells cleaner clean.Gone
  gone_at f is decided gone = (closed, s, shows_beside cells st closed (goes reached s) store (λ y u m. m) (λ y u m. m) refl, record { cleaners = refl; next_cleaner = refl; knows = λ e. absurd (not_open e) })
    where
      s : Step st (machine.CleanStep i) machine.Gone closed
      s = accepts able (machine.finds_gone (kept f is ∙ ap (λ (b : Bool). Some (record { cell = x; start = t; decided = b })) decided) (unmarked gone))

  -- it is erased
  back_at : cleaner.fate ≡ Back → IsThere cells x column.Lock t → Takes st i (erased_cells cells x t) cleaner clean.RolledBack
  back_at is there = (cleared, s, shows_erased cells st cleared (goes reached s) store x t less refl (no_commit uncommitted), record { cleaners = refl; next_cleaner = refl; knows = λ e. absurd (not_open e) })
    where
      uncommitted : ¬ IsCommitted st t
      uncommitted (c, (ws, is_in)) = (servers_sound reached).not_dead (record { start = t; stamp = c; writes = ws }) is_in (right Back is there)

      s : Step st (machine.CleanStep i) machine.RolledBack cleared
      s = accepts able (machine.rolls_back (kept Back is) (marked there) uncommitted less)

  -- the record of the commit replaces it, with the kind that the lock names
  forward_at : (c : ℕ) (kind : WriteKind) → cleaner.fate ≡ Forward c → IsThere cells x column.Lock t → TellsKind cells x t kind → Takes st i (recorded_cells cells x t c kind) cleaner (clean.RolledForward c)
  forward_at c kind is there told = (
    cleared,
    s,
    subst (λ (k : WriteKind). ShowsCells (recorded_cells cells x t c k) cleared) (sym (told_kind cells st x t kind mark told))
        (shows_recorded cells st cleared (goes reached s) store x t made_of mark.change (marked there) less is_in refl fair.later gives mark.value (λ b i. i) (λ b i. inl i) one_start (λ y names left. is_in)),
    record { cleaners = refl; next_cleaner = refl; knows = λ e. absurd (not_open e) },
  )
    where
      mark : ShowsMark cells st x t
      mark = store.marks x t (marked there)

      committed : CommittedAt st t c
      committed = right (Forward c) is there

      made_of : Commit
      made_of = record { start = t; stamp = c; writes = committed.0 }

      is_in : made_of ∈ st.commits
      is_in = committed.1

      fair : IsFair st made_of
      fair = (servers_sound reached).fair made_of is_in

      gives : Gives committed.0 x mark.change
      gives = subst (λ (ws : machine.Writes). Gives ws x mark.change) (same_entry st.begun t mark.is_change.0 committed.0 mark.is_change.1 fair.wrote) mark.is_change.2

      s : Step st (machine.CleanStep i) (machine.RolledForward c) cleared
      s = accepts able (machine.rolls_forward (kept (Forward c) is) (marked there) committed less)

      one_start : (b : Commit) → b ∈ st.commits → b.start ≡ t → b ≡ made_of
      one_start b j e = same_commit st.commits (servers_sound reached).starts_differ b made_of j is_in e

-- ---- the effect on the rows

module _ {R : Type 0} (seen : View R) (old new : R) (cleaner : Cleaner) (held : seen.holds old) where
  pub decides_so : (f : Fate) → cleaner.fate ≡ Open → Decides seen cleaner.lock f old new → Advances (seen.cells old) cleaner clean.Decided (seen.cells new) (record { cell = cleaner.cell; lock = cleaner.lock; fate = f })
  decides_so f is (inl (made, back)) st i reached store mine =
      let after = made.applied.made (seen.each_readable old held made.row) ∙ (make_cells (seen.cells old) cleaner.lock.first cleaner.lock.start made.edits).erased made.such.2 in
      subst (λ (p : Cells × Fate). Takes st i p.0 (record { cell = cleaner.cell; lock = cleaner.lock; fate = p.1 }) clean.Decided) (λ j. (sym after j, sym back j))
      (kills_at (seen.cells old) cleaner st i reached store mine is (made.such.1 held))
  decides_so f is (inr (reads, told)) st i reached store mine =
      let now = told held in
      subst (λ (cs : Cells). Takes st i cs (record { cell = cleaner.cell; lock = cleaner.lock; fate = f }) clean.Decided) (sym reads.kept) (told_at (seen.cells old) cleaner st i reached store mine f is now.0 now.1)

  pub gone_so : (f : Fate) → cleaner.fate ≡ f → is_decided f ≡ true → at (seen.cells old) cleaner.cell column.Lock cleaner.lock.start ≡ None → OnlyReads seen old new → Advances (seen.cells old) cleaner clean.Gone (seen.cells new) cleaner
  gone_so f is decided gone reads st i reached store mine =
      subst (λ (cs : Cells). Takes st i cs cleaner clean.Gone) (sym reads.kept) (gone_at (seen.cells old) cleaner st i reached store mine f is decided gone)

  pub back_so : cleaner.fate ≡ Back → AppliesSuch seen (ClearsCell (seen.holds old) (seen.cells old) cleaner.cell cleaner.lock.start None) old new → Advances (seen.cells old) cleaner clean.RolledBack (seen.cells new) cleaner
  back_so is made st i reached store mine =
      let after = made.applied.made (seen.each_readable old held made.row) ∙ (make_cells (seen.cells old) cleaner.cell cleaner.lock.start made.edits).erased made.such.2 in
      subst (λ (cs : Cells). Takes st i cs cleaner clean.RolledBack) (sym after) (back_at (seen.cells old) cleaner st i reached store mine is (made.such.1 held))

  pub forward_so : (c : ℕ) → cleaner.fate ≡ Forward c → AppliesSuch seen (ClearsCell (seen.holds old) (seen.cells old) cleaner.cell cleaner.lock.start (Some c)) old new → Advances (seen.cells old) cleaner (clean.RolledForward c) (seen.cells new) cleaner
  forward_so c is made st i reached store mine =
      let kind = made.such.0 in
      let after = made.applied.made (seen.each_readable old held made.row) ∙ (make_cells (seen.cells old) cleaner.cell cleaner.lock.start made.edits).recorded c kind made.such.2.2 in
      subst (λ (cs : Cells). Takes st i cs cleaner (clean.RolledForward c)) (sym after) (forward_at (seen.cells old) cleaner st i reached store mine c kind is (made.such.2.1 held) (made.such.1 held))
