-- The cleaners in their map, before and after a step of the machine.
use Rattle.std.proofs.Common.{◌≡◌, ◌≢◌, ℕ, ◌+◌, ◌-◌, ◌<◌, ◌≤◌, ◌^◌, inl, inr, Bool, true, false, cond, [], length, Option, Some, None, refl, sym, ap, subst, ◌∙◌, arith}
use Rattle.std.specs.Prelude.{is_some, if◌then◌else◌}
use Rattle.std.specs.Ordering.{nat_cmp, is_eq}
use Rattle.std.specs.Cmp.{nat_cmp_total}
use Rattle.std.specs.Map.{lookup}
use Rattle.std.specs.BTreeMap as btree
use Rattle.std.specs.FinMap as finmap
use Rattle.std.proofs.lemmas.Bool.{cases_eq}
use Rattle.std.proofs.lemmas.Option.{none-some, same_Some}
use Rattle.cell_key.specs.Cells.{Cells}
use Rattle.cell_key.specs.Names.{IsRow, IsFamily}
use Rattle.cell_key.specs.declared.keys.Qualifier.TheVariants as column
use Rattle.cell_key.specs.declared.refusals.Refusal.{Refusal}
use Rattle.cell_key.specs.declared.refusals.Refusal.TheVariants.{BadRow, BadColumn, TooManySessions, UnknownCleaner, MemtableFull, Device, NoMemory, Damaged}
use Rattle.cell_key.specs.Texts.{place_text}
use Rattle.cell_key.specs.Columns.{IsLockText}
use Rattle.cell_key.proofs.LockTexts.{one_first}
use Rattle.cell_key.proofs.Order.{one_place_a_text}
use Rattle.rows.specs.Calls.{View}
use Rattle.rows.specs.Refusals.{IsReadRefusal}
use Rattle.si_model.specs.Deciding.{CleanersKnow}
use Rattle.si_model.specs.Laws.{IsWritable}
use Rattle.si_model.specs.Machine as machine
use Rattle.si_model.specs.Machine.{State, Request, Step, accepts, refuses, tells, IsStorageRefusal, Marked, Refused}
use Rattle.si_model.specs.Reads.{IsNameRefusal, IsClear}
use Rattle.si_model.specs.Refusing.Refuses.{gives_up}
use Rattle.si_model.specs.Replies.{clean_reply}
use Rattle.si_model.specs.Servers.{IsReachedByServers}
use Rattle.si_model.specs.ShowsCells.{ShowsCells, ShowsMark, IsFirstCell, kind_of_change}
use Rattle.si_model.specs.declared.replies.Cell.{Cell}
use Rattle.si_model.specs.declared.replies.CleanReply.{CleanReply}
use Rattle.si_model.specs.declared.replies.CleanStart.TheVariants as begin
use Rattle.si_model.proofs.Acceptable.{clean_begin_ok}
use Rattle.si_model.proofs.Bounds.{servers_bounds}
use Rattle.si_model.proofs.CleanerFates.{cleaners_know}
use Rattle.si_model.proofs.FirstRefusals.{clean_row_first, clean_family_first, clean_full_first, clean_unknown_first}
use Rattle.si_model.proofs.Goes.{goes}
use Rattle.si_model.proofs.ChangedParts.{leaves_others}
use Rattle.si_model.proofs.Limits.{writes_within_limits}
use Rattle.si_model.proofs.Numbers.{servers_numbers}
use Rattle.si_model.proofs.ShownKept.{shows_beside}
use Rattle.si_model.proofs.Tools.{eq_test, ne_test, get_same, get_other, get_removed, get_remains}
use Rattle.clean_up.specs.Fates.{verdict_of}
use Rattle.clean_up.specs.Locks.{IsStanding, LacksPlace, Stands}
use Rattle.clean_up.specs.Refusals.{IsAdvanceRefusal}
use Rattle.clean_up.specs.Shows.{Advances, AreShownOn, AreShownSame, ChangesOne, Follows, KnowsItsLock, OpensOne, SameCleaners, ShowsAt, ShowsCleaner, ShowsCleaners, Steps, cleaner_of, is_last}
use Rattle.clean_up.specs.Told.{BeginsWith, IsTold, TellsAt}
use Rattle.clean_up.specs.declared.cleaner.Cleaner.{Cleaner}
use Rattle.clean_up.specs.declared.cleaners.Cleaners.{Cleaners}
use Rattle.clean_up.specs.declared.fates.Fate.TheVariants.{Open}
use Rattle.clean_up.specs.declared.locks.Lock.{Lock}

-- the entries of a map after one key has changed
upd_at : (old new : ℕ → Option Cleaner) (k : ℕ) (w : Option Cleaner) → ((q : ℕ) → new q ≡ cond (is_eq (nat_cmp k q)) w (old q)) → new k ≡ w
upd_at old new k w h = h k ∙ ap (λ (b : Bool). cond b w (old k)) (eq_test k k refl)

upd_off : (old new : ℕ → Option Cleaner) (k : ℕ) (w : Option Cleaner) → ((q : ℕ) → new q ≡ cond (is_eq (nat_cmp k q)) w (old q)) → (q : ℕ) → q ≢ k → new q ≡ old q
upd_off old new k w h q ne = h q ∙ ap (λ (b : Bool). cond b w (old q)) (ne_test k q (λ e. ne (sym e)))

pub twice : {X : Type 0} (b : Bool) (a c x : X) → cond b a (cond b c x) ≡ cond b a x
twice true a c x = refl
twice false a c x = refl

-- nothing changes if a key gets the value that it has
pub same_each : (old new : ℕ → Option Cleaner) (k : ℕ) (cleaner w : Cleaner) → old k ≡ Some cleaner → w ≡ cleaner → ((q : ℕ) → new q ≡ cond (is_eq (nat_cmp k q)) (Some w) (old q)) → (q : ℕ) → new q ≡ old q
same_each old new k cleaner w was same h q = elim (cases_eq q k) [
  | inl e ↦ subst (λ (n : ℕ). new n ≡ old n) (sym e) (upd_at old new k (Some w) h ∙ ap (λ (s : Cleaner). Some s) same ∙ sym was)
  | inr ne ↦ upd_off old new k (Some w) h q ne
]

-- equal entries hold the same at each key
pub entries_each : (old new : Cleaners) → new.cleaners.entries ≡ old.cleaners.entries → (i : ℕ) → btree.get nat_cmp new.cleaners i ≡ btree.get nat_cmp old.cleaners i
entries_each old new same i = ap (λ es. lookup (btree.is_at (nat_cmp i)) es) same

-- equal entries are equal cleaners
pub same_entries : (old new : Cleaners) → new.next ≡ old.next → new.cleaners.entries ≡ old.cleaners.entries → SameCleaners old new
same_entries old new next same = record { next = next; each = entries_each old new same; count = ap (λ es. length es) same }

pub same_itself : (cleaners : Cleaners) → SameCleaners cleaners cleaners
same_itself cleaners = record { next = refl; each = λ i. refl; count = refl }

-- equal cleaners show the same states
pub shows_same : AreShownSame
shows_same old new st same shown = record {
  next = same.next ∙ shown.next;
  each = λ i. subst (λ (o : Option Cleaner). ShowsAt o i st) (sym (same.each i)) (shown.each i);
  count = shown.count ∙ sym same.count;
}

-- if the machine keeps the cleaner at i, the entry at i is still shown
shows_other : (st next : State) → CleanersKnow st next → (o : Option Cleaner) (i : ℕ) → finmap.get next.cleaners i ≡ finmap.get st.cleaners i → ShowsAt o i st → ShowsAt o i next
shows_other st next know None i same h = same ∙ h
shows_other st next know (Some cleaner) i same h = record { kept = same ∙ h.kept; knows = know i (cleaner_of cleaner) cleaner.lock.first (verdict_of cleaner.fate) h.kept h.knows }

-- steps of others leave the state that cleaners show unchanged
pub shows_on : AreShownOn
shows_on cleaners st next q r reached step kind shown =
    let same = (leaves_others st next q r step).cleaners kind in
    record {
      next = shown.next ∙ sym same.next_cleaner;
      each = λ i. shows_other st next (cleaners_know st next q r reached step) (btree.get nat_cmp cleaners.cleaners i) i (ap (λ m. finmap.get m i) same.cleaners) (shown.each i);
      count = ap (λ m. finmap.len m) same.cleaners ∙ shown.count;
    }

-- one cleaner changes, and the others are unchanged
shows_changed : (st next : State) → CleanersKnow st next → (old new : ℕ → Option Cleaner) (k : ℕ) (w : Option Cleaner) → ((q : ℕ) → new q ≡ cond (is_eq (nat_cmp k q)) w (old q))
    → ((i : ℕ) → i ≢ k → finmap.get next.cleaners i ≡ finmap.get st.cleaners i)
    → ((i : ℕ) → ShowsAt (old i) i st) → ShowsAt w k next → (i : ℕ) → ShowsAt (new i) i next
shows_changed st next know old new k w h a shown now i = elim (cases_eq i k) [
  | inl e ↦ subst (λ (i : ℕ). ShowsAt (new i) i next) (sym e) (subst (λ (o : Option Cleaner). ShowsAt o k next) (sym (upd_at old new k w h)) now)
  | inr ne ↦ subst (λ (o : Option Cleaner). ShowsAt o i next) (sym (upd_off old new k w h i ne)) (shows_other st next know (old i) i (a i ne) (shown i))
]

-- the state of a stored cleaner, and of a cleaner that isn't stored
pub shown_none : (cleaners : Cleaners) (i : ℕ) (st : State) → ShowsCleaners cleaners st → btree.get nat_cmp cleaners.cleaners i ≡ None → finmap.get st.cleaners i ≡ None
shown_none cleaners i st shown none = subst (λ (o : Option Cleaner). ShowsAt o i st) none (shown.each i)

pub shown_some : (cleaners : Cleaners) (i : ℕ) (st : State) (cleaner : Cleaner) → ShowsCleaners cleaners st → btree.get nat_cmp cleaners.cleaners i ≡ Some cleaner → ShowsCleaner cleaner i st
shown_some cleaners i st cleaner shown was = subst (λ (o : Option Cleaner). ShowsAt o i st) was (shown.each i)

-- ---- a step of one cleaner

kept_cleaners : (last : Bool) (m : finmap.FinMap nat_cmp machine.Cleaner) (k : ℕ) (p : machine.Cleaner) (i : ℕ) → i ≢ k → finmap.get (cond last (finmap.remove m k) (finmap.insert m k p)) i ≡ finmap.get m i
kept_cleaners true m k p i ne = get_remains m k i ne
kept_cleaners false m k p i ne = get_other m k p i ne

-- the cleaner at k after its step, by whether it closed
own : (last : Bool) (st next : State) (cleaner : Cleaner) (k : ℕ) → next.cleaners ≡ cond last (finmap.remove st.cleaners k) (finmap.insert st.cleaners k (cleaner_of cleaner))
    → (last ≡ false → KnowsItsLock next cleaner) → ShowsAt (cond last None (Some cleaner)) k next
own true st next cleaner k kept knows = ap (λ m. finmap.get m k) kept ∙ get_removed st.cleaners k
own false st next cleaner k kept knows = record { kept = ap (λ m. finmap.get m k) kept ∙ get_same st.cleaners k (cleaner_of cleaner); knows = knows refl }

counted : (last : Bool) (m : finmap.FinMap nat_cmp machine.Cleaner) (k n n' : ℕ) (p q : machine.Cleaner) → finmap.get m k ≡ Some q → finmap.len m ≡ n → n' + (if last then 1 else 0) ≡ n
    → finmap.len (cond last (finmap.remove m k) (finmap.insert m k p)) ≡ n'
counted true m k n n' p q there e f = finmap.len-remove nat_cmp_total m k ∙ (ap (λ o. cond (is_some o) (finmap.len m - 1) (finmap.len m)) there ∙ omega arith)
counted false m k n n' p q there e f = finmap.len-insert nat_cmp_total m k p ∙ (ap (λ o. cond (is_some o) (finmap.len m) (finmap.len m + 1)) there ∙ omega arith)

module _ (cells cells' : Cells) (old new : Cleaners) (i : ℕ) (cleaner cleaner' : Cleaner) (reply : CleanReply) (takes : Advances cells cleaner reply cells' cleaner') where
  pub takes_at : (last : Bool) → is_last reply ≡ last → new.next ≡ old.next → btree.btree_map_len new.cleaners + (if last then 1 else 0) ≡ btree.btree_map_len old.cleaners
      → btree.get nat_cmp old.cleaners i ≡ Some cleaner
      → ((q : ℕ) → btree.get nat_cmp new.cleaners q ≡ cond (is_eq (nat_cmp i q)) (cond last None (Some cleaner')) (btree.get nat_cmp old.cleaners q))
      → Steps cells old (machine.CleanStep i) (clean_reply reply) cells' new
  takes_at last is next len was at st reached store shown = (r.0, r.1, r.2, cleaners)
    where
      mine : ShowsCleaner cleaner i st
      mine = shown_some old i st cleaner shown was

      r : (next : State) × Step st (machine.CleanStep i) (clean_reply reply) next × ShowsCells cells' next × Follows st next i cleaner' reply
      r = takes st i reached store mine

      kept : r.0.cleaners ≡ cond last (finmap.remove st.cleaners i) (finmap.insert st.cleaners i (cleaner_of cleaner'))
      kept = r.3.cleaners ∙ ap (λ (b : Bool). cond b (finmap.remove st.cleaners i) (finmap.insert st.cleaners i (cleaner_of cleaner'))) is

      cleaners : ShowsCleaners new r.0
      cleaners = record {
        next = next ∙ (shown.next ∙ sym r.3.next_cleaner);
        each = shows_changed st r.0 (cleaners_know st r.0 (machine.CleanStep i) (clean_reply reply) reached r.1) (btree.get nat_cmp old.cleaners) (btree.get nat_cmp new.cleaners) i (cond last None (Some cleaner')) at
            (λ k ne. ap (λ m. finmap.get m k) kept ∙ kept_cleaners last st.cleaners i (cleaner_of cleaner') k ne) shown.each
            (own last st r.0 cleaner' i kept (λ stays. r.3.knows (is ∙ stays)));
        count = ap (λ m. finmap.len m) kept ∙ counted last st.cleaners i (btree.btree_map_len old.cleaners) (btree.btree_map_len new.cleaners) (cleaner_of cleaner') (cleaner_of cleaner) mine.kept shown.count len;
      }

pub with_none : (m n : ℕ) → m ≡ n → m + 0 ≡ n
with_none m n e = omega arith

-- ---- refusals

pub refused_storage : {st : State} {q : Request} {n : Refusal} → IsStorageRefusal n → Step st q (Refused n) st
refused_storage s = refuses (gives_up s)

pub read_storage : (e : Refusal) → IsReadRefusal e → IsStorageRefusal e
read_storage Device u = tt
read_storage NoMemory u = tt
read_storage Damaged u = tt
read_storage _ u = absurd u

pub advance_storage : (e : Refusal) → IsAdvanceRefusal e → IsStorageRefusal e
advance_storage MemtableFull u = tt
advance_storage Device u = tt
advance_storage NoMemory u = tt
advance_storage Damaged u = tt
advance_storage _ u = absurd u

-- a refused call changes nothing
pub stays : (cells : Cells) (old new : Cleaners) (q : Request) (e : Refusal) → SameCleaners old new
    → ((st : State) → IsReachedByServers st → ShowsCells cells st → ShowsCleaners old st → Step st q (Refused e) st) → Steps cells old q (Refused e) cells new
stays cells old new q e same s st reached store shown = (st, s st reached store shown, store, shows_same old new st same shown)

pub refused_at : (cells : Cells) (old new : Cleaners) (q : Request) (e : Refusal) → SameCleaners old new → IsStorageRefusal e → Steps cells old q (Refused e) cells new
refused_at cells old new q e same u = stays cells old new q e same (λ st reached store shown. refused_storage u)

pub unknown_at : (cells : Cells) (old new : Cleaners) (i : ℕ) → SameCleaners old new → btree.get nat_cmp old.cleaners i ≡ None → Steps cells old (machine.CleanStep i) (Refused UnknownCleaner) cells new
unknown_at cells old new i same none = stays cells old new (machine.CleanStep i) UnknownCleaner same (λ st reached store shown. refuses (clean_unknown_first (shown_none old i st shown none)))

-- ---- a new cleaner

name_refused : (st : State) (x : Cell) (e : Refusal) → IsNameRefusal x e → Step st (machine.CleanBegin x) (Refused e) st
name_refused st x BadRow u = refuses (clean_row_first u)
name_refused st x BadColumn u = refuses (clean_family_first u.0 u.1)
name_refused st x NoMemory u = refused_storage tt
name_refused st x _ u = absurd u

pub name_refused_at : (cells : Cells) (old new : Cleaners) (x : Cell) (e : Refusal) → SameCleaners old new → IsNameRefusal x e → Steps cells old (machine.CleanBegin x) (Refused e) cells new
name_refused_at cells old new x e same u = stays cells old new (machine.CleanBegin x) e same (λ st reached store shown. name_refused st x e u)

-- if there is no lock, there is no mark
pub unmarked : (cells : Cells) (st : State) → IsReachedByServers st → ShowsCells cells st → (x : Cell) → IsClear cells x column.Lock 0 (2 ^ 64 - 1) → (t : ℕ) → ¬ Marked st x t
unmarked cells st reached store x clear t m =
    let shows = store.marks x t m in
    let to = (servers_bounds reached).start_to t shows.is_first.0 shows.is_first.2 in
    none-some _ (sym (clear t (omega arith) (omega arith)) ∙ shows.lock)

pub no_lock_at : (cells : Cells) (cleaners : Cleaners) (x : Cell) → IsRow x.row → IsFamily x.family → IsClear cells x column.Lock 0 (2 ^ 64 - 1)
    → Steps cells cleaners (machine.CleanBegin x) machine.NoLock cells cleaners
no_lock_at cells cleaners x row family clear st reached store shown =
    let none = unmarked cells st reached store x clear in
    (st, accepts (clean_begin_ok row family (inl none)) (tells (machine.finds_none none)), store, shown)

stands_marked : (cells : Cells) (st : State) → ShowsCells cells st → (x : Cell) (lock : Lock) → Stands cells x lock → Marked st x lock.start
stands_marked cells st store x lock stands = store.locks x lock.start stands.text stands.there

pub full_at : (cells : Cells) (cleaners : Cleaners) (x : Cell) (lock : Lock) → IsRow x.row → IsFamily x.family → Stands cells x lock → 1024 ≤ btree.btree_map_len cleaners.cleaners
    → Steps cells cleaners (machine.CleanBegin x) (Refused TooManySessions) cells cleaners
full_at cells cleaners x lock row family stands full = stays cells cleaners cleaners (machine.CleanBegin x) TooManySessions (same_itself cleaners)
    (λ st reached store shown. refuses (clean_full_first row family lock.start (stands_marked cells st store x lock stands) (let n = shown.count in omega arith)))

-- the first cell that a lock names is its start's
stands_first : (cells : Cells) (st : State) → IsReachedByServers st → ShowsCells cells st → (x : Cell) (lock : Lock) → Stands cells x lock → IsFirstCell st lock.start lock.first
stands_first cells st reached store x lock stands = subst (λ (y : Cell). IsFirstCell st lock.start y) same m.is_first
  where
    m : ShowsMark cells st x lock.start
    m = store.marks x lock.start (stands_marked cells st store x lock stands)

    family : IsFamily m.first.family
    family = (writes_within_limits st reached lock.start m.is_first.0 m.is_first.2 m.first m.is_first.1 (0, m.is_first.3)).family

    text : place_text m.first.row m.first.family ≡ place_text lock.first.row lock.first.family
    text = one_first m.first.row m.first.family lock.first.row lock.first.family (kind_of_change m.change) stands.kind stands.text (subst (IsLockText m.first.row m.first.family (kind_of_change m.change)) (same_Some m.text stands.text (sym m.lock ∙ stands.there)) m.is_text) stands.is_text

    same : m.first ≡ lock.first
    same = let e = one_place_a_text m.first.row m.first.family lock.first.row lock.first.family family stands.family text in λ i. record { row = e.0 i; family = e.1 i }

abbrev opened_at : State → Cell → ℕ → State
opened_at st x t = record st { cleaners = finmap.insert st.cleaners st.next_cleaner (record { cell = x; start = t; decided = false }); next_cleaner = st.next_cleaner + 1 }

-- no cleaner has the next number
fresh : (st : State) → IsReachedByServers st → finmap.get st.cleaners st.next_cleaner ≡ None
fresh st reached = by (finmap.get st.cleaners st.next_cleaner) refl
  where
    by : (o : Option machine.Cleaner) → finmap.get st.cleaners st.next_cleaner ≡ o → finmap.get st.cleaners st.next_cleaner ≡ None
    by None e = e
    by (Some k) e = let below = (servers_numbers reached).cleaners.below st.next_cleaner k e in absurd (omega arith)

unused : (cleaners : Cleaners) (st : State) → IsReachedByServers st → ShowsCleaners cleaners st → btree.get nat_cmp cleaners.cleaners st.next_cleaner ≡ None
unused cleaners st reached shown = by (btree.get nat_cmp cleaners.cleaners st.next_cleaner) refl
  where
    by : (o : Option Cleaner) → btree.get nat_cmp cleaners.cleaners st.next_cleaner ≡ o → btree.get nat_cmp cleaners.cleaners st.next_cleaner ≡ None
    by None e = e
    by (Some cleaner) e = absurd (none-some _ (sym (fresh st reached) ∙ (shown_some cleaners st.next_cleaner st cleaner shown e).kept))

module _ (cells : Cells) (old new : Cleaners) (x : Cell) (lock : Lock) (row : IsRow x.row) (family : IsFamily x.family) (stands : Stands cells x lock)
    (room : btree.btree_map_len old.cleaners < 1024) (low : old.next ≤ 9223372036854775807) (next : new.next ≡ old.next + 1)
    (at : (q : ℕ) → btree.get nat_cmp new.cleaners q ≡ cond (is_eq (nat_cmp old.next q)) (Some (record { cell = x; lock = lock; fate = Open })) (btree.get nat_cmp old.cleaners q))
    (len : btree.btree_map_len new.cleaners ≡ btree.btree_map_len old.cleaners + (if is_some (btree.get nat_cmp old.cleaners old.next) then 0 else 1)) where
  abbrev opened : Cleaner
  opened = record { cell = x; lock = lock; fate = Open }

  pub opens_at : Steps cells old (machine.CleanBegin x) (machine.Cleaning old.next lock.start) cells new
  opens_at st reached store shown = (after, subst (λ (n : ℕ). Step st (machine.CleanBegin x) (machine.Cleaning n lock.start) after) (sym shown.next) s, store', cleaners)
    where
      after : State
      after = opened_at st x lock.start

      marked : Marked st x lock.start
      marked = stands_marked cells st store x lock stands

      s : Step st (machine.CleanBegin x) (machine.Cleaning st.next_cleaner lock.start) after
      s = accepts (clean_begin_ok row family (inr (let n = shown.count in omega arith))) (machine.opens marked (let n = shown.next in omega arith))

      store' : ShowsCells cells after
      store' = shows_beside cells st after (goes reached s) store (λ y u m. m) (λ y u m. m) refl

      changed : (q : ℕ) → btree.get nat_cmp new.cleaners q ≡ cond (is_eq (nat_cmp st.next_cleaner q)) (Some opened) (btree.get nat_cmp old.cleaners q)
      changed q = at q ∙ ap (λ (n : ℕ). cond (is_eq (nat_cmp n q)) (Some opened) (btree.get nat_cmp old.cleaners q)) shown.next

      cleaners : ShowsCleaners new after
      cleaners = record {
        next = next ∙ ap (λ (n : ℕ). n + 1) shown.next;
        each = shows_changed st after (cleaners_know st after (machine.CleanBegin x) (machine.Cleaning st.next_cleaner lock.start) reached s) (btree.get nat_cmp old.cleaners) (btree.get nat_cmp new.cleaners) st.next_cleaner (Some opened) changed
            (λ k ne. get_other st.cleaners st.next_cleaner (cleaner_of opened) k ne) shown.each
            (record {
              kept = get_same st.cleaners st.next_cleaner (cleaner_of opened);
              knows = record { is_first = stands_first cells st reached store x lock stands; right = λ m. tt };
            });
        count = finmap.len-insert nat_cmp_total st.cleaners st.next_cleaner (cleaner_of opened) ∙ (ap (λ o. cond (is_some o) (finmap.len st.cleaners) (finmap.len st.cleaners + 1)) (fresh st reached)
            ∙ (ap (λ (n : ℕ). n + 1) shown.count ∙ sym (len ∙ ap (λ (o : Option Cleaner). btree.btree_map_len old.cleaners + (if is_some o then 0 else 1)) (ap (btree.get nat_cmp old.cleaners) shown.next ∙ unused old st reached shown))));
      }

-- without cleaners
pub shows_new : (cleaners : Cleaners) (st : State) → cleaners.next ≡ st.next_cleaner → st.cleaners ≡ finmap.empty → cleaners.cleaners.entries ≡ [] → ShowsCleaners cleaners st
shows_new cleaners st next none empty = record {
  next = next;
  each = λ i. subst (λ es. ShowsAt (lookup (btree.is_at (nat_cmp i)) es) i st) (sym empty) (ap (λ m. finmap.get m i) none ∙ finmap.get-empty nat_cmp i);
  count = ap (λ m. finmap.len m) none ∙ (finmap.len-empty nat_cmp machine.Cleaner ∙ ap (λ es. length es) (sym empty));
}

-- an unchanged cleaner, in unchanged cleaners
pub same_lent : (old new : Cleaners) (i : ℕ) (cleaner w : Cleaner) → btree.get nat_cmp old.cleaners i ≡ Some cleaner → w ≡ cleaner → new.next ≡ old.next
    → ((q : ℕ) → btree.get nat_cmp new.cleaners q ≡ cond (is_eq (nat_cmp i q)) (Some w) (btree.get nat_cmp old.cleaners q)) → btree.btree_map_len new.cleaners ≡ btree.btree_map_len old.cleaners → SameCleaners old new
same_lent old new i cleaner w was same next at len = record { next = next; each = same_each (btree.get nat_cmp old.cleaners) (btree.get nat_cmp new.cleaners) i cleaner w was same at; count = len }

-- ---- the answers of a step and of a beginning

-- an answer for a cleaner is one for the stored cleaner
pub told_at : {R : Type 0} (seen : View R) (old new : Cleaners) (i : ℕ) (k k' : Cleaner) (reply : CleanReply) (before now : R) → btree.get nat_cmp old.cleaners i ≡ Some k → (last : Bool) → is_last reply ≡ last
    → ((q : ℕ) → btree.get nat_cmp new.cleaners q ≡ cond (is_eq (nat_cmp i q)) (cond last None (Some k')) (btree.get nat_cmp old.cleaners q)) → IsTold seen k reply k' before now → TellsAt seen i reply old new before now
told_at seen old new i k k' reply before now was last is at told =
    (k, k', was, upd_at (btree.get nat_cmp old.cleaners) (btree.get nat_cmp new.cleaners) i (cond last None (Some k')) at ∙ ap (λ (b : Bool). cond b None (Some k')) (sym is), told)

pub begins_with : (cells : Cells) (old new : Cleaners) (x y : Cell) (lock : Lock) (t : ℕ) → x ≡ y → t ≡ lock.start → Stands cells x lock
    → ((q : ℕ) → btree.get nat_cmp new.cleaners q ≡ cond (is_eq (nat_cmp old.next q)) (Some (record { cell = x; lock = lock; fate = Open })) (btree.get nat_cmp old.cleaners q)) → BeginsWith cells y new (begin.Cleaner old.next t)
begins_with cells old new x y lock t same start stands at = subst (λ (z : Cell). BeginsWith cells z new (begin.Cleaner old.next t)) same
    (lock, sym start, stands, upd_at (btree.get nat_cmp old.cleaners) (btree.get nat_cmp new.cleaners) old.next (Some (record { cell = x; lock = lock; fate = Open })) at)

-- only one cleaner changes, or none
pub one_at : (old new : Cleaners) (i : ℕ) (o : Option Cleaner) → new.next ≡ old.next
    → ((q : ℕ) → btree.get nat_cmp new.cleaners q ≡ cond (is_eq (nat_cmp i q)) o (btree.get nat_cmp old.cleaners q)) → ChangesOne i old new
one_at old new i o next at = record { next = next; others = upd_off (btree.get nat_cmp old.cleaners) (btree.get nat_cmp new.cleaners) i o at }

pub same_one : (old new : Cleaners) (i : ℕ) → SameCleaners old new → ChangesOne i old new
same_one old new i same = record { next = same.next; others = λ j ne. same.each j }

pub opens_one : (old new : Cleaners) (x y : Cell) (lock : Lock) (t : ℕ) → x ≡ y → t ≡ lock.start → new.next ≡ old.next + 1
    → ((q : ℕ) → btree.get nat_cmp new.cleaners q ≡ cond (is_eq (nat_cmp old.next q)) (Some (record { cell = x; lock = lock; fate = Open })) (btree.get nat_cmp old.cleaners q)) → OpensOne y old.next t old new
opens_one old new x y lock t same start next at = subst (λ (z : Cell). OpensOne z old.next t old new) same (record {
  number = refl;
  next = next;
  lock = lock;
  start = sym start;
  kept = upd_at (btree.get nat_cmp old.cleaners) (btree.get nat_cmp new.cleaners) old.next (Some (record { cell = x; lock = lock; fate = Open })) at;
  others = upd_off (btree.get nat_cmp old.cleaners) (btree.get nat_cmp new.cleaners) old.next (Some (record { cell = x; lock = lock; fate = Open })) at;
})

-- ---- the result of a read of the lock

pub standing_none : (cells : Cells) (x y : Cell) (o : Option Lock) → o ≡ None → x ≡ y → IsStanding cells x o → IsClear cells y column.Lock 0 (2 ^ 64 - 1)
standing_none cells x y o none same found = subst (λ (z : Cell). IsClear cells z column.Lock 0 (2 ^ 64 - 1)) same (subst (λ (p : Option Lock). IsStanding cells x p) none found)

pub standing_some : (cells : Cells) (x : Cell) (o : Option Lock) (lock : Lock) → o ≡ Some lock → IsStanding cells x o → Stands cells x lock
standing_some cells x o lock some found = subst (λ (p : Option Lock). IsStanding cells x p) some found

-- the lock of a mark names a cell
pub no_lacking : (cells : Cells) (st : State) → IsReachedByServers st → ShowsCells cells st → (x : Cell) → ¬ LacksPlace cells x
no_lacking cells st reached store x (t, b, there, lacks) = lacks m.first (kind_of_change m.change) limits.row limits.family (subst (IsLockText m.first.row m.first.family (kind_of_change m.change)) (same_Some m.text b (sym m.lock ∙ there)) m.is_text)
  where
    m : ShowsMark cells st x t
    m = store.marks x t (store.locks x t b there)

    limits : IsWritable m.first m.is_first.1
    limits = writes_within_limits st reached t m.is_first.0 m.is_first.2 m.first m.is_first.1 (0, m.is_first.3)

pub is_full : (n m : ℕ) → n ≡ m → 1024 ≤ n → 1024 ≤ m
is_full n m same many = omega arith

pub is_room : (n m : ℕ) → n ≡ m → n < 1024 → m < 1024
is_room n m same few = omega arith
