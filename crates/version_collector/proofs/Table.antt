-- The collectors in their map, before and after a step of the machine.
use Rattle.std.proofs.Common.{◌≡◌, ◌≢◌, ℕ, zero, suc, ◌+◌, ◌-◌, ◌<◌, ◌≤◌, inl, inr, Bool, true, false, cond, [], length, Option, Some, None, Result, Ok, Err, IfOk, IfErr, refl, sym, ap, subst, ◌∙◌, arith}
use Rattle.std.specs.Prelude.{is_some, if◌then◌else◌, max}
use Rattle.std.specs.Ordering.{nat_cmp, is_eq}
use Rattle.std.specs.Cmp.{nat_cmp_total}
use Rattle.std.specs.Map.{lookup}
use Rattle.std.specs.BTreeMap as btree
use Rattle.std.specs.FinMap as finmap
use Rattle.std.proofs.Math.Nat.{max-le, le-max_left, le-max_right, le_trans}
use Rattle.std.proofs.lemmas.Bool.{cases_eq}
use Rattle.std.proofs.lemmas.Option.{none-some, same_Some}
use Rattle.cell_key.specs.Cells.{Cells}
use Rattle.cell_key.specs.Places.{Place}
use Rattle.cell_key.specs.declared.refusals.Refusal.{Refusal}
use Rattle.cell_key.specs.declared.refusals.Refusal.TheVariants.{TooManySessions, UnknownCollector, BadCount, MemtableFull, Device, NoMemory, Damaged}
use Rattle.rows.specs.Calls.{OnlyReads, View}
use Rattle.si_model.specs.Collection as model
use Rattle.si_model.specs.Collection.{ChangesCells, Collects, FirstPass, HasCome, IsUnmarkedBelow, SecondPass}
use Rattle.si_model.specs.Enduring.{Endures}
use Rattle.si_model.specs.Laws.{Goes}
use Rattle.si_model.specs.Machine as machine
use Rattle.si_model.specs.Machine.{State, Step, accepts, refuses, tells, IsAcceptable, IsFloor, IsStorageRefusal, Marked, Refused}
use Rattle.si_model.specs.Refusing.Refuses.{gives_up}
use Rattle.si_model.specs.Replies.{collect_reply, result_reply}
use Rattle.si_model.specs.Servers.{IsReachedByServers}
use Rattle.si_model.specs.ShowsCells.{ShowsCells}
use Rattle.si_model.specs.declared.replies.Cell.{Cell}
use Rattle.si_model.specs.declared.replies.CollectReply.{CollectReply}
use Rattle.si_model.specs.declared.replies.CollectReply.TheVariants.{More, Blocked, Collected}
use Rattle.si_model.proofs.Acceptable.{collect_begin_ok, collect_step_ok}
use Rattle.si_model.proofs.Collected.{come_collected, shows_collected}
use Rattle.si_model.proofs.CollectorProgress.{come_on}
use Rattle.si_model.proofs.FirstRefusals.{collect_full_first, collect_many_first, collect_none_first, collect_unknown_first}
use Rattle.si_model.proofs.Floors.{servers_floors}
use Rattle.si_model.proofs.Goes.{goes}
use Rattle.si_model.proofs.ChangedParts.{leaves_others}
use Rattle.si_model.proofs.LastingMarks.{servers_endures}
use Rattle.si_model.proofs.Numbers.{servers_numbers}
use Rattle.si_model.proofs.ShownKept.{shows_beside}
use Rattle.si_model.proofs.Tools.{eq_test, ne_test, get_same, get_other, get_removed, get_remains}
use Rattle.version_collector.specs.Refusals.{IsVisitRefusal}
use Rattle.version_collector.specs.Shows.{AreShownOn, Begins, BeginsWith, ChangesOne, IsCount, KnowsFloor, Opens, SameCollectors, ShowsAt, ShowsCollector, ShowsCollectors, StepLeaves, Steps, TellsAt, VisitsAt, is_last, kept_after, kept_at, with_collector}
use Rattle.version_collector.specs.Visits.{Comes, HasVisited, IsTold, WhereCome, pass_of, position_of}
use Rattle.version_collector.specs.declared.collector.Collector.{Collector}
use Rattle.version_collector.specs.declared.collector.Pass.{Pass}
use Rattle.version_collector.specs.declared.collector.Pass.TheVariants.{First, Second}
use Rattle.version_collector.specs.declared.collectors.Collectors.{Collectors}
use Rattle.version_collector.proofs.TidyCells.{progress_changed, progress_collected}
use Rattle.version_collector.proofs.VisitedCells.{VisitsLeave, request_is}

-- the entries of a map after one key has changed
upd_at : (old new : ℕ → Option Collector) (k : ℕ) (w : Option Collector) → ((q : ℕ) → new q ≡ cond (is_eq (nat_cmp k q)) w (old q)) → new k ≡ w
upd_at old new k w h = h k ∙ ap (λ (b : Bool). cond b w (old k)) (eq_test k k refl)

upd_off : (old new : ℕ → Option Collector) (k : ℕ) (w : Option Collector) → ((q : ℕ) → new q ≡ cond (is_eq (nat_cmp k q)) w (old q)) → (q : ℕ) → q ≢ k → new q ≡ old q
upd_off old new k w h q ne = h q ∙ ap (λ (b : Bool). cond b w (old q)) (ne_test k q (λ e. ne (sym e)))

low_by : {a b c : ℕ} → a ≡ b → b ≤ c → a ≤ c
low_by e h = omega arith

-- ---- the progress of each

-- the progress of a collector with such a floor is kept
abbrev pub KeepsCome : Cells → State → Cells → State → Type 0
KeepsCome cells st cells' next = (c : Collector) → c.floor ≤ st.floor → Comes cells st c → Comes cells' next c

shows_other : (cells cells' : Cells) (st next : State) → IsReachedByServers st → KeepsCome cells st cells' next → (o : Option Collector) (i : ℕ) → finmap.get next.collectors i ≡ finmap.get st.collectors i
    → ShowsAt cells o i st → ShowsAt cells' o i next
shows_other cells cells' st next reached keeps None i same h = same ∙ h
shows_other cells cells' st next reached keeps (Some c) i same h = record {
  kept = same ∙ h.kept;
  come = keeps c ((servers_floors reached).each i c.floor h.kept) h.come;
}

not_second : First ≡ Second → ⊥
not_second e = cc

-- a second pass has no mark below its floor
unmarked_second : (cells : Cells) (st : State) (floor : ℕ) (pass : Pass) (after : Option Place) → HasCome cells st floor (pass_of pass) after → pass ≡ Second → IsUnmarkedBelow st floor
unmarked_second cells st floor First after come is = absurd (not_second is)
unmarked_second cells st floor Second after come is = come.0

-- changes of the cells keep it if marks and fates endure
pub keeps_on : (cells cells' : Cells) (st next : State) → IsReachedByServers st → ShowsCells cells st → Endures st next → ChangesCells cells st cells' → KeepsCome cells st cells' next
keeps_on cells cells' st next reached store keeps changes c low come = (
  come_on cells st next reached store keeps cells' changes c.floor low (pass_of c.pass) (position_of c.after) come.0,
  progress_changed cells st reached store c.floor low c.within c.pass (unmarked_second cells st c.floor c.pass (position_of c.after) come.0) cells' changes come.1,
)

-- steps of others keep it
keeps_changed : (cells cells' : Cells) (st next : State) (q : machine.Request) (r : machine.Reply) → IsReachedByServers st → ShowsCells cells st → Step st q r next → ChangesCells cells st cells' → KeepsCome cells st cells' next
keeps_changed cells cells' st next q r reached store step = keeps_on cells cells' st next reached store (servers_endures st next q r reached step)

-- steps of others leave the state that collectors show unchanged
pub shows_on : AreShownOn
shows_on cells cells' collectors st next q r reached store step kind changes shown =
    let same = (leaves_others st next q r step).collectors kind in
    record {
      next = shown.next ∙ sym same.next_collector;
      floor = (let low = shown.floor in let e = same.floor in omega (arith, e));
      each = λ i. shows_other cells cells' st next reached (keeps_changed cells cells' st next q r reached store step changes) (kept_at collectors i) i (ap (λ m. finmap.get m i) same.collectors) (shown.each i);
      count = ap (λ m. finmap.len m) same.collectors ∙ shown.count;
    }

come_marks : (cells : Cells) (st next : State) → ((x : Cell) (t : ℕ) → Marked next x t → Marked st x t) → (floor : ℕ) (pass : model.Pass) (after : Option Place)
    → HasCome cells st floor pass after → HasCome cells next floor pass after
come_marks cells st next fewer floor FirstPass after come = λ x t passed m. come x t passed (fewer x t m)
come_marks cells st next fewer floor SecondPass after come = (λ x t m. come.0 x t (fewer x t m), come.1)

-- a collection, after which no mark is added
keeps_collected : (cells cells' : Cells) (st next : State) → ShowsCells cells st → Collects cells cells' st → ((x : Cell) (t : ℕ) → Marked next x t → Marked st x t) → KeepsCome cells st cells' next
keeps_collected cells cells' st next store collects fewer c low come = (
  come_marks cells' st next fewer c.floor (pass_of c.pass) (position_of c.after) (come_collected cells cells' st store collects c.floor (pass_of c.pass) (position_of c.after) come.0),
  progress_collected cells cells' st c.floor collects c.within c.pass come.1,
)

-- ---- the state of a stored collector, and of a collector that isn't stored

pub shown_none : (cells : Cells) (collectors : Collectors) (i : ℕ) (st : State) → ShowsCollectors cells collectors st → kept_at collectors i ≡ None → finmap.get st.collectors i ≡ None
shown_none cells collectors i st shown none = subst (λ (o : Option Collector). ShowsAt cells o i st) none (shown.each i)

pub shown_some : (cells : Cells) (collectors : Collectors) (i : ℕ) (st : State) (c : Collector) → ShowsCollectors cells collectors st → kept_at collectors i ≡ Some c → ShowsCollector cells c i st
shown_some cells collectors i st c shown was = subst (λ (o : Option Collector). ShowsAt cells o i st) was (shown.each i)

pub shown_low : (cells : Cells) (c : Collector) (i : ℕ) (st : State) → IsReachedByServers st → ShowsCollector cells c i st → c.floor ≤ st.floor
shown_low cells c i st reached mine = (servers_floors reached).each i c.floor mine.kept

-- ---- a request of one collector

refused_storage : {st : State} {q : machine.Request} {n : Refusal} → IsStorageRefusal n → Step st q (Refused n) st
refused_storage s = refuses (gives_up s)

visit_storage : (e : Refusal) → IsVisitRefusal e → IsStorageRefusal e
visit_storage MemtableFull u = tt
visit_storage Device u = tt
visit_storage NoMemory u = tt
visit_storage Damaged u = tt
visit_storage _ u = absurd u

-- whether a result closes the collector
abbrev pub closes_with : Result CollectReply Refusal → Bool
closes_with (Ok reply) = is_last reply
closes_with (Err e) = false

removed_count : (m : finmap.FinMap nat_cmp ℕ) (k n n' f : ℕ) → finmap.get m k ≡ Some f → finmap.len m ≡ n → n' + 1 ≡ n → finmap.len (finmap.remove m k) ≡ n'
removed_count m k n n' f there e g = finmap.len-remove nat_cmp_total m k ∙ (ap (λ o. cond (is_some o) (finmap.len m - 1) (finmap.len m)) there ∙ omega arith)

module _ (cells cells' : Cells) (old new : Collectors) (i n : ℕ) (c c' : Collector) (was : kept_at old i ≡ Some c) (one : ChangesOne i old new) where
  -- the collector stays open
  open_shown : (st : State) → IsReachedByServers st → ShowsCells cells st → ShowsCollectors cells old st → VisitsLeave n cells c cells' c' st → kept_at new i ≡ Some c'
      → btree.btree_map_len new.collectors ≡ btree.btree_map_len old.collectors → ShowsCollectors cells' new st
  open_shown st reached store shown leaves now len = record {
    next = one.next ∙ shown.next;
    floor = low_by one.floor shown.floor;
    each = λ j. elim (cases_eq j i) [
      | inl e ↦ subst (λ (j : ℕ). ShowsAt cells' (kept_at new j) j st) (sym e) (subst (λ (o : Option Collector). ShowsAt cells' o i st) (sym now) (record { kept = mine.kept ∙ ap (λ (f : ℕ). Some f) (sym leaves.floor); come = leaves.come }))
      | inr ne ↦ subst (λ (o : Option Collector). ShowsAt cells' o j st) (sym (one.others j ne)) (shows_other cells cells' st st reached (keeps_collected cells cells' st st store leaves.collects (λ x t m. m)) (kept_at old j) j refl (shown.each j))
    ];
    count = shown.count ∙ sym len;
  }
    where
      mine : ShowsCollector cells c i st
      mine = shown_some cells old i st c shown was

  -- it is closed
  abbrev closed : State → State
  closed st = record st { collectors = finmap.remove st.collectors i }

  closed_shown : (st : State) → IsReachedByServers st → ShowsCells cells st → ShowsCollectors cells old st → VisitsLeave n cells c cells' c' st → kept_at new i ≡ None
      → btree.btree_map_len new.collectors + 1 ≡ btree.btree_map_len old.collectors → ShowsCollectors cells' new (closed st)
  closed_shown st reached store shown leaves now len = record {
    next = one.next ∙ shown.next;
    floor = low_by one.floor shown.floor;
    each = λ j. elim (cases_eq j i) [
      | inl e ↦ subst (λ (j : ℕ). ShowsAt cells' (kept_at new j) j (closed st)) (sym e) (subst (λ (o : Option Collector). ShowsAt cells' o i (closed st)) (sym now) (get_removed st.collectors i))
      | inr ne ↦ subst (λ (o : Option Collector). ShowsAt cells' o j (closed st)) (sym (one.others j ne))
          (shows_other cells cells' st (closed st) reached (keeps_collected cells cells' st (closed st) store leaves.collects (λ x t m. m)) (kept_at old j) j (get_remains st.collectors i j ne) (shown.each j))
    ];
    count = removed_count st.collectors i (btree.btree_map_len old.collectors) (btree.btree_map_len new.collectors) c.floor (shown_some cells old i st c shown was).kept shown.count len;
  }

  -- the machine's step, by the answer
  stepped : (result : Result CollectReply Refusal) → IsCount n → IfErr result IsVisitRefusal → kept_at new i ≡ kept_after result c'
      → btree.btree_map_len new.collectors + cond (closes_with result) 1 0 ≡ btree.btree_map_len old.collectors
      → (st : State) → IsReachedByServers st → ShowsCells cells st → ShowsCollectors cells old st → VisitsLeave n cells c cells' c' st × IfOk result (λ reply. IsTold n reply cells c cells' c' st)
      → (next : State) × Step st (machine.CollectStep i n) (result_reply collect_reply result) next × ShowsCells cells' next × ShowsCollectors cells' new next × (KnowsFloor old st → KnowsFloor new next)
  stepped (Ok More) count refusal now len st reached store shown is =
      let kept = (shown_some cells old i st c shown was).kept in
      (st, accepts (collect_step_ok c.floor kept count.0 count.1) (tells (machine.goes_further kept)), shows_collected cells cells' st store is.0.collects, open_shown st reached store shown is.0 now (omega arith), λ known. one.floor ∙ known)
  stepped (Ok (Blocked x t)) count refusal now len st reached store shown is =
      let kept = (shown_some cells old i st c shown was).kept in
      let marked = store.locks x t is.1.0.0 (sym (is.0.collects.locks x t) ∙ is.1.0.1) in
      (st, accepts (collect_step_ok c.floor kept count.0 count.1) (tells (machine.is_blocked kept marked is.1.1)), shows_collected cells cells' st store is.0.collects, open_shown st reached store shown is.0 now (omega arith), λ known. one.floor ∙ known)
  stepped (Ok Collected) count refusal now len st reached store shown is =
      let kept = (shown_some cells old i st c shown was).kept in
      let step : Step st (machine.CollectStep i n) machine.Collected (closed st) = accepts (collect_step_ok c.floor kept count.0 count.1) (machine.has_collected kept is.1.0) in
      (closed st, step, shows_beside cells' st (closed st) (goes reached step) (shows_collected cells cells' st store is.0.collects) (λ y u m. m) (λ y u m. m) refl, closed_shown st reached store shown is.0 now len, λ known. one.floor ∙ known)
  stepped (Err e) count refusal now len st reached store shown is =
      (st, refused_storage (visit_storage e refusal), shows_collected cells cells' st store is.0.collects, open_shown st reached store shown is.0 now (omega arith), λ known. one.floor ∙ known)

  pub steps_at : (result : Result CollectReply Refusal) → IsCount n → IfErr result IsVisitRefusal → kept_at new i ≡ kept_after result c'
      → btree.btree_map_len new.collectors + cond (closes_with result) 1 0 ≡ btree.btree_map_len old.collectors
      → ((st : State) → WhereCome st cells c (HasVisited n result cells c cells' c')) → Steps cells old (machine.CollectStep i n) (result_reply collect_reply result) cells' new
  steps_at result count refusal now len did st reached store shown =
      let mine = shown_some cells old i st c shown was in
      let low = shown_low cells c i st reached mine in
      stepped result count refusal now len st reached store shown (request_is st reached cells c store low mine.come n result cells' c' (did st reached store low mine.come))

-- ---- refusals before any visit

-- equal collectors show the same states
pub shows_same : (cells : Cells) (old new : Collectors) (st : State) → SameCollectors old new → ShowsCollectors cells old st → ShowsCollectors cells new st
shows_same cells old new st same shown = record {
  next = same.next ∙ shown.next;
  floor = low_by same.floor shown.floor;
  each = λ i. subst (λ (o : Option Collector). ShowsAt cells o i st) (sym (same.each i)) (shown.each i);
  count = shown.count ∙ sym same.count;
}

pub unknown_at : (cells : Cells) (old new : Collectors) (i n : ℕ) → SameCollectors old new → kept_at old i ≡ None → Steps cells old (machine.CollectStep i n) (Refused UnknownCollector) cells new
unknown_at cells old new i n same none st reached store shown = (st, refuses (collect_unknown_first (shown_none cells old i st shown none)), store, shows_same cells old new st same shown, λ known. same.floor ∙ known)

pub none_at : (cells : Cells) (old new : Collectors) (i n : ℕ) (c : Collector) → SameCollectors old new → kept_at old i ≡ Some c → n ≡ 0 → Steps cells old (machine.CollectStep i n) (Refused BadCount) cells new
none_at cells old new i n c same was none st reached store shown = (st, refuses (collect_none_first c.floor (shown_some cells old i st c shown was).kept (omega arith)), store, shows_same cells old new st same shown, λ known. same.floor ∙ known)

pub many_at : (cells : Cells) (old new : Collectors) (i n : ℕ) (c : Collector) → SameCollectors old new → kept_at old i ≡ Some c → 1000 < n → Steps cells old (machine.CollectStep i n) (Refused BadCount) cells new
many_at cells old new i n c same was many st reached store shown = (st, refuses (collect_many_first c.floor (shown_some cells old i st c shown was).kept many), store, shows_same cells old new st same shown, λ known. same.floor ∙ known)

-- ---- a new collector

-- no collector has the next number
fresh : (st : State) → IsReachedByServers st → finmap.get st.collectors st.next_collector ≡ None
fresh st reached = by (finmap.get st.collectors st.next_collector) refl
  where
    by : (o : Option ℕ) → finmap.get st.collectors st.next_collector ≡ o → finmap.get st.collectors st.next_collector ≡ None
    by None e = e
    by (Some f) e = let below = (servers_numbers reached).collectors.below st.next_collector f e in absurd (omega arith)

unused : (cells : Cells) (collectors : Collectors) (st : State) → IsReachedByServers st → ShowsCollectors cells collectors st → kept_at collectors st.next_collector ≡ None
unused cells collectors st reached shown = by (kept_at collectors st.next_collector) refl
  where
    by : (o : Option Collector) → kept_at collectors st.next_collector ≡ o → kept_at collectors st.next_collector ≡ None
    by None e = e
    by (Some c) e = absurd (none-some _ (sym (fresh st reached) ∙ (shown_some cells collectors st.next_collector st c shown e).kept))

module _ (old new : Collectors) (floor : ℕ) (room : btree.btree_map_len old.collectors < 64) (low : old.next ≤ 9223372036854775807)
    (next : new.next ≡ old.next + 1) (greatest : new.greatest_floor ≡ max old.greatest_floor floor)
    (at : (q : ℕ) → kept_at new q ≡ cond (is_eq (nat_cmp old.next q)) (Some (record { floor = floor; pass = First; after = None; within = None })) (kept_at old q))
    (len : btree.btree_map_len new.collectors ≡ btree.btree_map_len old.collectors + (if is_some (kept_at old old.next) then 0 else 1)) where
  abbrev collector : Collector
  collector = record { floor = floor; pass = First; after = None; within = None }

  module _ (cells : Cells) (st : State) (reached : IsReachedByServers st) (store : ShowsCells cells st) (shown : ShowsCollectors cells old st) where
    abbrev after : State
    after = with_collector st floor

    ok : IsAcceptable st machine.CollectBegin
    ok = collect_begin_ok (let n = shown.count in omega arith)

    limit : st.next_collector < machine.end_of_stamps
    limit = let n = shown.next in omega arith

    go : Goes st after
    go = record {
      wrote = λ u ws w late. w;
      marked = λ x u ws m w. w;
      late = λ u ws w late h. late h;
      cleared = λ n k. (le_trans k.0 (le-max_left st.floor floor), k.1);
    }

    store_after : ShowsCells cells after
    store_after = shows_beside cells st after go store (λ y u m. m) (λ y u m. m) refl

    shown_after : ShowsCollectors cells new after
    shown_after = collectors
      where
        changed : (q : ℕ) → kept_at new q ≡ cond (is_eq (nat_cmp st.next_collector q)) (Some collector) (kept_at old q)
        changed q = at q ∙ ap (λ (n : ℕ). cond (is_eq (nat_cmp n q)) (Some collector) (kept_at old q)) shown.next

        keeps : KeepsCome cells st cells after
        keeps c low come = (come_marks cells st after (λ x t m. m) c.floor (pass_of c.pass) (position_of c.after) come.0, come.1)

        collectors : ShowsCollectors cells new after
        collectors = record {
          next = next ∙ ap (λ (n : ℕ). n + 1) shown.next;
          floor = low_by greatest (max-le (le_trans shown.floor (le-max_left st.floor floor)) (le-max_right st.floor floor));
          each = λ j. elim (cases_eq j st.next_collector) [
            | inl e ↦ subst (λ (j : ℕ). ShowsAt cells (kept_at new j) j after) (sym e)
                (subst (λ (o : Option Collector). ShowsAt cells o st.next_collector after) (sym (upd_at (kept_at old) (kept_at new) st.next_collector (Some collector) changed))
                (record { kept = get_same st.collectors st.next_collector floor; come = (λ x t passed m. absurd (passed tt), tt) }))
            | inr ne ↦ subst (λ (o : Option Collector). ShowsAt cells o j after) (sym (upd_off (kept_at old) (kept_at new) st.next_collector (Some collector) changed j ne))
                (shows_other cells cells st after reached keeps (kept_at old j) j (get_other st.collectors st.next_collector floor j ne) (shown.each j))
          ];
          count = finmap.len-insert nat_cmp_total st.collectors st.next_collector floor ∙ (ap (λ o. cond (is_some o) (finmap.len st.collectors) (finmap.len st.collectors + 1)) (fresh st reached)
              ∙ (ap (λ (n : ℕ). n + 1) shown.count ∙ sym (len ∙ ap (λ (o : Option Collector). btree.btree_map_len old.collectors + (if is_some o then 0 else 1)) (ap (kept_at old) shown.next ∙ unused cells old st reached shown))));
        }

    pub begins_with : BeginsWith cells new floor (Ok old.next) st
    begins_with = (ok, shown.next, subst (λ (n : ℕ). n < machine.end_of_stamps) (sym shown.next) limit, store_after, shown_after)

    pub begins_at : IsFloor st floor → Begins cells old new (machine.Collecting old.next floor) st
    begins_at is = (
      after,
      subst (λ (n : ℕ). Step st machine.CollectBegin (machine.Collecting n floor) after) (sym shown.next) (accepts ok (machine.collects is limit)),
      store_after,
      shown_after,
      λ known. greatest ∙ ap (λ (f : ℕ). max f floor) known,
    )

  pub opens_one : Opens floor old.next old new
  opens_one = record {
    number = refl;
    next = next;
    greatest = greatest;
    kept = upd_at (kept_at old) (kept_at new) old.next (Some collector) at;
    others = upd_off (kept_at old) (kept_at new) old.next (Some collector) at;
  }

-- a refused begin changes nothing
pub begin_refused : (old new : Collectors) (floor : ℕ) (e : Refusal) → SameCollectors old new → IsStorageRefusal e
    → (cells : Cells) (st : State) → ShowsCells cells st → ShowsCollectors cells old st → Begins cells old new (Refused e) st × BeginsWith cells new floor (Err e) st
begin_refused old new floor e same u cells st store shown =
    let now = shows_same cells old new st same shown in
    ((st, refused_storage u, store, now, λ known. same.floor ∙ known), (gives_up u, now))

pub begin_full : (old : Collectors) (floor : ℕ) → 64 ≤ btree.btree_map_len old.collectors
    → (cells : Cells) (st : State) → ShowsCells cells st → ShowsCollectors cells old st → Begins cells old old (Refused TooManySessions) st × BeginsWith cells old floor (Err TooManySessions) st
begin_full old floor full cells st store shown =
    let why = collect_full_first (let n = shown.count in omega arith) in
    ((st, refuses why, store, shown, λ known. known), (why, shown))

-- equal entries are equal collectors
entries_each : (old new : Collectors) → new.collectors.entries ≡ old.collectors.entries → (i : ℕ) → kept_at new i ≡ kept_at old i
entries_each old new same i = ap (λ es. lookup (btree.is_at (nat_cmp i)) es) same

pub same_entries : (old new : Collectors) → new.next ≡ old.next → new.greatest_floor ≡ old.greatest_floor → new.collectors.entries ≡ old.collectors.entries → SameCollectors old new
same_entries old new next floor same = record { next = next; floor = floor; each = entries_each old new same; count = ap (λ es. length es) same }

-- without collectors
pub shows_new : (collectors : Collectors) (cells : Cells) (st : State) → collectors.next ≡ st.next_collector → st.collectors ≡ finmap.empty → collectors.greatest_floor ≤ st.floor
    → collectors.collectors.entries ≡ [] → ShowsCollectors cells collectors st
shows_new collectors cells st next none floor empty = record {
  next = next;
  floor = floor;
  each = λ i. subst (λ es. ShowsAt cells (lookup (btree.is_at (nat_cmp i)) es) i st) (sym empty) (ap (λ m. finmap.get m i) none ∙ finmap.get-empty nat_cmp i);
  count = ap (λ m. finmap.len m) none ∙ (finmap.len-empty nat_cmp ℕ ∙ ap (λ es. length es) (sym empty));
}

pub same_itself : (collectors : Collectors) → SameCollectors collectors collectors
same_itself collectors = record { next = refl; floor = refl; each = λ i. refl; count = refl }

pub is_full : (n m : ℕ) → n ≡ m → 64 ≤ n → 64 ≤ m
is_full n m same many = omega arith

pub is_room : (n m : ℕ) → n ≡ m → n < 64 → m < 64
is_room n m same few = omega arith

-- ---- a request, with its collector borrowed from the map

pub is_count : (n : ℕ) → n ≢ 0 → n ≤ 1000 → IsCount n
is_count zero ne le = absurd (ne refl)
is_count (suc n) ne le = (omega arith, le)

pub with_none : (m n : ℕ) → m ≡ n → m + 0 ≡ n
with_none m n e = omega arith

pub twice : {X : Type 0} (b : Bool) (a c x : X) → cond b a (cond b c x) ≡ cond b a x
twice true a c x = refl
twice false a c x = refl

pub kept_is : (r : CollectReply) (w : Collector) (last : Bool) → is_last r ≡ last → kept_after (Ok r) w ≡ cond last None (Some w)
kept_is More w last is = ap (λ (b : Bool). cond b None (Some w)) is
kept_is (Blocked x t) w last is = ap (λ (b : Bool). cond b None (Some w)) is
kept_is Collected w last is = ap (λ (b : Bool). cond b None (Some w)) is

module _ (old new : Collectors) (i : ℕ) (o : Option Collector) (next : new.next ≡ old.next) (floor : new.greatest_floor ≡ old.greatest_floor)
    (at : (q : ℕ) → kept_at new q ≡ cond (is_eq (nat_cmp i q)) o (kept_at old q)) where
  pub one_at : ChangesOne i old new
  one_at = record { next = next; floor = floor; others = λ j ne. upd_off (kept_at old) (kept_at new) i o at j ne }

  pub now_at : kept_at new i ≡ o
  now_at = upd_at (kept_at old) (kept_at new) i o at

-- an unchanged collector, in unchanged collectors
pub same_lent : (old new : Collectors) (i : ℕ) (c w : Collector) → kept_at old i ≡ Some c → w ≡ c → new.next ≡ old.next → new.greatest_floor ≡ old.greatest_floor
    → ((q : ℕ) → kept_at new q ≡ cond (is_eq (nat_cmp i q)) (Some w) (kept_at old q)) → btree.btree_map_len new.collectors ≡ btree.btree_map_len old.collectors → SameCollectors old new
same_lent old new i c w was same next floor at len = record {
  next = next;
  floor = floor;
  each = λ q. elim (cases_eq q i) [
    | inl e ↦ subst (λ (n : ℕ). kept_at new n ≡ kept_at old n) (sym e) (upd_at (kept_at old) (kept_at new) i (Some w) at ∙ (ap (λ (s : Collector). Some s) same ∙ sym was))
    | inr ne ↦ upd_off (kept_at old) (kept_at new) i (Some w) at q ne
  ];
  count = len;
}

-- ---- the effects of a refused step

module _ {R : Type 0} {seen : View R} (old new : Collectors) (i n : ℕ) (before now : R) where
  pub same_leaves : SameCollectors old new → OnlyReads seen before now → StepLeaves seen i n old new before now
  same_leaves same reads = record {
    stays = λ c was. (c, same.each i ∙ was, refl);
    same = λ one. same;
    reads = λ one. reads;
  }

  pub refused_leaves : (c w : Collector) → kept_at old i ≡ Some c → kept_at new i ≡ Some w → w.floor ≡ c.floor → (n ≡ 1 → w ≡ c) → (w ≡ c → SameCollectors old new) → (n ≡ 1 → OnlyReads seen before now)
      → StepLeaves seen i n old new before now
  refused_leaves c w was is floor same so reads = record {
    stays = λ d kept. (w, is, floor ∙ ap (λ (e : Collector). e.floor) (same_Some c d (sym was ∙ kept)));
    same = λ one. so (same one);
    reads = reads;
  }

module _ (cells cells' : Cells) (old new : Collectors) (i n : ℕ) (c w : Collector) (was : kept_at old i ≡ Some c) (result : Result CollectReply Refusal)
    (did : (st : State) → WhereCome st cells c (HasVisited n result cells c cells' w)) (st : State) (reached : IsReachedByServers st) (store : ShowsCells cells st) (shown : ShowsCollectors cells old st) where
  mine : ShowsCollector cells c i st
  mine = shown_some cells old i st c shown was

  done : HasVisited n result cells c cells' w
  done = did st reached store (shown_low cells c i st reached mine) mine.come

  pub visits_at : kept_at new i ≡ kept_after result w → VisitsAt i n result cells old cells' new
  visits_at now d is = (w, subst (λ (e : Collector). HasVisited n result cells e cells' w) (same_Some c d (sym was ∙ is)) done, now)

  pub leaves_at : VisitsLeave n cells c cells' w st
  leaves_at = (request_is st reached cells c store (shown_low cells c i st reached mine) mine.come n result cells' w done).0

  is_told : IfOk result (λ reply. IsTold n reply cells c cells' w st)
  is_told = (request_is st reached cells c store (shown_low cells c i st reached mine) mine.come n result cells' w done).1

told_again : (n : ℕ) (reply : CollectReply) (cells cells' : Cells) (c w w' : Collector) (st : State) → kept_after (Ok reply) w ≡ kept_after (Ok reply) w' → IsTold n reply cells c cells' w st → IsTold n reply cells c cells' w' st
told_again n More cells cells' c w w' st same told = subst (λ (d : Collector). IsTold n More cells c cells' d st) (same_Some w w' same) told
told_again n (Blocked x t) cells cells' c w w' st same told = told
told_again n Collected cells cells' c w w' st same told = told

pub tells_at : (cells cells' : Cells) (old new : Collectors) (i n : ℕ) (c w : Collector) → kept_at old i ≡ Some c → (reply : CollectReply)
    → ((st : State) → WhereCome st cells c (HasVisited n (Ok reply) cells c cells' w)) → (st : State) → IsReachedByServers st → ShowsCells cells st → ShowsCollectors cells old st
    → kept_at new i ≡ kept_after (Ok reply) w → TellsAt i n reply cells old cells' new st
tells_at cells cells' old new i n c w was reply did st reached store shown now d d' is now' =
    subst (λ (e : Collector). IsTold n reply cells e cells' d' st) (same_Some c d (sym was ∙ is))
    (told_again n reply cells cells' c w d' st (sym now ∙ now') (is_told cells cells' old new i n c w was (Ok reply) did st reached store shown))
