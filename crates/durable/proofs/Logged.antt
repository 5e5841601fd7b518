-- The edits in a log lead to the state that is shown.
use Rattle.std.proofs.Common.{◌≡◌, ◌≤◌, ◌⊎◌, ℕ, Bool, true, false, List, [], ◌∷◌, ◌++◌, length, length-append, inl, inr, sym, ap, ◌∙◌, subst, arith, append-nil}
use Rattle.std.specs.List.{AllByRecursion}
use Rattle.std.specs.Prelude.{Result, Ok, Err, OnErr, OnOk, is_err}
use Rattle.std.specs.Int.{to_be_bytes, w32}
use Rattle.cell_key.specs.Cells.{Cells}
use Rattle.cell_key.specs.declared.edits.Edit.{Edit}
use Rattle.commit_log.specs.Edits.{HoldEdits, IsStoredEdit, LogsEdits, spelled_edits, spelled_entries}
use Rattle.commit_log.specs.Held.{Keeps}
use Rattle.commit_log.specs.Records.{AreUpTo, HasRecord, NamesRoots, any_root, spelled_record}
use Rattle.commit_log.specs.declared.logs.Log.{Ghosts as Log}
use Rattle.commit_log.specs.declared.records.RecordKind.TheVariants as kind
use Rattle.metadata_table.specs.Roots.{RootView}
use Rattle.row_atomic.specs.Roots.{root_sum}
use Rattle.row_atomic.specs.Journals.{HasRoomFor, IsWithin, empty_journal}
use Rattle.si_model.specs.Machine.{State, reopened}
use Rattle.si_model.specs.ShowsCells.{ShowsCells}
use Rattle.durable.specs.Durability.{Settles}
use Rattle.durable.specs.Devices.{IsOver, most_stamp}
use Rattle.durable.specs.Answers.{Follows, HasNewRoot, HaveBytes, HoldsLogged, LastsIn, Logs, StaysRooted, StaysStored, named, shown_by}
use Rattle.durable.specs.StoredMarks.{CoversStamp, MarkView}
use Rattle.durable.specs.View.{View}
use Rattle.durable.specs.declared.server.DurableServer.{DurableServer}

all-join : {A : Type 0} (P : A → Type 0) (xs ys : List A) → AllByRecursion P xs → AllByRecursion P ys → AllByRecursion P (xs ++ ys)
all-join P [] ys p q = q
all-join P (x ∷ xs) ys p q = (p.0, all-join P xs ys p.1 q)

all-front : {A : Type 0} (P : A → Type 0) (xs ys : List A) → AllByRecursion P (xs ++ ys) → AllByRecursion P xs
all-front P [] ys p = tt
all-front P (x ∷ xs) ys p = (p.0, all-front P xs ys p.1)

all-later : {A : Type 0} (P : A → Type 0) (xs ys : List A) → AllByRecursion P (xs ++ ys) → AllByRecursion P ys
all-later P [] ys p = p
all-later P (x ∷ xs) ys p = all-later P xs ys p.1

-- edit lists with the same bytes have the same length
abbrev pub AsManyEdits : Type 0
AsManyEdits = (a b : List Edit) → AllByRecursion IsStoredEdit a → AllByRecursion IsStoredEdit b → spelled_edits a ≡ spelled_edits b → length a ≡ length b

pub true_not_false : {A : Type 0} (b : Bool) → b ≡ true → b ≡ false → A
true_not_false b is not = cc

pub no_less : (n : ℕ) → n ≤ n
no_less n = omega arith

-- a clause on `Ok` holds of a result that is no `Err`
pub on_ok : {T E P : Type 0} (r : Result T E) (b : Bool) → b ≡ is_err r → b ≡ false → OnOk r P → P
on_ok (Ok x) b told is p = p
on_ok (Err e) b told is p = true_not_false b told is

pub on_err : {T E P : Type 0} (r : Result T E) (b : Bool) → b ≡ is_err r → b ≡ true → OnErr r P → P
on_err (Ok x) b told is p = true_not_false b is told
on_err (Err e) b told is p = p

pub ok_through : {T E P Q : Type 0} (r : Result T E) → (P → Q) → OnOk r P → OnOk r Q
ok_through (Ok x) f p = f p
ok_through (Err e) f p = tt

pub err_through : {T E P Q : Type 0} (r : Result T E) → (P → Q) → OnErr r P → OnErr r Q
err_through (Ok x) f p = tt
err_through (Err e) f p = f p

-- a fact that holds after any outcome holds after `Ok`
pub on_any : {T E P : Type 0} (r : Result T E) → P → OnOk r P
on_any (Ok x) p = p
on_any (Err e) p = tt

-- a log of a root's name alone has no record "any root"
pub names_it : (root : RootView) → ¬ HasRecord (named root ∷ []) any_root
names_it root ([], then, is) = cc
names_it root (x ∷ [], then, is) = cc
names_it root (x ∷ y ∷ ys, then, is) = cc

-- nothing waits
pub none_waits : (all logged waiting : List ℕ) → waiting ≡ [] → all ≡ logged → all ≡ logged ++ waiting
none_waits all logged waiting none bytes = bytes ∙ (sym (append-nil logged) ∙ ap (λ (x : List ℕ). logged ++ x) (sym none))

-- the record that a root's name makes
pub named_so : (root : RootView) (top sum : ℕ) (bytes : List ℕ) → top ≡ root.top → sum ≡ root_sum root → bytes ≡ to_be_bytes w32 sum → spelled_record kind.Root top bytes ≡ named root
named_so root top sum bytes same as' is =
    ap (λ (b : List ℕ). spelled_record kind.Root top b) (is ∙ ap (to_be_bytes w32) as') ∙ ap (λ (n : ℕ). spelled_record kind.Root n (to_be_bytes w32 (root_sum root))) same

-- the bytes of the edits in records
pub same_bytes : (records : List (List ℕ)) (old new : List ℕ) → old ≡ new → HaveBytes records old → HaveBytes records new
same_bytes records old new same has = record { edits = has.edits; held = has.held; stored = has.stored; spelled = has.spelled ∙ same }

-- a root's name adds none
name_adds_none : LogsEdits → (records : List (List ℕ)) (root : RootView) (bytes : List ℕ) → HaveBytes records bytes → HaveBytes (records ++ named root ∷ []) bytes
name_adds_none laws records root bytes has = record { edits = has.edits; held = laws.named records has.edits root.top (root_sum root) has.held; stored = has.stored; spelled = has.spelled }

-- ---- covered stamps

module _ {M : Type 0} (names : NamesRoots) where
  -- lower stamps are covered too
  pub covers_low : (mark : MarkView M) (records : List (List ℕ)) (low high : ℕ) → low ≤ high → CoversStamp mark records high → CoversStamp mark records low
  covers_low mark records low high rises (inl at) = inl (omega (arith, rises, at))
  covers_low mark records low high rises (inr at) = inr (names.lower records low high rises at)

  -- with a further record the same stamps are covered, and with a later mark too
  pub covers_more : (old new : MarkView M) (records : List (List ℕ)) (one : List ℕ) (top : ℕ) → old.stored ≤ new.stored → CoversStamp old records top → CoversStamp new (records ++ one ∷ []) top
  covers_more old new records one top rises (inl at) = inl (omega (arith, rises, at))
  covers_more old new records one top rises (inr at) = inr (names.kept records one top at)

  -- a record of edits covers its stamp
  pub covers_last : (mark : MarkView M) (records : List (List ℕ)) (stamp top : ℕ) (body : List ℕ) → stamp ≤ most_stamp → top ≤ stamp → CoversStamp mark (records ++ spelled_record kind.Edits stamp body ∷ []) top
  covers_last mark records stamp top body small low = covers_low mark (records ++ spelled_record kind.Edits stamp body ∷ []) top stamp low (inr (names.reached records kind.Edits stamp body (omega (arith, small))))

module _ {S L : Type 0} (view : View S) (device : Log L) (laws : LogsEdits) (names : NamesRoots) where
  -- the records after the waiting edits were appended
  pub record Gained (old : S) (stamp : ℕ) (records : List (List ℕ)) : Type 0 where
    pub edits : List Edit
    pub held : HoldEdits (records ++ spelled_record kind.Edits stamp (view.waiting old) ∷ []) edits
    pub stored : AllByRecursion IsStoredEdit edits
    pub room : HasRoomFor empty_journal edits
    pub all : spelled_edits edits ≡ view.logged old ++ view.waiting old

  pub gained : AsManyEdits → (old : S) (stamp : ℕ) (root : RootView) (st : State) → IsWithin (record { logged = view.logged old; waiting = view.waiting old; count = view.count old; entry_bytes = view.entry_bytes old }) → Follows view old root st → (records : List (List ℕ)) (edits : List Edit) → HoldEdits records edits → AllByRecursion IsStoredEdit edits → spelled_edits edits ≡ view.logged old → Gained old stamp records
  gained as_many old stamp root st within f records edits held stored spelled =
      let first = all-front IsStoredEdit f.first f.then f.stored in
      let few : length edits ≡ length f.first = as_many edits f.first stored first (spelled ∙ f.logged_bytes) in
      let entries : spelled_entries edits ≡ spelled_entries f.first = laws.entries edits f.first stored first (spelled ∙ f.logged_bytes) in
      let both = length-append edits f.then in
      let those = f.counted ∙ length-append f.first f.then in
      let most = within.edits in
      let size : length (spelled_entries (edits ++ f.then)) ≡ length (spelled_entries (f.first ++ f.then)) = ap length (laws.entries_after edits f.then ∙ (ap (λ (x : List ℕ). x ++ spelled_entries f.then) entries ∙ sym (laws.entries_after f.first f.then))) in
      let all = f.measured in
      let small = within.bytes in
      let more : HoldEdits (records ++ spelled_record kind.Edits stamp (view.waiting old) ∷ []) (edits ++ f.then) = subst (λ (w : List ℕ). HoldEdits (records ++ spelled_record kind.Edits stamp w ∷ []) (edits ++ f.then)) (sym f.waiting_bytes) (laws.more records edits f.then stamp held) in
      record {
        edits = edits ++ f.then;
        held = more;
        stored = all-join IsStoredEdit edits f.then stored (all-later IsStoredEdit f.first f.then f.stored);
        room = record { edits = omega (arith, few, both, those, most); bytes = omega (arith, size, all, small) };
        all = laws.after edits f.then ∙ (ap (λ (x : List ℕ). x ++ spelled_edits f.then) spelled ∙ ap (λ (x : List ℕ). view.logged old ++ x) (sym f.waiting_bytes));
      }

module _ {S M L : Type 0} (view : View S) (device : Log L) (laws : LogsEdits) (names : NamesRoots) where
  abbrev Lasting : DurableServer S M L → State → Type 0
  Lasting s st = LastsIn view device s st

  -- the stored cells and the stored mark stay
  abbrev Stays : DurableServer S M L → DurableServer S M L → Type 0
  Stays old new = StaysStored view old.server new.server × (old.marks.stored ≤ new.marks.stored)

  -- a state lasts if the log holds records of the same edits, over the same root
  lasts_with : (old new : DurableServer S M L) (st : State) → Stays old new → (lasts : Lasting old st) → (records : List (List ℕ)) → device.holds new.log records → IsOver records lasts.kept.root → AreUpTo most_stamp records
      → CoversStamp new.marks records st.top → HoldEdits records lasts.kept.edits → (new.is_stopped ≡ true) ⊎ HaveBytes records (view.logged new.server) → Lasting new st
  lasts_with old new st stays lasts records in_log over up_to covers held bytes = record {
    kept = record {
      root = lasts.kept.root;
      base = lasts.kept.base;
      kept = (stays.0 lasts.kept.root lasts.kept.base st.places lasts.kept.kept.0, let low = lasts.kept.kept.1 in let rises = stays.1 in omega (arith, low, rises));
      records = records;
      in_log = (in_log, bytes);
      over = over;
      stamps = up_to;
      edits = lasts.kept.edits;
      held = held;
      stored = lasts.kept.stored;
      room = lasts.kept.room;
      shows = lasts.kept.shows;
      next = lasts.kept.next;
      top = covers;
    };
  }

  -- a state lasts as long as the log holds its records
  pub lasts_on : (old new : DurableServer S M L) (st : State) → Stays old new → (lasts : Lasting old st) → device.holds new.log lasts.kept.records
      → (new.is_stopped ≡ true) ⊎ HaveBytes lasts.kept.records (view.logged new.server) → Lasting new st
  lasts_on old new st stays lasts in_log bytes = lasts_with old new st stays lasts lasts.kept.records in_log lasts.kept.over lasts.kept.stamps
      (elim lasts.kept.top [ inl at ↦ inl (let rises = stays.1 in omega (arith, rises, at)) | inr at ↦ inr at ]) lasts.kept.held bytes

  -- and also with a further root's name
  pub lasts_named : (old new : DurableServer S M L) (st : State) (root : RootView) → root.top ≤ most_stamp → Stays old new → (lasts : Lasting old st) → device.holds new.log (lasts.kept.records ++ named root ∷ [])
      → (new.is_stopped ≡ true) ⊎ HaveBytes lasts.kept.records (view.logged new.server) → Lasting new st
  lasts_named old new st root small stays lasts in_log bytes = lasts_with old new st stays lasts (lasts.kept.records ++ named root ∷ []) in_log
      (names.stays lasts.kept.records (named root) lasts.kept.root.top (root_sum lasts.kept.root) lasts.kept.over)
      (names.up_to lasts.kept.records kind.Root root.top most_stamp _ lasts.kept.stamps small)
      (covers_more names old.marks new.marks lasts.kept.records (named root) st.top stays.1 lasts.kept.top)
      (laws.named lasts.kept.records lasts.kept.edits root.top (root_sum root) lasts.kept.held)
      (elim bytes [ inl stopped ↦ inl stopped | inr has ↦ inr (name_adds_none laws lasts.kept.records root (view.logged new.server) has) ])

  -- a state that is shown lasts if the log holds all edits of the journal, and its stamps are covered
  pub shown_lasts : (old : S) (new : DurableServer S M L) (root : RootView) (st : State) → Follows view old root st → StaysStored view old new.server → root.top ≤ new.marks.stored → (records : List (List ℕ)) → device.holds new.log records → IsOver records root → AreUpTo most_stamp records
      → CoversStamp new.marks records (view.last old) → (edits : List Edit) → HoldEdits records edits
      → AllByRecursion IsStoredEdit edits → HasRoomFor empty_journal edits → spelled_edits edits ≡ view.logged old ++ view.waiting old → (new.is_stopped ≡ true) ⊎ HaveBytes records (view.logged new.server) → Lasting new st
  shown_lasts old new root st f stays low records in_log over up_to covers edits held stored room all bytes =
      let spelled : spelled_edits (f.first ++ f.then) ≡ view.logged old ++ view.waiting old = laws.after f.first f.then ∙ (ap (λ (x : List ℕ). x ++ spelled_edits f.then) (sym f.logged_bytes) ∙ ap (λ (x : List ℕ). view.logged old ++ x) (sym f.waiting_bytes)) in
      let same : spelled_edits (f.first ++ f.then) ≡ spelled_edits edits = spelled ∙ sym all in
      record {
        kept = record {
          root = root;
          base = f.base;
          kept = (stays root f.base st.places f.kept, low);
          records = records;
          in_log = (in_log, bytes);
          over = over;
          stamps = up_to;
          edits = edits;
          held = held;
          stored = stored;
          room = room;
          shows = subst (λ (cells : Cells). ShowsCells cells (reopened st)) (laws.one (f.first ++ f.then) edits f.stored stored same f.base) f.shows;
          next = f.next;
          top = covers_low names new.marks records st.top (view.last old) f.top covers;
        };
      }

  -- a new root's state lasts if the log holds the root's name alone
  pub emptied_lasts : (old : S) (new : DurableServer S M L) (root : RootView) (st : State) → (put : HasNewRoot view root old st) → StaysStored view old new.server → root.top ≤ new.marks.stored → new.marks.stored ≤ most_stamp → view.last old ≤ new.marks.stored
      → device.holds new.log (named root ∷ []) → (new.is_stopped ≡ true) ⊎ ([] ≡ view.logged new.server) → Lasting new st
  emptied_lasts old new root st put stays low limit covered is bytes = record {
    kept = record {
      root = root;
      base = put.base;
      kept = (stays root put.base st.places put.kept, low);
      records = named root ∷ [];
      in_log = (is, elim bytes [ inl stopped ↦ inl stopped | inr none ↦ inr (record { edits = []; held = laws.named [] [] root.top (root_sum root) laws.none; stored = tt; spelled = none }) ]);
      over = names.more [] root.top (root_sum root);
      stamps = names.up_to [] kind.Root root.top most_stamp _ tt (omega (arith, low, limit));
      edits = [];
      held = laws.named [] [] root.top (root_sum root) laws.none;
      stored = tt;
      room = record { edits = omega arith; bytes = omega arith };
      shows = put.shows;
      next = put.next;
      top = inl (let top = put.top in omega (arith, top, covered));
    };
  }

  -- such a log agrees with a server whose journal is empty
  pub holds_root : (new : DurableServer S M L) (root : RootView) → root.top ≤ new.marks.stored → new.marks.stored ≤ most_stamp → new.marks.covered ≤ new.marks.stored → device.holds new.log (named root ∷ []) → view.logged new.server ≡ [] → HoldsLogged view device new root
  holds_root new root low limit covered one none = record {
    records = named root ∷ [];
    in_log = one;
    over = names.more [] root.top (root_sum root);
    stamps = names.up_to [] kind.Root root.top most_stamp _ tt (omega (arith, low, limit));
    low = low;
    limit = limit;
    covered = inl covered;
    edits = [];
    held = laws.named [] [] root.top (root_sum root) laws.none;
    stored = tt;
    room = record { edits = omega arith; bytes = omega arith };
    bytes = sym none;
  }

  -- the log still agrees with a server that counts the same edits as logged
  pub holds_on : (mid : DurableServer S M L) (next : S) (root : RootView) → HoldsLogged view device mid root → view.logged next ≡ view.logged mid.server → HoldsLogged view device (record mid { server = next }) root
  holds_on mid next root h same = record { records = h.records; in_log = h.in_log; over = h.over; stamps = h.stamps; low = h.low; limit = h.limit; covered = h.covered; edits = h.edits; held = h.held; stored = h.stored; room = h.room; bytes = h.bytes ∙ sym same }

  -- a server that counts the same edits as logged, and covers the same stamps, and whose mark may have risen
  pub record IsReadied (mid new : DurableServer S M L) : Type 0 where
    pub same : view.logged new.server ≡ view.logged mid.server
    pub rises : mid.marks.stored ≤ new.marks.stored
    pub limit : new.marks.stored ≤ most_stamp
    pub covered : new.marks.covered ≡ mid.marks.covered

  -- the log agrees with it
  pub holds_readied : (mid new : DurableServer S M L) → IsReadied mid new → (root : RootView) → (h : HoldsLogged view device mid root) → device.holds new.log h.records → HoldsLogged view device new root
  holds_readied mid new ready root h in_log = record {
    records = h.records;
    in_log = in_log;
    over = h.over;
    stamps = h.stamps;
    low = let low = h.low in let rises = ready.rises in omega (arith, low, rises);
    limit = ready.limit;
    covered = subst (λ (n : ℕ). CoversStamp new.marks h.records n) (sym ready.covered) (elim h.covered [ inl at ↦ inl (let rises = ready.rises in omega (arith, rises, at)) | inr at ↦ inr at ]);
    edits = h.edits;
    held = h.held;
    stored = h.stored;
    room = h.room;
    bytes = h.bytes ∙ sym ready.same;
  }

  -- after a root's name was appended the log agrees with it over each root that it is over
  holds_over : (mid new : DurableServer S M L) → IsReadied mid new → (old root next : RootView) → (h : HoldsLogged view device mid old) → next.top ≤ most_stamp → root.top ≤ new.marks.stored → device.holds new.log (h.records ++ named next ∷ []) → IsOver (h.records ++ named next ∷ []) root → HoldsLogged view device new root
  holds_over mid new ready old root next h small low in_log over = record {
    records = h.records ++ named next ∷ [];
    in_log = in_log;
    over = over;
    stamps = names.up_to h.records kind.Root next.top most_stamp _ h.stamps small;
    low = low;
    limit = ready.limit;
    covered = subst (λ (n : ℕ). CoversStamp new.marks (h.records ++ named next ∷ []) n) (sym ready.covered) (covers_more names mid.marks new.marks h.records (named next) mid.marks.covered ready.rises h.covered);
    edits = h.edits;
    held = laws.named h.records h.edits next.top (root_sum next) h.held;
    stored = h.stored;
    room = h.room;
    bytes = h.bytes ∙ sym ready.same;
  }

  -- the old root
  pub holds_old : (mid new : DurableServer S M L) → IsReadied mid new → (old next : RootView) → (h : HoldsLogged view device mid old) → next.top ≤ most_stamp → device.holds new.log (h.records ++ named next ∷ []) → HoldsLogged view device new old
  holds_old mid new ready old next h small in_log = holds_over mid new ready old old next h small (let low = h.low in let rises = ready.rises in omega (arith, low, rises)) in_log (names.stays h.records (named next) old.top (root_sum old) h.over)

  -- the new root
  pub holds_next : (mid new : DurableServer S M L) → IsReadied mid new → (old next : RootView) → (h : HoldsLogged view device mid old) → next.top ≤ new.marks.stored → device.holds new.log (h.records ++ named next ∷ []) → HoldsLogged view device new next
  holds_next mid new ready old next h low in_log = holds_over mid new ready old next next h (let limit = ready.limit in omega (arith, low, limit)) low in_log (names.more h.records next.top (root_sum next))

  pub has_bytes : (new : DurableServer S M L) (root : RootView) → (h : HoldsLogged view device new root) → HaveBytes h.records (view.logged new.server)
  has_bytes new root h = record { edits = h.edits; held = h.held; stored = h.stored; spelled = h.bytes }

  -- what is shown lasts while the log has all edits and covers the last stamp
  pub root_lasts : (new : DurableServer S M L) (root : RootView) (now : State) → Follows view new.server root now → HoldsLogged view device new root → view.waiting new.server ≡ [] → view.last new.server ≤ new.marks.covered → Lasting new now
  root_lasts new root now f h none covered =
      shown_lasts new.server new root now f (λ other base places is. is) h.low h.records h.in_log h.over h.stamps (covers_low names new.marks h.records (view.last new.server) new.marks.covered covered h.covered) h.edits h.held h.stored h.room (none_waits (spelled_edits h.edits) (view.logged new.server) (view.waiting new.server) none h.bytes) (inr (has_bytes new root h))

  pub still_lasts : (mid : DurableServer S M L) (next : S) (now : State) → StaysStored view mid.server next → view.logged next ≡ view.logged mid.server → Lasting mid now → Lasting (record mid { server = next }) now
  still_lasts mid next now stays same lasts = lasts_on mid (record mid { server = next }) now (stays, no_less mid.marks.stored) lasts lasts.kept.in_log.0 (elim lasts.kept.in_log.1 [ inl stopped ↦ inl stopped | inr has ↦ inr (same_bytes lasts.kept.records _ _ (sym same) has) ])

  -- a server that goes on with the same log
  pub logs_on : (old : DurableServer S M L) (next : S) → StaysRooted view old.server next → view.logged next ≡ view.logged old.server → Logs view device old → Logs view device (record old { server = next })
  logs_on old next stays same (inl stopped) = inl stopped
  logs_on old next stays same (inr h) = inr (h.0, stays.rooted h.0 h.1, holds_on old next h.0 h.2 same)

  -- a log that holds the same, of the same server
  pub held_still : (old : DurableServer S M L) (log : L) (root : RootView) → Keeps (device.holds old.log) (device.holds log) → HoldsLogged view device old root → HoldsLogged view device (record old { log = log }) root
  held_still old log root keeps h = record { records = h.records; in_log = keeps h.records h.in_log; over = h.over; stamps = h.stamps; low = h.low; limit = h.limit; covered = h.covered; edits = h.edits; held = h.held; stored = h.stored; room = h.room; bytes = h.bytes }

  pub lasts_still : (old : DurableServer S M L) (log : L) (st : State) → Keeps (device.holds old.log) (device.holds log) → Logs view device old → Lasting old st → Lasting (record old { log = log }) st × Logs view device (record old { log = log })
  lasts_still old log st keeps logs lasts = (
    lasts_on old (record old { log = log }) st (λ root base places is. is, no_less old.marks.stored) lasts (keeps lasts.kept.records lasts.kept.in_log.0) lasts.kept.in_log.1,
    elim logs [ inl stopped ↦ inl stopped | inr h ↦ inr (h.0, h.1, held_still old log h.0 keeps h.2) ],
  )

  -- the same server with other counts, over a log that holds the same records
  pub recounted : (old new : DurableServer S M L) → new.server ≡ old.server → new.marks ≡ old.marks → ((records : List (List ℕ)) → device.holds old.log records → device.holds new.log records) → new.is_stopped ≡ old.is_stopped → (shows : S → State → Type 0) → Settles (shown_by shows) Lasting (Logs view device) old new
  recounted old new server marks log stop shows = record {
    shown = λ st s. subst (λ (x : S). shows x st) (sym server) s;
    logged = λ now reached s logs. elim logs [
      | inl stopped ↦ inl (stop ∙ stopped)
      | inr h ↦ inr (
        h.0,
        subst (λ (x : S). view.is_rooted x h.0) (sym server) h.1,
        record {
          records = h.2.records;
          in_log = log h.2.records h.2.in_log;
          over = h.2.over;
          stamps = h.2.stamps;
          low = subst (λ (m : MarkView M). h.0.top ≤ m.stored) (sym marks) h.2.low;
          limit = subst (λ (m : MarkView M). m.stored ≤ most_stamp) (sym marks) h.2.limit;
          covered = subst (λ (m : MarkView M). CoversStamp m h.2.records m.covered) (sym marks) h.2.covered;
          edits = h.2.edits;
          held = h.2.held;
          stored = h.2.stored;
          room = h.2.room;
          bytes = h.2.bytes ∙ ap view.logged (sym server);
        },
      )
    ];
    lasting = λ now reached s logs st lasts. inl (lasts_on old new st (subst (λ (x : S). StaysStored view old.server x) (sym server) (λ root base places is. is), subst (λ (m : MarkView M). old.marks.stored ≤ m.stored) (sym marks) (no_less old.marks.stored)) lasts (log lasts.kept.records lasts.kept.in_log.0)
        (elim lasts.kept.in_log.1 [ inl stopped ↦ inl (stop ∙ stopped) | inr has ↦ inr (same_bytes lasts.kept.records _ _ (ap view.logged (sym server)) has) ]));
  }
