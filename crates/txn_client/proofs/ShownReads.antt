-- The machine's reads, if the cell map shows its state.
use Rattle.std.proofs.Common.{◌≡◌, ℕ, zero, suc, ◌+◌, ◌<◌, ◌≤◌, ◌^◌, ◌⊎◌, inl, inr, Bool, true, List, ◌∷◌, Option, Some, None, refl, sym, ap, subst, ◌∙◌, arith}
use Rattle.std.proofs.lemmas.Option.{none-some}
use Rattle.cell_key.specs.Names.{IsRow, IsFamily}
use Rattle.cell_key.specs.Cells.{Cells}
use Rattle.cell_key.specs.declared.keys.Qualifier.TheVariants.{Data, Lock, Write}
use Rattle.cell_key.specs.Columns.{NamesWrite}
use Rattle.cell_key.proofs.RecordTexts.{names_of, one_write}
use Rattle.cell_key.specs.declared.columns.WriteKind.TheVariants as write
use Rattle.si_model.specs.Sets.{◌∈◌}
use Rattle.si_model.specs.Machine as step
use Rattle.si_model.specs.Machine.{State, Value, Change, Writes, Range, Item, Valued, Locked, Unsent, Reach, ToEnd, UpTo, Open, Commit, Step, accepts, tells, Get, ScanFrom, Answered, Pending, Scanned, InPhase, Gives, Names, Marked, IsSnapshot}
use Rattle.si_model.specs.Servers.{IsReachedByServers}
use Rattle.si_model.specs.declared.replies.Cell.{Cell}
use Rattle.si_model.proofs.Tools.{same_entry}
use Rattle.si_model.proofs.Steps.{servers_sound}
use Rattle.si_model.proofs.Floors.{servers_floors}
use Rattle.si_model.proofs.Bounds.{servers_bounds}
use Rattle.si_model.proofs.Goes.{goes}
use Rattle.si_model.proofs.Acceptable.{get_ok, scan_ok}
use Rattle.si_model.specs.ShowsCells.{at, kind_of_change, IsForgotten, IsThere, NamesCommit, ShowsCells}
use Rattle.si_model.proofs.Decided.{snapshot_of}
use Rattle.si_model.proofs.ShownKept.{shows_beside}
use Rattle.si_model.specs.Reads.{IsClear, IsLast}
use Rattle.si_model.specs.Scans.{HasFamilies, HasRows, IsBetween, IsSaid, IsScanned, item_length, most_items}
use Rattle.si_model.proofs.ChangeKinds.{is_deletion, is_set}
use Rattle.txn_client.specs.Reads.{ReadsValue, ReadsDeletion, IsDamaged}
use Rattle.txn_client.specs.Scans.{IsReadAs, IsScanCount, IsScanFound, Stops}
use Rattle.txn_client.proofs.Scanned.{looked_between}

not_above : (m n : ℕ) → ¬ (n < m) → m ≤ n
not_above m n h = omega arith

not_below : (m n : ℕ) → ¬ (m ≤ n) → n < m
not_below m n h = omega arith

module _ (cells : Cells) (st : State) (reached : IsReachedByServers st) (shown : ShowsCells cells st) where
  start_low : (a : Commit) → a ∈ st.commits → a.start < 256 ^ 8
  start_low a i =
      let low = (servers_sound reached).start_low a.start a.writes ((servers_sound reached).fair a i).wrote in
      let top = (servers_bounds reached).top in
      omega arith

  -- below a session's start and without locks, each commit of a cell has its record or a later one, or is forgotten
  latest : (x : Cell) (s : ℕ) → IsClear cells x Lock 0 s → st.floor ≤ s → (n : ℕ) (a : Commit) → a ∈ st.commits → Names a.writes x → a.stamp ≤ s → s < a.stamp + n
      → (b : Commit) × (b ∈ st.commits) × (a.stamp ≤ b.stamp) × (b.stamp ≤ s) × (IsThere cells x Write b.stamp ⊎ IsForgotten cells st x b)
  latest x s clear floor zero a i names le h = absurd (omega arith)
  latest x s clear floor (suc n) a i names le h = elim (shown.commits a i x names unmarked) [
    | inl there ↦ (a, i, omega arith, le, inl there)
    | inr lack ↦ elim lack [
      | inl (b, j, named, lt, cleared) ↦ let low = cleared.0 in let r = latest x s clear floor n b j named (omega arith) (omega arith) in let up = r.2 in (r.0, r.1, omega arith, r.3, r.4)
      | inr f ↦ (a, i, omega arith, le, inr f)
    ]
  ]
    where
      unmarked : ¬ Marked st x a.start
      unmarked m = let before = ((servers_sound reached).fair a i).later in none-some _ (sym (clear a.start (omega arith) (omega arith)) ∙ (shown.marks x a.start m).lock)

  -- no commit is between the last record and the start
  greatest : (x : Cell) (s c : ℕ) (text : List ℕ) → IsClear cells x Lock 0 s → st.floor ≤ s → IsLast cells x s c text → (b : Commit) → b ∈ st.commits → Names b.writes x → b.stamp ≤ s → b.stamp ≤ c
  greatest x s c text clear floor last b i names le =
      let m = latest x s clear floor (s + 1) b i names le (omega arith) in
      let up = m.2 in
      let late : m.0.stamp ≤ c = elim m.4 [
        | inl there ↦ not_above m.0.stamp c (λ lt. none-some _ (sym (last.last m.0.stamp lt m.3) ∙ there.1))
        | inr f ↦ not_above m.0.stamp c (λ lt. none-some _ (sym (f.oldest c lt) ∙ last.there))
      ] in
      omega arith

  -- the names in a record
  names_it : (x : Cell) (c : ℕ) (text : List ℕ) → (k : NamesCommit cells st x c text) → NamesWrite text k.commit.start (kind_of_change k.change)
  names_it x c text k = names_of k.commit.start (kind_of_change k.change) text (start_low k.commit k.is_in) k.is_text

  -- there is a lock at or below the start
  pub waits_at : (x : Cell) (s t : ℕ) → IsRow x.row → IsFamily x.family → InPhase st s Open → t ≤ s → IsThere cells x Lock t → Step st (Get s x) (Pending t) st
  waits_at x s t row family h le lock = accepts (get_ok h row family) (tells (step.waits h (shown.locks x t lock.0 lock.1) le))

  above : (x : Cell) (s : ℕ) → IsClear cells x Lock 0 s → (t : ℕ) → Marked st x t → s < t
  above x s clear t m = not_below t s (λ le. none-some _ (sym (clear t (omega arith) le) ∙ (shown.marks x t m).lock))

  abbrev pub after_read : ℕ → Cell → Option Value → State
  after_read s x v = record st { reads = record { start = s; cell = x; answer = v } ∷ st.reads }

  answers : (x : Cell) (s : ℕ) (v : Option Value) → IsRow x.row → IsFamily x.family → InPhase st s Open → IsClear cells x Lock 0 s → IsSnapshot st.commits s x v
      → Step st (Get s x) (Answered v) (after_read s x v) × ShowsCells cells (after_read s x v)
  answers x s v row family h clear snapshot =
      let k = accepts (get_ok h row family) (step.reads h (above x s clear) snapshot) in
      (k, shows_beside cells st (after_read s x v) (goes reached k) shown (λ y u m. m) (λ y u m. m) refl)

  -- nothing was written, or the last record was a deletion's, and is forgotten
  shows_nothing : (x : Cell) (s : ℕ) → InPhase st s Open → IsClear cells x Lock 0 s → IsClear cells x Write 0 s → IsSnapshot st.commits s x None
  shows_nothing x s h clear none = snapshot (snapshot_of st.commits s x).1
    where
      snapshot : {answer : Option Value} → IsSnapshot st.commits s x answer → IsSnapshot st.commits s x None
      snapshot (inr (e, never)) = inr (refl, never)
      snapshot {answer} (inl (a, i, gives, low, most)) =
          let r = latest x s clear ((servers_floors reached).above s Open h) (s + 1) a i (answer, gives) low (omega arith) in
          let up = r.2 in
          elim r.4 [
            | inl there ↦ absurd (none-some _ (sym (none r.0.stamp (omega arith) r.3) ∙ there.1))
            | inr f ↦ inl (r.0, r.1, f.deletes, r.3, λ b j names le. let k = most b j names le in omega arith)
          ]

  pub reads_nothing : (x : Cell) (s : ℕ) → IsRow x.row → IsFamily x.family → InPhase st s Open → IsClear cells x Lock 0 s → IsClear cells x Write 0 s
      → Step st (Get s x) (Answered None) (after_read s x None) × ShowsCells cells (after_read s x None)
  reads_nothing x s row family h clear none = answers x s None row family h clear (shows_nothing x s h clear none)

  -- the last write record names the snapshot
  shows_last : (x : Cell) (s c : ℕ) (text : List ℕ) (v : Change) → InPhase st s Open → IsClear cells x Lock 0 s → (last : IsLast cells x s c text)
      → Gives (shown.records x c text last.there).commit.writes x v → IsSnapshot st.commits s x v
  shows_last x s c text v h clear last gives =
      let k = shown.records x c text last.there in
      let e = k.stamp in
      let low = last.low in
      inl (
        k.commit,
        k.is_in,
        gives,
        omega arith,
        λ b i names le. let late = greatest x s c text clear ((servers_floors reached).above s Open h) last b i names le in omega arith,
      )

  shows_value : (x : Cell) (s : ℕ) (v : Value) → InPhase st s Open → ReadsValue cells x s v → IsSnapshot st.commits s x (Some v)
  shows_value x s v h r = shows_last x s r.stamp r.text (Some v) h r.unlocked r.is_last gives
    where
      k : NamesCommit cells st x r.stamp r.text
      k = shown.records x r.stamp r.text r.is_last.there

      data_at : at cells x Data k.commit.start ≡ Some v
      data_at = ap (at cells x Data) (one_write r.text k.commit.start r.start (kind_of_change k.change) write.Set (names_it x r.stamp r.text k) r.names).0 ∙ r.data_is

      gives : Gives k.commit.writes x (Some v)
      gives =
          let g = shown.given x k.commit.start v data_at in
          subst (λ (ws : Writes). Gives ws x (Some v)) (same_entry st.begun k.commit.start g.ws k.commit.writes g.wrote ((servers_sound reached).fair k.commit k.is_in).wrote) g.gives

  pub reads_value : (x : Cell) (s : ℕ) (v : Value) → IsRow x.row → IsFamily x.family → InPhase st s Open → ReadsValue cells x s v
      → Step st (Get s x) (Answered (Some v)) (after_read s x (Some v)) × ShowsCells cells (after_read s x (Some v))
  reads_value x s v row family h r = answers x s (Some v) row family h r.unlocked (shows_value x s v h r)

  shows_deletion : (x : Cell) (s : ℕ) → InPhase st s Open → IsClear cells x Lock 0 s → ReadsDeletion cells x s → IsSnapshot st.commits s x None
  shows_deletion x s h clear r = shows_last x s r.stamp r.text None h clear r.is_last (subst (λ (v : Change). Gives k.commit.writes x v) deletes k.gives)
    where
      k : NamesCommit cells st x r.stamp r.text
      k = shown.records x r.stamp r.text r.is_last.there

      deletes : k.change ≡ None
      deletes = is_deletion k.change (one_write r.text k.commit.start r.start (kind_of_change k.change) write.Delete (names_it x r.stamp r.text k) r.names).1

  pub reads_deletion : (x : Cell) (s : ℕ) → IsRow x.row → IsFamily x.family → InPhase st s Open → IsClear cells x Lock 0 s → ReadsDeletion cells x s
      → Step st (Get s x) (Answered None) (after_read s x None) × ShowsCells cells (after_read s x None)
  reads_deletion x s row family h clear r = answers x s None row family h clear (shows_deletion x s h clear r)

  -- ---- the answers of a scan

  said_so : (x : Cell) (s : ℕ) (keys_only : Bool) → InPhase st s Open → (said : Option Item) → IsReadAs cells s keys_only x said → IsSaid st s x said
  said_so x s keys_only h None found = (above x s found.0, elim found.1 [ inl none ↦ shows_nothing x s h found.0 none | inr deleted ↦ shows_deletion x s h found.0 deleted ])
  said_so x s keys_only h (Some (Valued v)) read = (above x s read.0.unlocked, shows_value x s v h read.0)
  said_so x s keys_only h (Some (Locked t)) lock = (shown.locks x t lock.1.0 lock.1.1, lock.0)
  said_so x s keys_only h (Some Unsent) (v, read, unsent) = (above x s read.unlocked, (v, shows_value x s v h read))

  is_scanned : (s : ℕ) (range : Range) (keys_only : Bool) (n : ℕ) (items : List (Cell × Item)) (reach : Reach) → InPhase st s Open → IsScanFound cells s range keys_only n items reach → IsScanned st s range keys_only n items reach
  is_scanned s range keys_only n items reach h found = record {
    said = λ x covers said says. said_so x s keys_only h said (found.said x covers said says);
    covered = found.covered;
    rises = found.rises;
    few = found.few;
    stops = stops reach found.stops;
    unsent = λ keys x v i. (found.said x (found.covered x (Valued v) i) (Some (Valued v)) i).1 (inl keys);
    withheld = λ x i. withheld x (found.said x (found.covered x Unsent i) (Some Unsent) i);
  }
    where
      withheld : (x : Cell) → IsReadAs cells s keys_only x (Some Unsent) → (keys_only ≡ true) ⊎ ((v : Value) × IsSnapshot st.commits s x (Some v) × (most_items < item_length (x, Valued v)))
      withheld x (v, read, why) = elim why [ inl keys ↦ inl keys | inr long ↦ inr (v, shows_value x s v h read, long) ]

      stops : (reach : Reach) → Stops cells s range keys_only n items reach → (last : Cell) → reach ≡ UpTo last → IsBetween range last
      stops ToEnd why last is = let f : ⊥ = cc in absurd f
      stops (UpTo x) (k, some, few, looks, why) last is = let same : x ≡ last = cc in subst (λ (y : Cell). IsBetween range y) same (looked_between cells range k (Some x) looks some x refl)

  abbrev pub after_scan : ℕ → Range → List (Cell × Item) → Reach → State
  after_scan s range items reach = record st { scans = record { start = s; range = range; reach = reach; items = items } ∷ st.scans }

  pub scans : (s : ℕ) (range : Range) (keys_only : Bool) (n : ℕ) (items : List (Cell × Item)) (reach : Reach) → InPhase st s Open → HasRows range → HasFamilies range → IsScanCount n → IsScanFound cells s range keys_only n items reach
      → Step st (ScanFrom s range keys_only n) (Scanned items reach) (after_scan s range items reach) × ShowsCells cells (after_scan s range items reach)
  scans s range keys_only n items reach h rows families count found =
      let k = accepts (scan_ok h rows families count.0 count.1) (step.scans h (is_scanned s range keys_only n items reach h found)) in
      (k, shows_beside cells st (after_scan s range items reach) (goes reached k) shown (λ y u m. m) (λ y u m. m) refl)

  -- shown cells aren't damaged
  pub undamaged : (x : Cell) (s : ℕ) → ¬ IsDamaged cells x s
  undamaged x s (c, text, last, fault) = elim fault [
    | inl never ↦ never k.commit.start (kind_of_change k.change) (names_it x c text k)
    | inr (t, names, gone) ↦
        let same = one_write text k.commit.start t (kind_of_change k.change) write.Set (names_it x c text k) names in
        let given = is_set k.change same.1 in
        none-some _ (sym gone ∙ (ap (at cells x Data) (sym same.0) ∙ (k.value given.0 given.1).1))
  ]
    where
      k : NamesCommit cells st x c text
      k = shown.records x c text last.there
