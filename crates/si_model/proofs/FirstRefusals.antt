-- When each refusal is the first that applies.
use Rattle.std.proofs.Common.{◌≡◌, ◌≢◌, ℕ, ◌<◌, ◌≤◌, Bool, List, [], length, Some, None, ◌⊎◌, inl, inr, refl, arith, lit<}
use Rattle.std.specs.FinMap.{get, len}
use Rattle.cell_key.specs.Names.{IsRow, IsFamily}
use Rattle.cell_key.specs.Refusals.{refusal_number}
use Rattle.cell_key.specs.declared.keys.Qualifier.{Qualifier}
use Rattle.cell_key.specs.declared.refusals.Refusal.{Refusal}
use Rattle.cell_key.specs.declared.refusals.Refusal.TheVariants.{UnknownSession, WrongPhase, BadRow, BadColumn, BadValue, TooManyWrites, TooManySessions, EmptyCommit, UnknownCleaner, UnknownCollector, UnknownTablet, BadSplit, UnknownServer, BadCount}
use Rattle.si_model.specs.declared.replies.Cell.{Cell}
use Rattle.si_model.specs.Machine.{State, Value, Writes, Phase, Open, InPhase, Wrote, Names, Range, Marked, HasTablet, IsEnd, Applies, Refuses}
use Rattle.si_model.specs.Machine.{most_sessions, most_cleaners, most_collectors, most_tablets, most_servers, most_writes, most_value, most_visits, most_scanned}
use Rattle.si_model.specs.Machine.{Begin, Get, Set, Delete, ScanFrom, Advance, Stop, CleanBegin, CleanStep, CollectBegin, CollectStep, Minor, Merge, Major, Split, Move, Raw}
use Rattle.si_model.specs.Refusing.{begin_full, get_unknown, get_late, get_row, get_family, set_unknown, set_late, set_row, set_family, set_long, set_full, delete_unknown, delete_late, delete_row, delete_family, delete_full, scan_unknown, scan_late, scan_row, scan_family, scan_none, scan_many, advance_unknown, advance_empty, stop_unknown, clean_row, clean_family, clean_full, clean_unknown, collect_full, collect_unknown, collect_none, collect_many, minor_unknown, merge_unknown, merge_few, major_unknown, split_row, split_end, split_full, move_unknown, move_server, raw_row, raw_family}
use Rattle.si_model.specs.Refusing.Refuses.{applies_first}
use Rattle.si_model.specs.Scans.{HasRows, HasFamilies}
use Rattle.si_model.proofs.Tools.{same_entry}
use Rattle.si_model.proofs.Acceptable.{no_entry}

pub begin_full_first : {st : State} → (full : most_sessions ≤ len st.active) → Refuses st Begin TooManySessions
begin_full_first {st} full = applies_first (record { applies = begin_full full; first = first })
  where
    first : (m : Refusal) → Applies st Begin m → (m ≡ TooManySessions) ⊎ (refusal_number TooManySessions < refusal_number m)
    first m (begin_full f) = inl refl

pub get_unknown_first : {st : State} {s : ℕ} {x : Cell} → (e : get st.active s ≡ None) → Refuses st (Get s x) UnknownSession
get_unknown_first {st} {s} {x} e = applies_first (record { applies = get_unknown e; first = first })
  where
    first : (m : Refusal) → Applies st (Get s x) m → (m ≡ UnknownSession) ⊎ (refusal_number UnknownSession < refusal_number m)
    first m (get_unknown f) = inl refl
    first m (get_late g late) = inr (lit< tt)
    first m (get_row bad) = inr (lit< tt)
    first m (get_family bad) = inr (lit< tt)

pub get_late_first : {st : State} {s : ℕ} {x : Cell} → (p : Phase) → (h : InPhase st s p) → (late : p ≢ Open) → Refuses st (Get s x) WrongPhase
get_late_first {st} {s} {x} p h late = applies_first (record { applies = get_late h late; first = first })
  where
    first : (m : Refusal) → Applies st (Get s x) m → (m ≡ WrongPhase) ⊎ (refusal_number WrongPhase < refusal_number m)
    first m (get_unknown e) = absurd (no_entry st.active s p h e)
    first m (get_late g l) = inl refl
    first m (get_row bad) = inr (lit< tt)
    first m (get_family bad) = inr (lit< tt)

pub get_row_first : {st : State} {s : ℕ} {x : Cell} → (h : InPhase st s Open) → (bad : ¬ IsRow x.row) → Refuses st (Get s x) BadRow
get_row_first {st} {s} {x} h bad = applies_first (record { applies = get_row bad; first = first })
  where
    first : (m : Refusal) → Applies st (Get s x) m → (m ≡ BadRow) ⊎ (refusal_number BadRow < refusal_number m)
    first m (get_unknown e) = absurd (no_entry st.active s Open h e)
    first m (get_late {p = p} g late) = absurd (late (same_entry st.active s p Open g h))
    first m (get_row b) = inl refl
    first m (get_family b) = inr (lit< tt)

pub get_family_first : {st : State} {s : ℕ} {x : Cell} → (h : InPhase st s Open) → (row : IsRow x.row) → (bad : ¬ IsFamily x.family) → Refuses st (Get s x) BadColumn
get_family_first {st} {s} {x} h row bad = applies_first (record { applies = get_family bad; first = first })
  where
    first : (m : Refusal) → Applies st (Get s x) m → (m ≡ BadColumn) ⊎ (refusal_number BadColumn < refusal_number m)
    first m (get_unknown e) = absurd (no_entry st.active s Open h e)
    first m (get_late {p = p} g late) = absurd (late (same_entry st.active s p Open g h))
    first m (get_row b) = absurd (b row)
    first m (get_family b) = inl refl

pub set_unknown_first : {st : State} {s : ℕ} {x : Cell} {v : Value} → (e : get st.active s ≡ None) → Refuses st (Set s x v) UnknownSession
set_unknown_first {st} {s} {x} {v} e = applies_first (record { applies = set_unknown e; first = first })
  where
    first : (m : Refusal) → Applies st (Set s x v) m → (m ≡ UnknownSession) ⊎ (refusal_number UnknownSession < refusal_number m)
    first m (set_unknown f) = inl refl
    first m (set_late {p = p} g late) = inr (lit< tt)
    first m (set_row b) = inr (lit< tt)
    first m (set_family b) = inr (lit< tt)
    first m (set_long l) = inr (lit< tt)
    first m (set_full u n f) = inr (lit< tt)

pub set_late_first : {st : State} {s : ℕ} {x : Cell} {v : Value} → (p : Phase) → (h : InPhase st s p) → (late : p ≢ Open) → Refuses st (Set s x v) WrongPhase
set_late_first {st} {s} {x} {v} p h late = applies_first (record { applies = set_late h late; first = first })
  where
    first : (m : Refusal) → Applies st (Set s x v) m → (m ≡ WrongPhase) ⊎ (refusal_number WrongPhase < refusal_number m)
    first m (set_unknown e) = absurd (no_entry st.active s p h e)
    first m (set_late g l) = inl refl
    first m (set_row b) = inr (lit< tt)
    first m (set_family b) = inr (lit< tt)
    first m (set_long l) = inr (lit< tt)
    first m (set_full u n f) = inr (lit< tt)

pub set_row_first : {st : State} {s : ℕ} {x : Cell} {v : Value} → (h : InPhase st s Open) → (bad : ¬ IsRow x.row) → Refuses st (Set s x v) BadRow
set_row_first {st} {s} {x} {v} h bad = applies_first (record { applies = set_row bad; first = first })
  where
    first : (m : Refusal) → Applies st (Set s x v) m → (m ≡ BadRow) ⊎ (refusal_number BadRow < refusal_number m)
    first m (set_unknown e) = absurd (no_entry st.active s Open h e)
    first m (set_late {p = p} g late) = absurd (late (same_entry st.active s p Open g h))
    first m (set_row b) = inl refl
    first m (set_family b) = inr (lit< tt)
    first m (set_long l) = inr (lit< tt)
    first m (set_full u n f) = inr (lit< tt)

pub set_family_first : {st : State} {s : ℕ} {x : Cell} {v : Value} → (h : InPhase st s Open) → (row : IsRow x.row) → (bad : ¬ IsFamily x.family) → Refuses st (Set s x v) BadColumn
set_family_first {st} {s} {x} {v} h row bad = applies_first (record { applies = set_family bad; first = first })
  where
    first : (m : Refusal) → Applies st (Set s x v) m → (m ≡ BadColumn) ⊎ (refusal_number BadColumn < refusal_number m)
    first m (set_unknown e) = absurd (no_entry st.active s Open h e)
    first m (set_late {p = p} g late) = absurd (late (same_entry st.active s p Open g h))
    first m (set_row b) = absurd (b row)
    first m (set_family b) = inl refl
    first m (set_long l) = inr (lit< tt)
    first m (set_full u n f) = inr (lit< tt)

pub set_long_first : {st : State} {s : ℕ} {x : Cell} {v : Value} → (h : InPhase st s Open) → (row : IsRow x.row) → (family : IsFamily x.family) → (long : most_value < length v) → Refuses st (Set s x v) BadValue
set_long_first {st} {s} {x} {v} h row family long = applies_first (record { applies = set_long long; first = first })
  where
    first : (m : Refusal) → Applies st (Set s x v) m → (m ≡ BadValue) ⊎ (refusal_number BadValue < refusal_number m)
    first m (set_unknown e) = absurd (no_entry st.active s Open h e)
    first m (set_late {p = p} g late) = absurd (late (same_entry st.active s p Open g h))
    first m (set_row b) = absurd (b row)
    first m (set_family b) = absurd (b family)
    first m (set_long l) = inl refl
    first m (set_full u n f) = inr (lit< tt)

pub set_full_first : {st : State} {s : ℕ} {x : Cell} {v : Value} → (h : InPhase st s Open) → (row : IsRow x.row) → (family : IsFamily x.family) → (short : length v ≤ most_value) → (ws : Writes) → (w : Wrote st s ws) → (none : ¬ Names ws x) → (full : most_writes ≤ length ws) → Refuses st (Set s x v) TooManyWrites
set_full_first {st} {s} {x} {v} h row family short ws w none full = applies_first (record { applies = set_full w none full; first = first })
  where
    first : (m : Refusal) → Applies st (Set s x v) m → (m ≡ TooManyWrites) ⊎ (refusal_number TooManyWrites < refusal_number m)
    first m (set_unknown e) = absurd (no_entry st.active s Open h e)
    first m (set_late {p = p} g late) = absurd (late (same_entry st.active s p Open g h))
    first m (set_row b) = absurd (b row)
    first m (set_family b) = absurd (b family)
    first m (set_long l) = absurd (omega arith)
    first m (set_full u n f) = inl refl

pub delete_unknown_first : {st : State} {s : ℕ} {x : Cell} → (e : get st.active s ≡ None) → Refuses st (Delete s x) UnknownSession
delete_unknown_first {st} {s} {x} e = applies_first (record { applies = delete_unknown e; first = first })
  where
    first : (m : Refusal) → Applies st (Delete s x) m → (m ≡ UnknownSession) ⊎ (refusal_number UnknownSession < refusal_number m)
    first m (delete_unknown f) = inl refl
    first m (delete_late {p = p} g late) = inr (lit< tt)
    first m (delete_row b) = inr (lit< tt)
    first m (delete_family b) = inr (lit< tt)
    first m (delete_full u n f) = inr (lit< tt)

pub delete_late_first : {st : State} {s : ℕ} {x : Cell} → (p : Phase) → (h : InPhase st s p) → (late : p ≢ Open) → Refuses st (Delete s x) WrongPhase
delete_late_first {st} {s} {x} p h late = applies_first (record { applies = delete_late h late; first = first })
  where
    first : (m : Refusal) → Applies st (Delete s x) m → (m ≡ WrongPhase) ⊎ (refusal_number WrongPhase < refusal_number m)
    first m (delete_unknown e) = absurd (no_entry st.active s p h e)
    first m (delete_late g l) = inl refl
    first m (delete_row b) = inr (lit< tt)
    first m (delete_family b) = inr (lit< tt)
    first m (delete_full u n f) = inr (lit< tt)

pub delete_row_first : {st : State} {s : ℕ} {x : Cell} → (h : InPhase st s Open) → (bad : ¬ IsRow x.row) → Refuses st (Delete s x) BadRow
delete_row_first {st} {s} {x} h bad = applies_first (record { applies = delete_row bad; first = first })
  where
    first : (m : Refusal) → Applies st (Delete s x) m → (m ≡ BadRow) ⊎ (refusal_number BadRow < refusal_number m)
    first m (delete_unknown e) = absurd (no_entry st.active s Open h e)
    first m (delete_late {p = p} g late) = absurd (late (same_entry st.active s p Open g h))
    first m (delete_row b) = inl refl
    first m (delete_family b) = inr (lit< tt)
    first m (delete_full u n f) = inr (lit< tt)

pub delete_family_first : {st : State} {s : ℕ} {x : Cell} → (h : InPhase st s Open) → (row : IsRow x.row) → (bad : ¬ IsFamily x.family) → Refuses st (Delete s x) BadColumn
delete_family_first {st} {s} {x} h row bad = applies_first (record { applies = delete_family bad; first = first })
  where
    first : (m : Refusal) → Applies st (Delete s x) m → (m ≡ BadColumn) ⊎ (refusal_number BadColumn < refusal_number m)
    first m (delete_unknown e) = absurd (no_entry st.active s Open h e)
    first m (delete_late {p = p} g late) = absurd (late (same_entry st.active s p Open g h))
    first m (delete_row b) = absurd (b row)
    first m (delete_family b) = inl refl
    first m (delete_full u n f) = inr (lit< tt)

pub delete_full_first : {st : State} {s : ℕ} {x : Cell} → (h : InPhase st s Open) → (row : IsRow x.row) → (family : IsFamily x.family) → (ws : Writes) → (w : Wrote st s ws) → (none : ¬ Names ws x) → (full : most_writes ≤ length ws) → Refuses st (Delete s x) TooManyWrites
delete_full_first {st} {s} {x} h row family ws w none full = applies_first (record { applies = delete_full w none full; first = first })
  where
    first : (m : Refusal) → Applies st (Delete s x) m → (m ≡ TooManyWrites) ⊎ (refusal_number TooManyWrites < refusal_number m)
    first m (delete_unknown e) = absurd (no_entry st.active s Open h e)
    first m (delete_late {p = p} g late) = absurd (late (same_entry st.active s p Open g h))
    first m (delete_row b) = absurd (b row)
    first m (delete_family b) = absurd (b family)
    first m (delete_full u n f) = inl refl

pub scan_unknown_first : {st : State} {s n : ℕ} {range : Range} {keys_only : Bool} → (e : get st.active s ≡ None) → Refuses st (ScanFrom s range keys_only n) UnknownSession
scan_unknown_first {st} {s} {n} {range} {keys_only} e = applies_first (record { applies = scan_unknown e; first = first })
  where
    first : (m : Refusal) → Applies st (ScanFrom s range keys_only n) m → (m ≡ UnknownSession) ⊎ (refusal_number UnknownSession < refusal_number m)
    first m (scan_unknown f) = inl refl
    first m (scan_late {p = q} g l) = inr (lit< tt)
    first m (scan_row b) = inr (lit< tt)
    first m (scan_family b) = inr (lit< tt)
    first m (scan_none c) = inr (lit< tt)
    first m (scan_many c) = inr (lit< tt)

pub scan_late_first : {st : State} {s n : ℕ} {range : Range} {keys_only : Bool} → (p : Phase) → (h : InPhase st s p) → (late : p ≢ Open) → Refuses st (ScanFrom s range keys_only n) WrongPhase
scan_late_first {st} {s} {n} {range} {keys_only} p h late = applies_first (record { applies = scan_late h late; first = first })
  where
    first : (m : Refusal) → Applies st (ScanFrom s range keys_only n) m → (m ≡ WrongPhase) ⊎ (refusal_number WrongPhase < refusal_number m)
    first m (scan_unknown f) = absurd (no_entry st.active s p h f)
    first m (scan_late {p = q} g l) = inl refl
    first m (scan_row b) = inr (lit< tt)
    first m (scan_family b) = inr (lit< tt)
    first m (scan_none c) = inr (lit< tt)
    first m (scan_many c) = inr (lit< tt)

pub scan_row_first : {st : State} {s n : ℕ} {range : Range} {keys_only : Bool} → (h : InPhase st s Open) → (bad : ¬ HasRows range) → Refuses st (ScanFrom s range keys_only n) BadRow
scan_row_first {st} {s} {n} {range} {keys_only} h bad = applies_first (record { applies = scan_row bad; first = first })
  where
    first : (m : Refusal) → Applies st (ScanFrom s range keys_only n) m → (m ≡ BadRow) ⊎ (refusal_number BadRow < refusal_number m)
    first m (scan_unknown f) = absurd (no_entry st.active s Open h f)
    first m (scan_late {p = q} g l) = absurd (l (same_entry st.active s q Open g h))
    first m (scan_row b) = inl refl
    first m (scan_family b) = inr (lit< tt)
    first m (scan_none c) = inr (lit< tt)
    first m (scan_many c) = inr (lit< tt)

pub scan_family_first : {st : State} {s n : ℕ} {range : Range} {keys_only : Bool} → (h : InPhase st s Open) → (rows : HasRows range) → (bad : ¬ HasFamilies range) → Refuses st (ScanFrom s range keys_only n) BadColumn
scan_family_first {st} {s} {n} {range} {keys_only} h rows bad = applies_first (record { applies = scan_family bad; first = first })
  where
    first : (m : Refusal) → Applies st (ScanFrom s range keys_only n) m → (m ≡ BadColumn) ⊎ (refusal_number BadColumn < refusal_number m)
    first m (scan_unknown f) = absurd (no_entry st.active s Open h f)
    first m (scan_late {p = q} g l) = absurd (l (same_entry st.active s q Open g h))
    first m (scan_row b) = absurd (b rows)
    first m (scan_family b) = inl refl
    first m (scan_none c) = inr (lit< tt)
    first m (scan_many c) = inr (lit< tt)

pub scan_none_first : {st : State} {s n : ℕ} {range : Range} {keys_only : Bool} → (h : InPhase st s Open) → (rows : HasRows range) → (families : HasFamilies range) → (none : n < 1) → Refuses st (ScanFrom s range keys_only n) BadCount
scan_none_first {st} {s} {n} {range} {keys_only} h rows families none = applies_first (record { applies = scan_none none; first = first })
  where
    first : (m : Refusal) → Applies st (ScanFrom s range keys_only n) m → (m ≡ BadCount) ⊎ (refusal_number BadCount < refusal_number m)
    first m (scan_unknown f) = absurd (no_entry st.active s Open h f)
    first m (scan_late {p = q} g l) = absurd (l (same_entry st.active s q Open g h))
    first m (scan_row b) = absurd (b rows)
    first m (scan_family b) = absurd (b families)
    first m (scan_none c) = inl refl
    first m (scan_many c) = inl refl

pub scan_many_first : {st : State} {s n : ℕ} {range : Range} {keys_only : Bool} → (h : InPhase st s Open) → (rows : HasRows range) → (families : HasFamilies range) → (many : most_scanned < n) → Refuses st (ScanFrom s range keys_only n) BadCount
scan_many_first {st} {s} {n} {range} {keys_only} h rows families many = applies_first (record { applies = scan_many many; first = first })
  where
    first : (m : Refusal) → Applies st (ScanFrom s range keys_only n) m → (m ≡ BadCount) ⊎ (refusal_number BadCount < refusal_number m)
    first m (scan_unknown f) = absurd (no_entry st.active s Open h f)
    first m (scan_late {p = q} g l) = absurd (l (same_entry st.active s q Open g h))
    first m (scan_row b) = absurd (b rows)
    first m (scan_family b) = absurd (b families)
    first m (scan_none c) = inl refl
    first m (scan_many c) = inl refl

pub advance_unknown_first : {st : State} {s : ℕ} → (e : get st.active s ≡ None) → Refuses st (Advance s) UnknownSession
advance_unknown_first {st} {s} e = applies_first (record { applies = advance_unknown e; first = first })
  where
    first : (m : Refusal) → Applies st (Advance s) m → (m ≡ UnknownSession) ⊎ (refusal_number UnknownSession < refusal_number m)
    first m (advance_unknown f) = inl refl
    first m (advance_empty w) = inr (lit< tt)

pub advance_empty_first : {st : State} {s : ℕ} → (p : Phase) → (h : InPhase st s p) → (w : Wrote st s []) → Refuses st (Advance s) EmptyCommit
advance_empty_first {st} {s} p h w = applies_first (record { applies = advance_empty w; first = first })
  where
    first : (m : Refusal) → Applies st (Advance s) m → (m ≡ EmptyCommit) ⊎ (refusal_number EmptyCommit < refusal_number m)
    first m (advance_unknown e) = absurd (no_entry st.active s p h e)
    first m (advance_empty u) = inl refl

pub stop_unknown_first : {st : State} {s : ℕ} → (e : get st.active s ≡ None) → Refuses st (Stop s) UnknownSession
stop_unknown_first {st} {s} e = applies_first (record { applies = stop_unknown e; first = first })
  where
    first : (m : Refusal) → Applies st (Stop s) m → (m ≡ UnknownSession) ⊎ (refusal_number UnknownSession < refusal_number m)
    first m (stop_unknown f) = inl refl

pub clean_row_first : {st : State} {x : Cell} → (bad : ¬ IsRow x.row) → Refuses st (CleanBegin x) BadRow
clean_row_first {st} {x} bad = applies_first (record { applies = clean_row bad; first = first })
  where
    first : (m : Refusal) → Applies st (CleanBegin x) m → (m ≡ BadRow) ⊎ (refusal_number BadRow < refusal_number m)
    first m (clean_row b) = inl refl
    first m (clean_family b) = inr (lit< tt)
    first m (clean_full n f) = inr (lit< tt)

pub clean_family_first : {st : State} {x : Cell} → (row : IsRow x.row) → (bad : ¬ IsFamily x.family) → Refuses st (CleanBegin x) BadColumn
clean_family_first {st} {x} row bad = applies_first (record { applies = clean_family bad; first = first })
  where
    first : (m : Refusal) → Applies st (CleanBegin x) m → (m ≡ BadColumn) ⊎ (refusal_number BadColumn < refusal_number m)
    first m (clean_row b) = absurd (b row)
    first m (clean_family b) = inl refl
    first m (clean_full n f) = inr (lit< tt)

pub clean_full_first : {st : State} {x : Cell} → (row : IsRow x.row) → (family : IsFamily x.family) → (t : ℕ) → (marked : Marked st x t) → (full : most_cleaners ≤ len st.cleaners) → Refuses st (CleanBegin x) TooManySessions
clean_full_first {st} {x} row family t marked full = applies_first (record { applies = clean_full marked full; first = first })
  where
    first : (m : Refusal) → Applies st (CleanBegin x) m → (m ≡ TooManySessions) ⊎ (refusal_number TooManySessions < refusal_number m)
    first m (clean_row b) = absurd (b row)
    first m (clean_family b) = absurd (b family)
    first m (clean_full n f) = inl refl

pub clean_unknown_first : {st : State} {i : ℕ} → (e : get st.cleaners i ≡ None) → Refuses st (CleanStep i) UnknownCleaner
clean_unknown_first {st} {i} e = applies_first (record { applies = clean_unknown e; first = first })
  where
    first : (m : Refusal) → Applies st (CleanStep i) m → (m ≡ UnknownCleaner) ⊎ (refusal_number UnknownCleaner < refusal_number m)
    first m (clean_unknown f) = inl refl

pub collect_full_first : {st : State} → (full : most_collectors ≤ len st.collectors) → Refuses st CollectBegin TooManySessions
collect_full_first {st} full = applies_first (record { applies = collect_full full; first = first })
  where
    first : (m : Refusal) → Applies st CollectBegin m → (m ≡ TooManySessions) ⊎ (refusal_number TooManySessions < refusal_number m)
    first m (collect_full f) = inl refl

pub collect_unknown_first : {st : State} {i visits : ℕ} → (e : get st.collectors i ≡ None) → Refuses st (CollectStep i visits) UnknownCollector
collect_unknown_first {st} {i} {visits} e = applies_first (record { applies = collect_unknown e; first = first })
  where
    first : (m : Refusal) → Applies st (CollectStep i visits) m → (m ≡ UnknownCollector) ⊎ (refusal_number UnknownCollector < refusal_number m)
    first m (collect_unknown f) = inl refl
    first m (collect_none f) = inr (lit< tt)
    first m (collect_many f) = inr (lit< tt)

pub collect_none_first : {st : State} {i visits : ℕ} → (f : ℕ) → (h : get st.collectors i ≡ Some f) → (none : visits < 1) → Refuses st (CollectStep i visits) BadCount
collect_none_first {st} {i} {visits} f h none = applies_first (record { applies = collect_none none; first = first })
  where
    first : (m : Refusal) → Applies st (CollectStep i visits) m → (m ≡ BadCount) ⊎ (refusal_number BadCount < refusal_number m)
    first m (collect_unknown e) = absurd (no_entry st.collectors i f h e)
    first m (collect_none n) = inl refl
    first m (collect_many n) = inl refl

pub collect_many_first : {st : State} {i visits : ℕ} → (f : ℕ) → (h : get st.collectors i ≡ Some f) → (many : most_visits < visits) → Refuses st (CollectStep i visits) BadCount
collect_many_first {st} {i} {visits} f h many = applies_first (record { applies = collect_many many; first = first })
  where
    first : (m : Refusal) → Applies st (CollectStep i visits) m → (m ≡ BadCount) ⊎ (refusal_number BadCount < refusal_number m)
    first m (collect_unknown e) = absurd (no_entry st.collectors i f h e)
    first m (collect_none n) = inl refl
    first m (collect_many n) = inl refl

pub minor_unknown_first : {st : State} {k : ℕ} → (none : ¬ HasTablet st k) → Refuses st (Minor k) UnknownTablet
minor_unknown_first {st} {k} none = applies_first (record { applies = minor_unknown none; first = first })
  where
    first : (m : Refusal) → Applies st (Minor k) m → (m ≡ UnknownTablet) ⊎ (refusal_number UnknownTablet < refusal_number m)
    first m (minor_unknown n) = inl refl

pub major_unknown_first : {st : State} {k : ℕ} → (none : ¬ HasTablet st k) → Refuses st (Major k) UnknownTablet
major_unknown_first {st} {k} none = applies_first (record { applies = major_unknown none; first = first })
  where
    first : (m : Refusal) → Applies st (Major k) m → (m ≡ UnknownTablet) ⊎ (refusal_number UnknownTablet < refusal_number m)
    first m (major_unknown n) = inl refl

pub merge_unknown_first : {st : State} {k count : ℕ} → (none : ¬ HasTablet st k) → Refuses st (Merge k count) UnknownTablet
merge_unknown_first {st} {k} {count} none = applies_first (record { applies = merge_unknown none; first = first })
  where
    first : (m : Refusal) → Applies st (Merge k count) m → (m ≡ UnknownTablet) ⊎ (refusal_number UnknownTablet < refusal_number m)
    first m (merge_unknown n) = inl refl
    first m (merge_few f) = inr (lit< tt)

pub split_row_first : {st : State} {row : List ℕ} → (bad : ¬ IsRow row) → Refuses st (Split row) BadRow
split_row_first {st} {row} bad = applies_first (record { applies = split_row bad; first = first })
  where
    first : (m : Refusal) → Applies st (Split row) m → (m ≡ BadRow) ⊎ (refusal_number BadRow < refusal_number m)
    first m (split_row b) = inl refl
    first m (split_end e) = inr (lit< tt)
    first m (split_full f) = inr (lit< tt)

pub split_end_first : {st : State} {row : List ℕ} → (is : IsRow row) → (end : IsEnd st row) → Refuses st (Split row) BadSplit
split_end_first {st} {row} is end = applies_first (record { applies = split_end end; first = first })
  where
    first : (m : Refusal) → Applies st (Split row) m → (m ≡ BadSplit) ⊎ (refusal_number BadSplit < refusal_number m)
    first m (split_row b) = absurd (b is)
    first m (split_end e) = inl refl
    first m (split_full f) = inl refl

pub split_full_first : {st : State} {row : List ℕ} → (is : IsRow row) → (full : most_tablets ≤ length st.places) → Refuses st (Split row) BadSplit
split_full_first {st} {row} is full = applies_first (record { applies = split_full full; first = first })
  where
    first : (m : Refusal) → Applies st (Split row) m → (m ≡ BadSplit) ⊎ (refusal_number BadSplit < refusal_number m)
    first m (split_row b) = absurd (b is)
    first m (split_end e) = inl refl
    first m (split_full f) = inl refl

pub move_unknown_first : {st : State} {k server : ℕ} → (none : ¬ HasTablet st k) → Refuses st (Move k server) UnknownTablet
move_unknown_first {st} {k} {server} none = applies_first (record { applies = move_unknown none; first = first })
  where
    first : (m : Refusal) → Applies st (Move k server) m → (m ≡ UnknownTablet) ⊎ (refusal_number UnknownTablet < refusal_number m)
    first m (move_unknown n) = inl refl
    first m (move_server f) = inr (lit< tt)

pub move_server_first : {st : State} {k server : ℕ} → (has : HasTablet st k) → (far : most_servers ≤ server) → Refuses st (Move k server) UnknownServer
move_server_first {st} {k} {server} has far = applies_first (record { applies = move_server far; first = first })
  where
    first : (m : Refusal) → Applies st (Move k server) m → (m ≡ UnknownServer) ⊎ (refusal_number UnknownServer < refusal_number m)
    first m (move_unknown n) = absurd (n has)
    first m (move_server f) = inl refl

pub raw_row_first : {st : State} {x : Cell} {q : Qualifier} {low high : ℕ} → (bad : ¬ IsRow x.row) → Refuses st (Raw x q low high) BadRow
raw_row_first {st} {x} {q} {low} {high} bad = applies_first (record { applies = raw_row bad; first = first })
  where
    first : (m : Refusal) → Applies st (Raw x q low high) m → (m ≡ BadRow) ⊎ (refusal_number BadRow < refusal_number m)
    first m (raw_row b) = inl refl
    first m (raw_family b) = inr (lit< tt)

pub raw_family_first : {st : State} {x : Cell} {q : Qualifier} {low high : ℕ} → (row : IsRow x.row) → (bad : ¬ IsFamily x.family) → Refuses st (Raw x q low high) BadColumn
raw_family_first {st} {x} {q} {low} {high} row bad = applies_first (record { applies = raw_family bad; first = first })
  where
    first : (m : Refusal) → Applies st (Raw x q low high) m → (m ≡ BadColumn) ⊎ (refusal_number BadColumn < refusal_number m)
    first m (raw_row b) = absurd (b row)
    first m (raw_family b) = inl refl
