-- When a request is acceptable: sufficient conditions, and consequences.
use Rattle.std.proofs.Common.{◌≡◌, ◌≢◌, ℕ, ◌<◌, ◌≤◌, Bool, List, length, Option, Some, None, ◌⊎◌, inl, inr, refl, sym, ap, subst, ◌∙◌, arith}
use Rattle.std.specs.Ordering.{nat_cmp}
use Rattle.std.specs.FinMap.{FinMap, get, len}
use Rattle.std.proofs.lemmas.Option.{none-some}
use Rattle.cell_key.specs.Names.{IsRow, IsFamily}
use Rattle.cell_key.specs.declared.refusals.Refusal.TheVariants.{UnknownSession, WrongPhase, BadCount}
use Rattle.si_model.specs.declared.replies.Cell.{Cell}
use Rattle.si_model.specs.Machine.{State, Value, Writes, Phase, Open, Holding, Stamped, Finishing, Cleaner, InPhase, Wrote, Names, Range, Marked, HasTablet, IsEnd, IsAcceptable}
use Rattle.si_model.specs.Machine.{most_sessions, most_cleaners, most_collectors, most_tablets, most_servers, most_writes, most_value, most_visits, most_scanned}
use Rattle.si_model.specs.Machine.{Begin, Get, Set, Delete, ScanFrom, Advance, Stop, CleanBegin, CleanStep, CollectBegin, CollectStep, Split, Move}
use Rattle.si_model.specs.Refusing.{begin_full, get_unknown, get_late, get_row, get_family, set_unknown, set_late, set_row, set_family, set_long, set_full, delete_unknown, delete_late, delete_row, delete_family, delete_full, scan_unknown, scan_late, scan_row, scan_family, scan_none, scan_many, advance_unknown, advance_empty, stop_unknown, clean_row, clean_family, clean_full, clean_unknown, collect_full, collect_unknown, collect_none, collect_many, split_row, split_end, split_full, move_unknown, move_server}
use Rattle.si_model.specs.Scans.{HasRows, HasFamilies}
use Rattle.std.proofs.lemmas.Bool.{cases_lt}
use Rattle.si_model.proofs.Tools.{same_entry}

pub no_entry : {X : Type 0} (m : FinMap nat_cmp X) (k : ℕ) (v : X) → get m k ≡ Some v → get m k ≡ None → ⊥
no_entry m k v some none = none-some v (sym none ∙ some)

-- sufficient conditions

pub begin_ok : {st : State} → len st.active < most_sessions → IsAcceptable st Begin
begin_ok room n (begin_full full) = absurd (omega arith)

pub get_ok : {st : State} {s : ℕ} {x : Cell} → InPhase st s Open → IsRow x.row → IsFamily x.family → IsAcceptable st (Get s x)
get_ok {st} {s} h row family n (get_unknown e) = no_entry st.active s Open h e
get_ok {st} {s} h row family n (get_late {p = p} g late) = late (same_entry st.active s p Open g h)
get_ok h row family n (get_row bad) = bad row
get_ok h row family n (get_family bad) = bad family

pub set_ok : {st : State} {s : ℕ} {x : Cell} {v : Value} (ws : Writes) → InPhase st s Open → IsRow x.row → IsFamily x.family → length v ≤ most_value
    → Wrote st s ws → Names ws x ⊎ (length ws < most_writes) → IsAcceptable st (Set s x v)
set_ok {st} {s} ws h row family short w few n (set_unknown e) = no_entry st.active s Open h e
set_ok {st} {s} ws h row family short w few n (set_late {p = p} g late) = late (same_entry st.active s p Open g h)
set_ok ws h row family short w few n (set_row bad) = bad row
set_ok ws h row family short w few n (set_family bad) = bad family
set_ok ws h row family short w few n (set_long long) = absurd (omega arith)
set_ok {st} {s} {x} ws h row family short w few n (set_full {ws = us} g none full) =
    let same : us ≡ ws = same_entry st.begun s us ws g w in
    elim few [
      | inl named ↦ none (subst (λ (l : Writes). Names l x) (sym same) named)
      | inr room ↦ let e : length us ≡ length ws = ap length same in absurd (omega arith)
    ]

pub delete_ok : {st : State} {s : ℕ} {x : Cell} (ws : Writes) → InPhase st s Open → IsRow x.row → IsFamily x.family
    → Wrote st s ws → Names ws x ⊎ (length ws < most_writes) → IsAcceptable st (Delete s x)
delete_ok {st} {s} ws h row family w few n (delete_unknown e) = no_entry st.active s Open h e
delete_ok {st} {s} ws h row family w few n (delete_late {p = p} g late) = late (same_entry st.active s p Open g h)
delete_ok ws h row family w few n (delete_row bad) = bad row
delete_ok ws h row family w few n (delete_family bad) = bad family
delete_ok {st} {s} {x} ws h row family w few n (delete_full {ws = us} g none full) =
    let same : us ≡ ws = same_entry st.begun s us ws g w in
    elim few [
      | inl named ↦ none (subst (λ (l : Writes). Names l x) (sym same) named)
      | inr room ↦ let e : length us ≡ length ws = ap length same in absurd (omega arith)
    ]

pub scan_ok : {st : State} {s n : ℕ} {range : Range} {keys_only : Bool} → InPhase st s Open → HasRows range → HasFamilies range
    → 1 ≤ n → n ≤ most_scanned → IsAcceptable st (ScanFrom s range keys_only n)
scan_ok {st} {s} h rows families some few m (scan_unknown e) = no_entry st.active s Open h e
scan_ok {st} {s} h rows families some few m (scan_late {p = p} g late) = late (same_entry st.active s p Open g h)
scan_ok h rows families some few m (scan_row bad) = bad rows
scan_ok h rows families some few m (scan_family bad) = bad families
scan_ok h rows families some few m (scan_none none) = absurd (omega arith)
scan_ok h rows families some few m (scan_many many) = absurd (omega arith)

pub advance_ok : {st : State} {s : ℕ} (p : Phase) (ws : Writes) → InPhase st s p → Wrote st s ws → 1 ≤ length ws → IsAcceptable st (Advance s)
advance_ok {st} {s} p ws h w some n (advance_unknown e) = no_entry st.active s p h e
advance_ok {st} {s} p ws h w some n (advance_empty e) = let none : length ws ≡ 0 = ap length (same_entry st.begun s ws _ w e) in absurd (omega arith)

pub stop_ok : {st : State} {s : ℕ} (p : Phase) → InPhase st s p → IsAcceptable st (Stop s)
stop_ok {st} {s} p h n (stop_unknown e) = no_entry st.active s p h e

pub clean_begin_ok : {st : State} {x : Cell} → IsRow x.row → IsFamily x.family → ((t : ℕ) → ¬ Marked st x t) ⊎ (len st.cleaners < most_cleaners) → IsAcceptable st (CleanBegin x)
clean_begin_ok row family few n (clean_row bad) = bad row
clean_begin_ok row family few n (clean_family bad) = bad family
clean_begin_ok row family few n (clean_full {t = t} m full) = elim few [ inl none ↦ none t m | inr room ↦ absurd (omega arith) ]

pub clean_step_ok : {st : State} {i : ℕ} (k : Cleaner) → get st.cleaners i ≡ Some k → IsAcceptable st (CleanStep i)
clean_step_ok {st} {i} k h n (clean_unknown e) = no_entry st.cleaners i k h e

pub collect_begin_ok : {st : State} → len st.collectors < most_collectors → IsAcceptable st CollectBegin
collect_begin_ok room n (collect_full full) = absurd (omega arith)

pub collect_step_ok : {st : State} {i visits : ℕ} (f : ℕ) → get st.collectors i ≡ Some f → 1 ≤ visits → visits ≤ most_visits → IsAcceptable st (CollectStep i visits)
collect_step_ok {st} {i} f h some few n (collect_unknown e) = no_entry st.collectors i f h e
collect_step_ok f h some few n (collect_none none) = absurd (omega arith)
collect_step_ok f h some few n (collect_many many) = absurd (omega arith)

pub split_ok : {st : State} {row : List ℕ} → IsRow row → ¬ IsEnd st row → length st.places < most_tablets → IsAcceptable st (Split row)
split_ok is new room n (split_row bad) = bad is
split_ok is new room n (split_end end) = new end
split_ok is new room n (split_full full) = absurd (omega arith)

pub move_ok : {st : State} {k server : ℕ} → HasTablet st k → server < most_servers → IsAcceptable st (Move k server)
move_ok has known n (move_unknown none) = none has
move_ok has known n (move_server far) = absurd (omega arith)

-- consequences

cases_open : (p : Phase) → (p ≡ Open) ⊎ (p ≢ Open)
cases_open Open = inl refl
cases_open (Holding k) = inr (λ e. cc)
cases_open (Stamped c) = inr (λ e. cc)
cases_open (Finishing c k) = inr (λ e. cc)

-- an active session that isn't in another phase than open
opened : (st : State) (s : ℕ) → (get st.active s ≢ None) → ((p : Phase) → InPhase st s p → p ≢ Open → ⊥) → (o : Option Phase) → get st.active s ≡ o → InPhase st s Open
opened st s known early None e = absurd (known e)
opened st s known early (Some p) e = elim (cases_open p) [ inl is ↦ subst (λ (q : Phase). InPhase st s q) is e | inr not ↦ absurd (early p e not) ]

-- the session of an acceptable Get, Set, Delete or scan is open
pub get_is_open : (st : State) (s : ℕ) (x : Cell) → IsAcceptable st (Get s x) → InPhase st s Open
get_is_open st s x ok = opened st s (λ e. ok UnknownSession (get_unknown e)) (λ p h late. ok WrongPhase (get_late h late)) (get st.active s) refl

pub set_is_open : (st : State) (s : ℕ) (x : Cell) (v : Value) → IsAcceptable st (Set s x v) → InPhase st s Open
set_is_open st s x v ok = opened st s (λ e. ok UnknownSession (set_unknown e)) (λ p h late. ok WrongPhase (set_late h late)) (get st.active s) refl

pub delete_is_open : (st : State) (s : ℕ) (x : Cell) → IsAcceptable st (Delete s x) → InPhase st s Open
delete_is_open st s x ok = opened st s (λ e. ok UnknownSession (delete_unknown e)) (λ p h late. ok WrongPhase (delete_late h late)) (get st.active s) refl

pub scan_is_open : (st : State) (s : ℕ) (range : Range) (keys_only : Bool) (n : ℕ) → IsAcceptable st (ScanFrom s range keys_only n) → InPhase st s Open
scan_is_open st s range keys_only n ok = opened st s (λ e. ok UnknownSession (scan_unknown e)) (λ p h late. ok WrongPhase (scan_late h late)) (get st.active s) refl

-- and a scan's count is at least one cell
pub scan_is_some : (st : State) (s : ℕ) (range : Range) (keys_only : Bool) (n : ℕ) → IsAcceptable st (ScanFrom s range keys_only n) → 1 ≤ n
scan_is_some st s range keys_only n ok = elim (cases_lt n 1) [ inl none ↦ absurd (ok BadCount (scan_none none)) | inr some ↦ some ]
