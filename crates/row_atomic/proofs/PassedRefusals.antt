-- A call's refusal, by the refusals of the calls that it makes.
use Rattle.std.proofs.Common.{◌≡◌, ◌+◌, ◌<◌, ◌≤◌, ◌⊎◌, ◌↔◌, inl, inr, ℕ, Bool, false, IsTrue, List, length, map, Result, Ok, Err, IfOk, IfErr, IsErrOf, sym, ap, ◌∙◌, subst, arith}
use Rattle.std.specs.Result.{IsErrAnd}
use Rattle.std.proofs.lemmas.List.{length-map}
use Rattle.std.proofs.lemmas.Result.{IfOk-weaker}
use Rattle.cell_key.specs.declared.refusals.Refusal.{Refusal}
use Rattle.cell_key.specs.declared.refusals.Refusal.TheVariants.{Device, NoMemory, Damaged, UnknownServer, UnknownTablet}
pub use Rattle.cell_key.proofs.Reasons.{not_refused, reason_none as no_fault, reason_passed, reason_then as reason_after}
pub use Rattle.cell_key.proofs.Passed.{passed, passed_err as refused_so, passed_none as none_answered}
use Rattle.cell_key.proofs.Passed.{passed_kind}
use Rattle.metadata_table.specs.Places.{PlaceView}
use Rattle.sorted_file.specs.Source.{IsReadRefusal}
use Rattle.cell_key.specs.Faults.{HasReason}
use Rattle.row_atomic.specs.Changes.{ComesOfWriting, IsMoveRefusal, IsRefusalOf, IsSplitRefusal}
use Rattle.row_atomic.specs.Clusters.{spot_of}
use Rattle.tablet.specs.declared.compactions.Compaction.{Compaction}
use Rattle.tablet.specs.declared.compactions.Compaction.TheVariants.{Minor, Merge, Major}

-- ---- passed refusals

pub refused_as : {B : Type 0} (r : Result B Refusal) (e n : Refusal) → IsErrAnd r (λ f. f ≡ e) → e ≡ n → IsErrOf r n
refused_as (Ok x) e n by is = absurd by
refused_as (Err f) e n by is = ap (λ d. Err d) (by ∙ is)

named : {A : Type 0} (e n : Refusal) → IsErrOf {T = A} (Err e) n → e ≡ n
named e n is = cc

-- the caller is refused in the same way as the call
pub same_refusal : {A B : Type 0} (r : Result B Refusal) (e n : Refusal) (P : Type 0) → IsErrAnd r (λ f. f ≡ e) → (IsErrOf {T = A} (Err e) n ↔ P) → (IsErrOf r n ↔ P)
same_refusal r e n P by only = (λ is. only.0 (passed r e n by is), λ h. refused_as r e n by (named e n (only.1 h)))

-- a property of all refusals
pub each_refusal : {B : Type 0} (r : Result B Refusal) (P : Refusal → Type 0) → ((e : Refusal) → P e) → IfErr r P
each_refusal (Ok x) P f = tt
each_refusal (Err e) P f = f e

-- the refusal is one that the call may answer
pub one_of : {B : Type 0} (P : Refusal → Type 0) (r : Result B Refusal) (e n : Refusal) → IsErrAnd r (λ f. f ≡ e) → P e → IsErrOf r n → P n
one_of P r e n = passed_kind r e n P

-- a lack of memory
abbrev pub IsWant : Refusal → Type 0
IsWant NoMemory = Unit {0}
IsWant _ = ⊥

pub want_read : (x : Refusal) → IsWant x → IsReadRefusal x
want_read NoMemory h = tt
want_read _ h = absurd h

pub want_compacts : (compaction : Compaction) (x : Refusal) → IsWant x → IsRefusalOf compaction x
want_compacts Minor NoMemory h = tt
want_compacts (Merge count) NoMemory h = tt
want_compacts Major NoMemory h = tt
want_compacts _ _ h = absurd h

pub read_split : (x : Refusal) → IsReadRefusal x → IsSplitRefusal x
read_split Device h = tt
read_split NoMemory h = tt
read_split Damaged h = tt
read_split _ h = absurd h

pub read_move : (x : Refusal) → IsReadRefusal x → IsMoveRefusal x
read_move Device h = tt
read_move NoMemory h = tt
read_move Damaged h = tt
read_move _ h = absurd h

-- a tablet or a server that doesn't exist
abbrev pub IsUnknown : Refusal → Type 0
IsUnknown UnknownTablet = Unit {0}
IsUnknown UnknownServer = Unit {0}
IsUnknown _ = ⊥

pub unknown_only : (x : Refusal) → (x ≡ UnknownTablet) ⊎ (x ≡ UnknownServer) → IsUnknown x
unknown_only x (inl is) = subst IsUnknown (sym is) tt
unknown_only x (inr is) = subst IsUnknown (sym is) tt

pub unknown_move : (x : Refusal) → IsUnknown x → IsMoveRefusal x
unknown_move UnknownTablet h = tt
unknown_move UnknownServer h = tt
unknown_move _ h = absurd h

pub unknown_unwritten : (x : Refusal) → IsUnknown x → ¬ ComesOfWriting x
unknown_unwritten UnknownTablet h of = of
unknown_unwritten UnknownServer h of = of
unknown_unwritten _ h of = h

pub neither : {A B C : Type 0} → ¬ A → ¬ B → A ⊎ B → C
neither not nor (inl a) = absurd (not a)
neither not nor (inr b) = absurd (nor b)

pub not_both : (b : Bool) → IsTrue b → ¬ (b ≡ false)
not_both b is not = cc

pub below_only : (n m : ℕ) → n < m → ¬ (m ≤ n)
below_only n m below from = omega arith

-- ---- a device's faults

pub reason_since : {B : Type 0} (r : Result B Refusal) (before mid now : ℕ) → mid ≡ before → HasReason mid now r → HasReason before now r
reason_since r before mid now same reason = subst (λ (count : ℕ). HasReason count now r) same reason

-- a call has only one refusal
pub not_wanted : {B : Type 0} (r : Result B Refusal) (e n : Refusal) → IsErrAnd r (λ f. f ≡ e) → ¬ (e ≡ n) → ¬ IsErrOf r n
not_wanted (Ok x) e n by other is = absurd by
not_wanted (Err f) e n by other is = other (let same : f ≡ n = cc in sym by ∙ same)

pub reason_kept : {A B : Type 0} (x : A) (y : B) (before now : ℕ) → HasReason before now (Ok x) → HasReason before now (Ok y)
reason_kept x y before now reason = record { later = reason.later; device = λ is. absurd (not_refused y Device is); told = λ other. reason.told (not_refused x Device) }

-- ---- places

-- the number of places is the number of spots
pub number_after : (places places' : List PlaceView) (r : Result ℕ Refusal) → map spot_of places' ≡ map spot_of places → IfOk r (λ left. left ≡ length places' + 1) → IfOk r (λ left. left ≡ length places + 1)
number_after places places' r same number =
    let as_many : length places' ≡ length places = sym (length-map places' spot_of) ∙ ap (λ spots. length spots) same ∙ length-map places spot_of in
    IfOk-weaker r _ _ (λ left is. is ∙ ap (λ (n : ℕ). n + 1) as_many) number
