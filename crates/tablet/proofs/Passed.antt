-- Errors that are passed on.
use Rattle.std.proofs.Common.{rules, ap, ◌∙◌, ◌≡◌, ℕ, ◌<◌, ◌≤◌, Bool, false, List, [], map, length, ◌⊎◌, inl, inr, sym, subst, arith}
use Rattle.std.proofs.lemmas.List.{length-map}
use Rattle.std.specs.Prelude.{◌≢◌, ◌↔◌, IsTrue, Option, Some, None, IfSome}
use Rattle.std.specs.Result.{IfErr, IsErrAnd, IsErrOf}
use Rattle.std.specs.declared.result.Result.{Result}
use Rattle.std.specs.declared.result.Result.TheVariants.{Ok, Err}
use Rattle.cell_key.specs.Entries.{Entry}
use Rattle.cell_key.specs.declared.refusals.Refusal.{Refusal}
use Rattle.cell_key.specs.declared.refusals.Refusal.TheVariants.{BadCount, Device, Exhausted, NoMemory, Damaged, TooManyFiles}
use Rattle.file_store.specs.Store.{Contents}
use Rattle.sorted_file.specs.File.{name_of}
use Rattle.sorted_file.specs.Source.{IsReadRefusal, IsWriteRefusal}
use Rattle.sorted_file.specs.declared.file.SortedFile.{SortedFile}
pub use Rattle.cell_key.proofs.Passed.{passed_err, passed_kept, passed_kind, passed_none, passed_on, passed_reason, reason_after, reason_of_ok}
pub use Rattle.cell_key.proofs.Reasons.{not_refused as not_err, reason_none as quiet_reason}
use Rattle.tablet.specs.Compactions.{IsCompactionRefusal, IsMergeRefusal, IsMinorRefusal}

-- the refusals of a read are refusals of a minor compaction
pub minor_read : (e : Refusal) → IsReadRefusal e → IsMinorRefusal e
minor_read Device read = tt
minor_read NoMemory read = tt
minor_read Damaged read = tt
minor_read _ read = absurd read

-- a caller passes on a call's refusal
pub passed_over : {A B : Type 0} (r : Result B Refusal) (e n : Refusal) → IsErrAnd r (λ f. f ≡ e) → IsErrOf {T = A} (Err e) n → IsErrOf r n
passed_over (Ok x) e n by is = absurd by
passed_over (Err f) e n by is = let same : e ≡ n = cc in ap (λ x. Err x) (by ∙ same)

pub told_kind : {B : Type 0} (e n : Refusal) (P : Refusal → Type 0) → P e → IsErrOf {T = B} (Err e) n → P n
told_kind e n P h is = let same : e ≡ n = cc in subst P same h

abbrev pub IsNoMemory : Refusal → Type 0
IsNoMemory NoMemory = Unit {0}
IsNoMemory _ = ⊥

abbrev pub IsTooManyFiles : Refusal → Type 0
IsTooManyFiles TooManyFiles = Unit {0}
IsTooManyFiles _ = ⊥

pub minor_of : (e : Refusal) → IsCompactionRefusal e → IsMinorRefusal e
minor_of TooManyFiles h = tt
minor_of _ h = h

pub not_empty : (b : Bool) (es : List Entry) → IsTrue b ↔ (es ≡ []) → b ≡ false → es ≢ []
not_empty b es h is = λ none. absurd (let t = h.1 none in search rules)

pub too_few : (files : List SortedFile) (count most : ℕ) → count ≡ length files → count < most → length (map name_of files) < most
too_few files count most is few = omega (arith, length-map files name_of)

pub too_many : (files : List SortedFile) (count most : ℕ) → count ≡ length files → most ≤ count → most ≤ length (map name_of files)
too_many files count most is many = omega (arith, length-map files name_of)

pub not_both : (n most : ℕ) → n < most → ¬ (most ≤ n)
not_both n most few many = omega arith

abbrev pub IsBadCount : Refusal → Type 0
IsBadCount BadCount = Unit {0}
IsBadCount _ = ⊥

pub merge_of : (e : Refusal) → IsCompactionRefusal e → IsMergeRefusal e
merge_of BadCount h = tt
merge_of _ h = h

-- the refusals of a lookup in memory
abbrev pub IsHeldRefusal : Refusal → Type 0
IsHeldRefusal NoMemory = Unit {0}
IsHeldRefusal Damaged = Unit {0}
IsHeldRefusal _ = ⊥

pub held_refusal : (e : Refusal) → (e ≡ NoMemory) ⊎ (e ≡ Damaged) → IsHeldRefusal e
held_refusal e (inl is) = subst IsHeldRefusal (sym is) tt
held_refusal e (inr is) = subst IsHeldRefusal (sym is) tt

pub held_read : (e : Refusal) → (e ≡ NoMemory) ⊎ (e ≡ Damaged) → IsReadRefusal e
held_read e (inl is) = subst IsReadRefusal (sym is) tt
held_read e (inr is) = subst IsReadRefusal (sym is) tt

-- facts about the files, whose contents are unchanged
pub over : (old now : Option Contents) (P Q R : Contents → Type 0) → now ≡ old → ((m : Contents) → P m → Q m → R m) → IfSome old P → IfSome now Q → IfSome old R
over None now P Q R same f p q = tt
over (Some m) now P Q R same f p q = f m p (subst (λ (o : Option Contents). IfSome o Q) same q)

pub over_any : (old : Option Contents) (P : Contents → Type 0) → ((m : Contents) → P m) → IfSome old P
over_any None P f = tt
over_any (Some m) P f = f m

pub no_memory : (e : Refusal) → e ≡ NoMemory → IsNoMemory e
no_memory e is = subst IsNoMemory (sym is) tt

pub writes_of : (e : Refusal) → IsWriteRefusal e → IsCompactionRefusal e
writes_of Exhausted h = tt
writes_of _ h = h

pub err_kind : {A : Type 0} (r : Result A Refusal) (n : Refusal) (P : Refusal → Type 0) → IfErr r P → IsErrOf r n → P n
err_kind (Ok x) n P h is = absurd (not_err x n is)
err_kind (Err f) n P h is = let same : f ≡ n = cc in subst P same h

pub err_map : {A : Type 0} (r : Result A Refusal) (P Q : Refusal → Type 0) → ((e : Refusal) → P e → Q e) → IfErr r P → IfErr r Q
err_map (Ok x) P Q f h = tt
err_map (Err e) P Q f h = f e h
