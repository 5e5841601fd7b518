-- Refusals that are passed on, after reads that changed nothing.
use Rattle.std.proofs.Common.{◌≡◌, ◌≢◌, ◌∙◌, ℕ, List, Result, Ok, Err, IfErr, IsErrOf, sym, subst}
use Rattle.std.specs.Result.{IsErrAnd}
use Rattle.cell_key.specs.declared.refusals.Refusal.{Refusal}
use Rattle.cell_key.specs.declared.refusals.Refusal.TheVariants.{Damaged, Device}
use Rattle.rows.specs.Calls.{OnlyReads, View}
use Rattle.rows.specs.Refusals.{IsRefusalOfRead}
use Rattle.rows.proofs.Calls.{read_undamaged}
use Rattle.cell_key.proofs.Reasons.{not_refused}
use Rattle.version_collector.specs.Versions.{AreShown}

pub not_device : (e : Refusal) → e ≡ Damaged → e ≢ Device
not_device e is other = cc

-- damage is answered if a premise doesn't hold
pub refused_damaged : {B : Type 0} (Readable : Type 0) (r : Result B Refusal) (e : Refusal) → IsErrAnd r (λ f. f ≡ e) → e ≡ Damaged → ¬ Readable → IfErr r (IsRefusalOfRead Readable)
refused_damaged Readable (Ok x) e by is none = tt
refused_damaged Readable (Err f) e by is none = subst (IsRefusalOfRead Readable) (sym (by ∙ is)) none

pub refused_named : {B : Type 0} (Readable None : Type 0) (r : Result B Refusal) → IfErr r (λ e. e ≡ Damaged) → IfErr r (λ e. None) → (None → ¬ Readable) → IfErr r (IsRefusalOfRead Readable)
refused_named Readable None (Ok x) is none so = tt
refused_named Readable None (Err f) is none so = subst (IsRefusalOfRead Readable) (sym is) (so none)

-- a row that is readable and shown before a read is readable and shown after it
pub shown_later : {R : Type 0} {seen : View R} {a b : R} (row : List ℕ)
    → OnlyReads seen a b → seen.readable a row × AreShown (seen.cells a) → seen.readable b row × AreShown (seen.cells b)
shown_later row reads was = (reads.readable row was.0, subst AreShown (sym (reads.kept)) was.1)

-- a read of a readable row isn't refused as damaged
pub read_not_damaged : {B : Type 0} (r : Result B Refusal) (Readable : Type 0) → IfErr r (IsRefusalOfRead Readable) → Readable → ¬ IsErrOf r Damaged
read_not_damaged (Ok x) Readable h whole is = not_refused x Damaged is
read_not_damaged (Err e) Readable h whole is = read_undamaged Readable e h whole (let same : e ≡ Damaged = cc in same)
