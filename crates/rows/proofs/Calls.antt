-- Calls of rows in sequence.
use Rattle.std.proofs.Common.{◌≢◌, ◌∙◌, inl, inr, ℕ, List, ◌++◌, Result, Ok, Err, IfErr, OnOk, OnErr, refl, sym, ap, subst, ◌≡◌}
use Rattle.std.specs.Result.{IsErrAnd}
use Rattle.cell_key.specs.Cells.{Cells, after_edits}
use Rattle.cell_key.specs.declared.edits.Edit.{Edit}
use Rattle.cell_key.specs.declared.refusals.Refusal.{Refusal}
use Rattle.cell_key.specs.declared.refusals.Refusal.TheVariants.{Damaged, Device, NoMemory}
use Rattle.rows.specs.Calls.{Applies, AppliesSuch, KeepsBelow, OnlyReads, View}
use Rattle.rows.specs.Refusals.{IsReadRefusal, IsRefusalOfRead}

module _ {R : Type 0} {seen : View R} where
  pub keeps_then : {a b c : R} → KeepsBelow seen a b → KeepsBelow seen b c → KeepsBelow seen a c
  keeps_then first second = record { still = λ held. second.still (first.still held); readable = λ row whole. second.readable row (first.readable row whole); stays = second.stays ∙ first.stays }

module _ {R : Type 0} {seen : View R} where
  -- no call changes nothing
  pub reads_none : {rows : R} → OnlyReads seen rows rows
  reads_none = record { still = λ held. held; readable = λ row whole. whole; kept = refl; room = λ row later full. full; stays = refl }

  -- two reads in sequence change nothing
  pub reads_then : {a b c : R} → OnlyReads seen a b → OnlyReads seen b c → OnlyReads seen a c
  reads_then first second = record {
    still = λ held. second.still (first.still held);
    readable = λ row whole. second.readable row (first.readable row whole);
    kept = second.kept ∙ first.kept;
    room = λ row later full. first.room row later (second.room row later full);
    stays = second.stays ∙ first.stays;
  }

  -- a read keeps the state below
  pub reads_keep : {a b : R} → OnlyReads seen a b → KeepsBelow seen a b
  reads_keep reads = record { still = reads.still; readable = reads.readable; stays = reads.stays }

  pub applies_keep : {row : List ℕ} {edits : List Edit} {a b : R} → Applies seen row edits a b → KeepsBelow seen a b
  applies_keep applies = record { still = applies.still; readable = applies.readable; stays = applies.stays }

  -- edits after a read
  pub applies_after : {row : List ℕ} {edits : List Edit} {a b c : R} → OnlyReads seen a b → Applies seen row edits b c → Applies seen row edits a c
  applies_after {row} {edits} reads applies = record {
    still = λ held. applies.still (reads.still held);
    readable = λ row whole. applies.readable row (reads.readable row whole);
    made = λ whole. applies.made (reads.readable row whole) ∙ ap (λ (cs : Cells). after_edits cs edits) reads.kept;
    room = λ row later full. elim (applies.room row later full) [
      | inl before ↦ inl (reads.room row later before)
      | inr after ↦ inr (reads.room row (edits ++ later) after)
    ];
    stays = applies.stays ∙ reads.stays;
  }

  -- edits in one relation are in a weaker one
  pub such_so : {P Q : List ℕ → List Edit → Type 0} {a b : R} → ((row : List ℕ) (edits : List Edit) → P row edits → Q row edits) → AppliesSuch seen P a b → AppliesSuch seen Q a b
  such_so so made = record { row = made.row; edits = made.edits; such = so made.row made.edits made.such; applied = made.applied }

  pub such_after : {P : List ℕ → List Edit → Type 0} {a b c : R} → OnlyReads seen a b → AppliesSuch seen P b c → AppliesSuch seen P a c
  such_after reads made = record { row = made.row; edits = made.edits; such = made.such; applied = applies_after reads made.applied }

-- a fact that holds whether edits were made or refused
pub either_way : {A : Type 0} {P : Type 0} (r : Result A Refusal) → OnOk r P → OnErr r P → P
either_way (Ok x) ok err = ok
either_way (Err e) ok err = err

-- ---- refusals of reads

pub is_read_refusal : (Holds : Type 0) (e : Refusal) → IsRefusalOfRead Holds e → IsReadRefusal e
is_read_refusal H Device u = tt
is_read_refusal H NoMemory u = tt
is_read_refusal H Damaged u = tt
is_read_refusal H _ u = u

-- damage is not answered if the rows hold
pub read_undamaged : (Holds : Type 0) (e : Refusal) → IsRefusalOfRead Holds e → Holds → e ≢ Damaged
read_undamaged H Damaged u held same = u held
read_undamaged H _ u held same = cc

-- the refusals of a read after a read
pub refusal_after : (Before Now : Type 0) (e : Refusal) → (Before → Now) → IsRefusalOfRead Now e → IsRefusalOfRead Before e
refusal_after H I Damaged so u = λ held. u (so held)
refusal_after H I Device so u = tt
refusal_after H I NoMemory so u = tt
refusal_after H I _ so u = u

pub refused_later : {B : Type 0} (Before Now : Type 0) (r : Result B Refusal) (e : Refusal) → (Before → Now) → IsErrAnd r (λ f. f ≡ e) → IsRefusalOfRead Now e → IfErr r (IsRefusalOfRead Before)
refused_later H I (Ok x) e so by u = tt
refused_later H I (Err f) e so by u = subst (IsRefusalOfRead H) (sym by) (refusal_after H I e so u)
