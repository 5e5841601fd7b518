-- The effects of the visits' edits, whatever the cells hold.
use Rattle.std.proofs.Common.{◌≡◌, ◌≢◌, ℕ, List, [], ◌∷◌, None, ◌⊎◌, inl, inr, refl, sym, ap, subst, ◌∙◌, arith}
use Rattle.std.specs.FinMap.{get, remove}
use Rattle.cell_key.specs.Cells.{Cells, after_edits}
use Rattle.cell_key.specs.declared.edits.Edit.{Edit}
use Rattle.cell_key.specs.declared.keys.CellKey.{CellKey}
use Rattle.cell_key.specs.declared.keys.Qualifier.{Qualifier}
use Rattle.cell_key.specs.declared.keys.Qualifier.TheVariants.{Data, Lock, Write}
use Rattle.rows.specs.Calls.{AppliesSuch, View}
use Rattle.si_model.specs.Sets.{◌∈◌, here}
use Rattle.si_model.specs.ShowsCells.{key_of}
use Rattle.si_model.specs.declared.replies.Cell.{Cell}
use Rattle.si_model.proofs.ShownAt.{cases_key, erased_at, erased_off}
use Rattle.version_collector.specs.Erasing.{CollectsCell, data_erasures, record_erasures}
use Rattle.version_collector.specs.Visits.{Thins}
use Rattle.version_collector.proofs.VisitedCells.{thins_none}

-- only keys of x change, none of them a lock, and each change is an erasure
pub record Leaves (x : Cell) (cells cells' : Cells) : Type 0 where
  pub others : (k : CellKey) → k.row ≢ x.row → get cells' k ≡ get cells k
  pub fewer : (k : CellKey) → (get cells' k ≡ get cells k) ⊎ (get cells' k ≡ None)
  pub locks : (k : CellKey) → k.qualifier ≡ Lock → get cells' k ≡ get cells k

leaves_none : (x : Cell) (cells : Cells) → Leaves x cells cells
leaves_none x cells = record { others = λ k other. refl; fewer = λ k. inl refl; locks = λ k is. refl }

leaves_then : (x : Cell) (a b c : Cells) → Leaves x a b → Leaves x b c → Leaves x a c
leaves_then x a b c first second = record {
  others = λ k other. second.others k other ∙ first.others k other;
  fewer = λ k. elim (second.fewer k) [
    | inl same ↦ elim (first.fewer k) [ inl again ↦ inl (same ∙ again) | inr gone ↦ inr (same ∙ gone) ]
    | inr gone ↦ inr gone
  ];
  locks = λ k is. second.locks k is ∙ first.locks k is;
}

one_gone : (x : Cell) (q : Qualifier) (s : ℕ) → q ≢ Lock → (cells : Cells) → Leaves x cells (remove cells (key_of x q s))
one_gone x q s no_lock cells = record {
  others = λ k other. erased_off cells (key_of x q s) k (λ e. other (ap (λ (l : CellKey). l.row) e));
  fewer = λ k. elim (cases_key k (key_of x q s)) [
    | inl same ↦ inr (ap (get (remove cells (key_of x q s))) same ∙ erased_at cells (key_of x q s))
    | inr ne ↦ inl (erased_off cells (key_of x q s) k ne)
  ];
  locks = λ k is. erased_off cells (key_of x q s) k (λ e. no_lock (sym (ap (λ (l : CellKey). l.qualifier) e) ∙ is));
}

write_no_lock : Write ≢ Lock
write_no_lock e = cc

data_no_lock : Data ≢ Lock
data_no_lock e = cc

pub records_gone : (x : Cell) (vs : List (ℕ × ℕ)) (cells : Cells) → Leaves x cells (after_edits cells (record_erasures x vs))
records_gone x [] cells = leaves_none x cells
records_gone x (v ∷ vs) cells =
    let first = remove cells (key_of x Write v.0) in
    let second = remove first (key_of x Data v.1) in
    leaves_then x cells first _ (one_gone x Write v.0 write_no_lock cells) (leaves_then x first second _ (one_gone x Data v.1 data_no_lock first) (records_gone x vs second))

pub data_gone : (x : Cell) (ts : List ℕ) (cells : Cells) → Leaves x cells (after_edits cells (data_erasures x ts))
data_gone x [] cells = leaves_none x cells
data_gone x (t ∷ ts) cells =
    let first = remove cells (key_of x Data t) in
    leaves_then x cells first _ (one_gone x Data t data_no_lock cells) (data_gone x ts first)

edits_leave : (Holds : Type 0) (cells : Cells) (x : Cell) (floor : ℕ) (row : List ℕ) (edits : List Edit) → CollectsCell Holds cells x floor row edits → Leaves x cells (after_edits cells edits)
edits_leave Holds cells x floor row edits (under, inl r) = subst (λ (es : List Edit). Leaves x cells (after_edits cells es)) (sym r.are) (records_gone x r.vs cells)
edits_leave Holds cells x floor row edits (under, inr (inl r)) = subst (λ (es : List Edit). Leaves x cells (after_edits cells es)) (sym r.are) (data_gone x r.ts cells)
edits_leave Holds cells x floor row edits (under, inr (inr r)) = subst (λ (es : List Edit). Leaves x cells (after_edits cells es)) (sym r.are) (one_gone x Write r.c write_no_lock cells)

thins_one : (x : Cell) (cells cells' : Cells) → Leaves x cells cells' → Thins 1 cells cells'
thins_one x cells cells' leaves = record {
  rows = x.row ∷ [];
  few = omega arith;
  others = λ k out. leaves.others k (λ e. out (subst (λ (r : List ℕ). r ∈ (x.row ∷ [])) (sym e) here));
  fewer = leaves.fewer;
  locks = leaves.locks;
}

module _ {R : Type 0} (seen : View R) where
  pub thins_applied : (Holds : Type 0) (x : Cell) (floor : ℕ) (a b : R) → AppliesSuch seen (CollectsCell Holds (seen.cells a) x floor) a b → seen.holds a → Thins 1 (seen.cells a) (seen.cells b)
  thins_applied Holds x floor a b made held =
      thins_one x (seen.cells a) (seen.cells b) (subst (λ (m : Cells). Leaves x (seen.cells a) m) (sym (made.applied.made (seen.each_readable a held made.row))) (edits_leave Holds (seen.cells a) x floor made.row made.edits made.such))

  pub thins_kept : (n : ℕ) (a b : R) → seen.cells b ≡ seen.cells a → Thins n (seen.cells a) (seen.cells b)
  thins_kept n a b kept = subst (λ (m : Cells). Thins n (seen.cells a) m) (sym kept) (thins_none n (seen.cells a))
