use Rattle.std.proofs.Common.{rules, ◌≡◌, ℕ, ◌-◌, ◌^◌, List, Option, Some, None, refl, sym, ap, subst, ◌∙◌}
use Rattle.std.specs.Prelude.{IfNone, IfSome, option_map}
use Rattle.std.specs.declared.vec.Vec.{Vec}
use Rattle.cell_key.specs.Cells.{Cells, IsNewest}
use Rattle.cell_key.specs.Columns.{IsLockText}
use Rattle.cell_key.specs.Names.{IsFamily, IsRow}
use Rattle.cell_key.specs.Versions.{stamped}
use Rattle.cell_key.specs.declared.columns.WriteKind.{WriteKind}
use Rattle.cell_key.specs.declared.keys.Qualifier.TheVariants.{Lock as LockColumn}
use Rattle.si_model.specs.ShowsCells as shown
use Rattle.si_model.specs.ShowsCells.{key_of}
use Rattle.si_model.specs.declared.replies.Cell.{Cell}
use Rattle.clean_up.specs.Locks.{LacksPlace, Stands}
use Rattle.clean_up.proofs.locks.standing.Goals as goal

-- a lock's text names no row and family
abbrev NamesNone : List ℕ → Type 0
NamesNone text = (row family : List ℕ) (kind : WriteKind) → IsRow row → IsFamily family → ¬ IsLockText row family kind text

module _ {Z : Type 0} (cells : Cells) (x : Cell) (s : ℕ) (found : Option (ℕ × Vec ℕ Z)) (text : Vec ℕ Z) (now : List ℕ)
    (is : found ≡ Some (s, text)) (value : now ≡ text.items)
    (newest : IsNewest cells (key_of x LockColumn) 0 (2 ^ 64 - 1) (option_map stamped found)) where
  at : IsNewest cells (key_of x LockColumn) 0 (2 ^ 64 - 1) (Some (s, text.items))
  at = subst (λ (f : Option (ℕ × Vec ℕ Z)). IsNewest cells (key_of x LockColumn) 0 (2 ^ 64 - 1) (option_map stamped f)) is newest

  lacks : NamesNone now → LacksPlace cells x
  lacks none = (s, text.items, at.2, λ y k row family text_is. none y.row y.family k row family (subst (IsLockText y.row y.family k) (sym value) text_is))

  stand : (first : Cell) (t : ℕ) (kind : WriteKind) → IsLockText first.row first.family kind now → IsFamily first.family → s ≡ t → Stands cells x (record { start = t; first = first })
  stand first t kind named family same = record {
    text = text.items;
    kind = kind;
    there = ap (λ (n : ℕ). cells_at n) (sym same) ∙ at.2;
    is_text = subst (IsLockText first.row first.family kind) value named;
    family = family;
  }
    where
      cells_at : ℕ → Option (List ℕ)
      cells_at n = shown.at cells x LockColumn n

lacking : {A : Type 0} (o : Option A) (text : List ℕ) → ((a : A) → o ≡ Some a → ⊥) → IfNone o (NamesNone text) → NamesNone text
lacking None text not none = none
lacking (Some a) text not none = absurd (not a refl)

named : {A : Type 0} (o : Option A) (a : A) (P : A → Type 0) → o ≡ Some a → IfSome o P → P a
named {A = A} o a P is found = subst (λ (p : Option A). IfSome p P) is found

pub returns-in_default-2-clause-damaged : goal.returns-in_default-2-clause-damaged
returns-in_default-2-clause-damaged g c = λ held is.
    lacks (g.R.Rows.seen.cells c.args.rows.now) c.args.cell.now c.in-Some.start c.in_ok-lock.lock c.in-Some.text c.deref.result.now c.in-Some.is c.deref.ensures.value (c.in_ok-lock.ensures.found held)
    (lacking c.in_ok-held.field-0 c.deref.result.now c.in_default-2.not-Some c.in_ok-held.ensures.none)

pub returns-clause-found : goal.returns-clause-found
returns-clause-found g c = λ held.
    let lock = c.in-Some-2.held in
    stand (g.R.Rows.seen.cells c.args.rows.now) c.args.cell.now c.in-Some.start c.in_ok-lock.lock c.in-Some.text c.deref.result.now c.in-Some.is c.deref.ensures.value (c.in_ok-lock.ensures.found held) (record { row = lock.row; family = lock.family }) c.new.result lock.kind
    (named c.in_ok-held.field-0 lock (λ l. IsLockText l.row l.family l.kind c.deref.result.now) c.in-Some-2.is c.in_ok-held.ensures.found) (search rules) (sym c.new.ensures)
