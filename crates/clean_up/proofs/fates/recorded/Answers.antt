use Rattle.std.proofs.Common.{◌≡◌, ◌≢◌, ◌∙◌, ℕ, List, Option, Some, sym, ap, subst}
use Rattle.std.specs.Prelude.{option_map}
use Rattle.std.proofs.lemmas.Option.{same_Some}
use Rattle.std.specs.declared.vec.Vec.{Vec}
use Rattle.cell_key.specs.Versions.{stamped}
use Rattle.cell_key.specs.Cells.{Cells}
use Rattle.cell_key.specs.Columns.{NamesStart, NamesWrite}
use Rattle.cell_key.specs.declared.columns.WriteKind.{WriteKind}
use Rattle.si_model.specs.declared.replies.Cell.{Cell}
use Rattle.clean_up.specs.Fates.{HasBadRecord, IsNextRecord, IsToldBy}
use Rattle.clean_up.specs.declared.fates.Fate.TheVariants.{Forward, Back}
use Rattle.clean_up.proofs.fates.recorded.Goals as goal

forward : {Z : Type 0} (cells : Cells) (x : Cell) (s t c : ℕ) (found : Option (ℕ × Vec ℕ Z)) (text : Vec ℕ Z) → s ≡ t → found ≡ Some (c, text) → NamesStart text.items s → IsNextRecord cells x s (option_map stamped found) → IsToldBy cells x t (Forward c)
forward {Z} cells x s t c found text same is names next =
    let at = subst (λ (f : Option (ℕ × Vec ℕ Z)). IsNextRecord cells x s (option_map stamped f)) is next in
    (text.items, at.2, subst (NamesStart text.items) same names)

back : {Z : Type 0} (cells : Cells) (x : Cell) (s t c n : ℕ) (kind : WriteKind) (found : Option (ℕ × Vec ℕ Z)) (text : Vec ℕ Z) → s ≡ t → found ≡ Some (c, text) → NamesWrite text.items n kind → n ≢ s → IsNextRecord cells x s (option_map stamped found) → IsToldBy cells x t Back
back cells x s t c n kind found text same is named other next = (
  option_map stamped found,
  subst (λ (k : ℕ). IsNextRecord cells x k (option_map stamped found)) same next,
  λ d b e.
      let text_is : text.items ≡ b = ap (λ (p : ℕ × List ℕ). p.1) (same_Some (c, text.items) (d, b) (sym (ap (λ f. option_map stamped f) is) ∙ e)) in
      (n, (kind, subst (λ (l : List ℕ). NamesWrite l n kind) text_is named), λ at. other (at ∙ sym same)),
)

bad : {Z : Type 0} (cells : Cells) (x : Cell) (s c : ℕ) (found : Option (ℕ × Vec ℕ Z)) (text : Vec ℕ Z) (now : List ℕ) → found ≡ Some (c, text) → now ≡ text.items → ((t : ℕ) (kind : WriteKind) → ¬ NamesWrite now t kind) → IsNextRecord cells x s (option_map stamped found) → HasBadRecord cells x
bad {Z} cells x s c found text now is value none next =
    let at = subst (λ (f : Option (ℕ × Vec ℕ Z)). IsNextRecord cells x s (option_map stamped f)) is next in
    (c, text.items, at.2, λ t (kind, names). none t kind (subst (λ (l : List ℕ). NamesWrite l t kind) (sym value) names))

pub returns-in_default-decode-clause-damaged : goal.returns-in_default-decode-clause-damaged
returns-in_default-decode-clause-damaged g c = λ held is.
    bad (g.R.Rows.seen.cells c.args.rows.now) c.args.first.now c.stamp-start.result c.in-Some.commit c.in_ok-next.next c.in-Some.text c.deref.result.now c.in-Some.is c.deref.ensures.value c.in_default-decode.ensures.none (c.in_ok-next.ensures.found held)

pub returns-clause-found : goal.returns-clause-found
returns-clause-found g c = λ held.
    back (g.R.Rows.seen.cells c.args.rows.now) c.args.first.now c.stamp-start.result c.args.start c.in-Some.commit c.in-Some-decode.record.start c.in-Some-decode.record.kind c.in_ok-next.next c.in-Some.text c.stamp-start.ensures.stamp c.in-Some.is
    (subst (λ (l : List ℕ). NamesWrite l c.in-Some-decode.record.start c.in-Some-decode.record.kind) c.deref.ensures.value c.in-Some-decode.ensures.named) c.if-record-start.false (c.in_ok-next.ensures.found held)
