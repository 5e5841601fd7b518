use Rattle.std.proofs.Common.{◌≡◌, [], ◌∷◌, List, Option, Some, sym, ap, subst, ◌∙◌, Vec, ℕ, Global}
use Rattle.std.specs.BTreeMap.Range.{IsRangeOf}
use Rattle.cell_key.specs.Keys.{key_cmp}
use Rattle.cell_key.specs.declared.keys.CellKey.{CellKey}
use Rattle.rows.proofs.Firsts.{first_none, first_some}
use Rattle.rows.proofs.slots.first.Goals as goal

pub returns-in_err-key : goal.returns-in_err-key
returns-in_err-key c =
    let none : IsRangeOf key_cmp c.args.from c.args.to c.args.slots.now [] =
    subst (λ (r : List (CellKey × Option (Vec ℕ Global))). IsRangeOf key_cmp c.args.from c.args.to c.args.slots.now r) c.in_err-key.ensures.steps.0 (c.range.ensures.in_range tt) in
    rw c.from_residual.ensures (first_none c.args.slots.now c.args.from c.args.to none)

pub returns : goal.returns
returns c =
    let key = c.in_ok-key.key.now in
    let rest = c.next.new.self in
    let slot : c.in_ok-key.slot.now ≡ Some c.in_ok-value.value.now = sym c.in_ok-value.ensures.value in
    let first = c.in_ok-key.ensures.steps ∙ ap (λ (s : Option (Vec ℕ Global)). (key, s) ∷ rest) slot in
    first_some c.args.slots.now c.args.from c.args.to key c.in_ok-value.value.now rest
    (subst (λ (r : List (CellKey × Option (Vec ℕ Global))). IsRangeOf key_cmp c.args.from c.args.to c.args.slots.now r) first (c.range.ensures.in_range tt))
