use Rattle.std.proofs.Common.{◌≡◌, ℕ, List, ◌++◌, length, sym, ap, subst, ◌∙◌, arith, append_assoc}
use Rattle.cell_key.specs.Names.{IsFamily}
use Rattle.cell_key.specs.Texts.{escaped, ended}
use Rattle.cell_key.proofs.TextPlaces.{clash}
use Rattle.cell_key.proofs.Order.{one_place, plain_family, row_rest}
use Rattle.cell_key.proofs.PartEnds.{if_none}
use Rattle.cell_key.proofs.decoding.split_place.Goals as goal
use Rattle.cell_key.proofs.decoding.split_place.Goals.{then-row_len-lt1-via-then-row_len-lt1, then-row_len-lt1-via-else-row_len-lt1+then-row_len-gt-MOST_BYTES, then-row_len-lt1-via-else-row_len-lt1+else-row_len-gt-MOST_BYTES+then-not-is_family}

pub returns-in_err-family-clause-none : goal.returns-in_err-family-clause-none
returns-in_err-family-clause-none c =
    let read = c.in_ok-row_len.ensures.found in
    if_none c.from_residual-in_err-family.result (λ row family rest is_row is_family e.
    c.in_err-family.ensures.none family rest (plain_family family is_family.bytes)
    (row_rest read.0 row c.in_ok-row_len.after_row.now (ended family ++ rest) (sym read.2 ∙ (e ∙ append_assoc (ended (escaped row)) (ended family) rest))).1)

pub returns-then-row_len-lt1-clause-none : goal.returns-then-row_len-lt1-clause-none
returns-then-row_len-lt1-clause-none c = λ row family rest is_row is_family e.
    let read = c.in_ok-row_len.ensures.found in
    let part = c.in_ok-family in
    let bytes = c.args.bytes.now in
    let same = one_place bytes read.0 part.family.now part.rest.now row family rest part.ensures.whole (plain_family family is_family.bytes)
    (read.2 ∙ ap (λ (t : List ℕ). ended (escaped read.0) ++ t) part.ensures.found) (e ∙ append_assoc (ended (escaped row)) (ended family) rest) in
    let len : length row ≡ c.in_ok-row_len.row_len = ap length (sym same.0) ∙ read.1 in
    elim c.then-row_len-lt1.branch [
      | then-row_len-lt1-via-then-row_len-lt1 w ↦ absurd (let some = is_row.some in let few = w.if-row_len-lt1.true in omega arith)
      | then-row_len-lt1-via-else-row_len-lt1+then-row_len-gt-MOST_BYTES w ↦ absurd (let few = is_row.few in let many = w.if-row_len-gt-MOST_BYTES.true in omega arith)
      | then-row_len-lt1-via-else-row_len-lt1+else-row_len-gt-MOST_BYTES+then-not-is_family w ↦ absurd (clash _ ((w.is_family.ensures).1 (subst IsFamily (sym same.1.0) is_family)) w.if-not-is_family.true)
    ]
