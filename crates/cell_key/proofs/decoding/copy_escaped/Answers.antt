use Rattle.std.proofs.Common.{◌∷◌, ◌++◌, [], List, ℕ, ap, sym, ◌∙◌, arith}
use Rattle.std.proofs.lemmas.List.{length-append}
use Rattle.cell_key.specs.Texts.{escaped}
use Rattle.cell_key.proofs.PartEnds.{row_end, row_front, push_byte}
use Rattle.cell_key.proofs.decoding.copy_escaped.Goals as goal

pub loop-byte-preserved : goal.loop-byte-preserved
loop-byte-preserved c =
    let items = c.loop-byte.row.items in
    let after = c.in-Some.after.now in
    let byte = c.in-Some.byte in
    let room = c.loop-byte.invariant.1 in
    let more = c.push.ensures.capacity in (
      c.loop-byte.invariant.0 ∙ ap (λ (t : List ℕ). escaped items ++ t) c.in-Some.ensures.found ∙ push_byte items after byte
          ∙ ap (λ (t : List ℕ). escaped t ++ after) (sym c.in_ok-push.ensures.ok),
      omega (arith, room, more),
    )

pub returns-clause-row : goal.returns-clause-row
returns-clause-row c = λ row rest e. (row_end c.loop-byte.row.items c.loop-byte.left.now row rest c.in_default.ensures.none (sym c.loop-byte.invariant.0 ∙ e)).0

pub returns-in_err-push-clause-short : goal.returns-in_err-push-clause-short
returns-in_err-push-clause-short c = λ row rest e short few.
    let items = c.loop-byte.row.items in
    let after = c.in-Some.after.now in
    let byte = c.in-Some.byte in
    let read = c.loop-byte.invariant.0 ∙ ap (λ (t : List ℕ). escaped items ++ t) c.in-Some.ensures.found ∙ push_byte items after byte in
    let front = row_front (items ++ byte ∷ []) after row rest (sym read ∙ e) in
    let len = length-append items (byte ∷ []) in
    let room = c.loop-byte.invariant.1 in
    let never = c.in_err-push.ensures.succeeds (omega (arith, front, len, room, short)) in
    cc
