use Rattle.std.proofs.Common.{◌+◌, ◌≤◌, length, sym, ◌∙◌, arith}
use Rattle.cell_key.proofs.PartEnds.{no_strip, if_none, row_end, shorter, with_one}
use Rattle.cell_key.proofs.decoding.split_escaped.Goals as goal

pub loop-after-preserved : goal.loop-after-preserved
loop-after-preserved c =
    let read = c.loop-after.invariant.0 in
    let byte = c.in-Some.field-0-0 in
    let left = c.loop-after.left.now in
    let after = c.in-Some.after.now in
    let bound = c.loop-after.invariant.1 in
    let less : length after + 1 ≤ length left = shorter left after byte c.in-Some.ensures.found in
    (with_one c.args.bytes.now read.0 left after byte c.loop-after.len read.1 read.2 c.in-Some.ensures.found, omega arith)

pub returns-in_err-rest-clause-none : goal.returns-in_err-rest-clause-none
returns-in_err-rest-clause-none c =
    let read = c.loop-after.invariant.0 in
    let left = c.loop-after.left.now in
    if_none c.from_residual.result (λ row rest e.
    no_strip left rest (row_end read.0 left row rest c.in_default.ensures.none (sym read.2 ∙ e)).1 c.in_err-rest.ensures.cases)
