use Rattle.std.proofs.Common.{◌≡◌, ◌+◌, ◌-◌, ◌∙◌, ap, sym, arith, ℕ, List, ◌++◌, length, length-append}
use Rattle.file_sums.specs.Pieces.{pieces}
use Rattle.file_sums.proofs.InOrder.{one_read, behind_read}
use Rattle.file_sums.proofs.Payloads.{no_run}
use Rattle.file_sums.proofs.runs.whole_payloads.Goals as goal

pub loop-rest-preserved : goal.loop-rest-preserved
loop-rest-preserved c =
    let size : length c.in-Some.found.now ≡ 1024 = omega (arith, c.in-Some.ensures.size, c.split_at.ensures.front_len) in
    let appended = c.in_ok-extend_from_slice.ensures.items in
    record {
      begun = omega (arith, c.loop-rest.invariant.begun);
      whole = ap length appended ∙ length-append c.loop-rest.payload.items c.in-Some.found.now ∙ omega (arith, size, c.loop-rest.invariant.whole, c.loop-rest.invariant.begun);
      most = omega (arith, c.loop-rest.invariant.most, c.loop-rest.invariant.begun, c.split_at.ensures.back_len, c.loop-rest-test.true);
      rest = c.split_at.ensures.back ∙ behind_read c.args.first c.loop-rest.index c.args.bytes.now c.loop-rest.rest.now c.loop-rest.invariant.begun c.loop-rest.invariant.rest;
      pieces =
          one_read c.args.name c.args.first c.loop-rest.index c.args.bytes.now c.loop-rest.payload.items c.in-Some.found.now c.loop-rest.rest.now c.split_at.result.0.now c.split_at.result.1.now
          c.loop-rest.invariant.begun c.loop-rest.invariant.pieces c.loop-rest.invariant.whole c.in-Some.ensures.most c.split_at.ensures.front c.split_at.ensures.back c.in-Some.ensures.found
          ∙ ap (λ (l : List ℕ). pieces c.args.name c.args.first l ((c.loop-rest.index + 1) - c.args.first) ++ c.split_at.result.1.now) (sym appended);
    }

pub returns-in_default-clause-damaged : goal.returns-in_default-clause-damaged
returns-in_default-clause-damaged c = λ _.
    no_run c.args.name c.args.first c.loop-rest.index c.args.bytes.now c.loop-rest.rest.now c.split_at.result.0.now c.loop-rest.invariant.begun c.loop-rest.invariant.most c.loop-rest-test.true c.loop-rest.invariant.rest c.split_at.ensures.front c.in_default.ensures.none
