use Rattle.std.proofs.Common.{◌∙◌, arith}
use Rattle.file_sums.proofs.InOrder.{one_cut, behind_cut}
use Rattle.file_sums.proofs.runs.whole_pieces.Goals as goal

pub loop-rest-preserved : goal.loop-rest-preserved
loop-rest-preserved c =
    record {
      begun = omega (arith, c.loop-rest.invariant.begun);
      most = omega (arith, c.loop-rest.invariant.most, c.loop-rest.invariant.begun, c.split_at.ensures.back_len, c.loop-rest-test.true);
      out =
          c.in_ok-push_piece.ensures
          ∙ one_cut c.args.name c.args.first c.loop-rest.index c.args.payload.now c.loop-rest.out.items c.loop-rest.rest.now c.split_at.result.0.now
          c.loop-rest.invariant.begun c.loop-rest.invariant.out c.loop-rest.invariant.rest c.split_at.ensures.front;
      rest =
          c.split_at.ensures.back
          ∙ behind_cut c.args.first c.loop-rest.index c.args.payload.now c.loop-rest.rest.now c.loop-rest.invariant.begun c.loop-rest.invariant.rest;
    }
