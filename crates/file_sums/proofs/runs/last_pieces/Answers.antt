use Rattle.std.proofs.Common.{◌/◌, ◌*◌, ◌∙◌, ◌≤◌, ap, arith, length}
use Rattle.std.proofs.lemmas.List.{length-drop}
use Rattle.file_sums.proofs.InOrder.{last_cut}
use Rattle.file_sums.proofs.runs.last_pieces.Goals as goal

pub returns : goal.returns
returns c =
    let fits : length c.in_ok-out.rest.now ≤ 1024 =
    omega (arith, ap length c.in_ok-out.ensures.rest, length-drop (length c.args.payload.now / 1024 * 1024) c.args.payload.now) in
    c.in_ok-push_piece.ensures
    ∙ last_cut c.args.name c.args.first (length c.args.payload.now / 1024) c.args.payload.now c.in_ok-out.out.items c.in_ok-out.rest.now c.in_ok-out.ensures.pieces c.in_ok-out.ensures.rest fits
