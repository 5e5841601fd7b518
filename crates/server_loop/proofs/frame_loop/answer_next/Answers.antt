use Rattle.std.proofs.Common.{[], ◌∷◌, arith, length}
use Rattle.server_loop.proofs.ServingLemmas.{Answered-one, front_fewer, front_frame, one_framed}
use Rattle.server_loop.proofs.StreamReads.{none_held}
use Rattle.server_loop.proofs.frame_loop.answer_next.Goals as goal

pub returns-in-Some-clause-answered : goal.returns-in-Some-clause-answered
returns-in-Some-clause-answered g c =
    let none = none_held _ c.args.framer.now c.is_empty.ensures c.if-is_empty.true in
    let (fits, whole) = c.in-Some.ensures.some in
    let (body, said, grown) = c.answer.ensures.answers in
    (body ∷ [], omega arith, one_framed _ _ _ grown, Answered-one _ _ _ _ _ _ _ fits (front_frame c.args.framer.now c.args.piece.now c.in-Some.behind.now c.in-Some.body.now none whole) said)

pub returns-in-Some-clause-fewer : goal.returns-in-Some-clause-fewer
returns-in-Some-clause-fewer g c = front_fewer c.args.piece.now c.in-Some.behind.now c.in-Some.body.now (length c.args.framer.now) c.in-Some.ensures.some.1
