use Rattle.server_loop.proofs.Replied.{RunsAs-oversize}
use Rattle.server_loop.proofs.frame_loop.answer_to_incoming.Goals as goal

pub returns-in-TooLarge-clause-run : goal.returns-in-TooLarge-clause-run
returns-in-TooLarge-clause-run g c = rw c.in-TooLarge.is (RunsAs-oversize g.A.Handler.shows c.args.server.now)

pub returns-in-Body-clause-run : goal.returns-in-Body-clause-run
returns-in-Body-clause-run g c = rw c.in-Body.is c.answer_to_body.ensures.run
