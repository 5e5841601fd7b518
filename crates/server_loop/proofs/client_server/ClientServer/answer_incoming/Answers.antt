use Rattle.std.proofs.Common.{refl}
use Rattle.ownership.specs.Frames.{client_body}
use Rattle.server_loop.proofs.client_server.ClientServer.answer_incoming.Goals as goal

pub returns-clause-answers : goal.returns-clause-answers
returns-clause-answers g c =
    let (said, is_frame, replies) = c.answer_to.ensures.replies in (
      client_body replies.to replies.answer,
      record {
        to = replies.to;
        answer = replies.answer;
        is_body = refl;
        mid = c.answer_to.new.self;
        answered = record { frame = said; is_frame = is_frame; handled = replies.handled; admin = replies.admin };
        tended = c.tend.ensures.between;
        shown = c.tend.ensures.shown;
        owners = refl;
        admin = refl;
      },
      replies.appended,
    )
