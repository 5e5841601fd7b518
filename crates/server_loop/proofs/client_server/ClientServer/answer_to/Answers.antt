use Rattle.std.proofs.Common.{refl, sym, subst}
use Rattle.cell_key.specs.declared.refusals.Refusal.TheVariants.{FrameTooLarge}
use Rattle.si_model.specs.Machine.{Refused}
use Rattle.si_model.specs.Transactions.{Said}
use Rattle.ownership.specs.Turns.{Frame as FrameOf, TooLarge}
use Rattle.server_loop.specs.Batches.{taken_by}
use Rattle.server_loop.specs.Clients.{IsFrameOf, RepliesTo, is_too_large}
use Rattle.server_loop.specs.declared.frame_loop.Incoming.{Incoming}
use Rattle.server_loop.proofs.client_server.ClientServer.answer_to.Goals as goal

pub returns-in-TooLarge-clause-replies : goal.returns-in-TooLarge-clause-replies
returns-in-TooLarge-clause-replies g c =
    subst (λ (incoming : Incoming). (said : FrameOf) × IsFrameOf said (taken_by incoming) × RepliesTo g.A.Handler.shows g.A.Handler.says said c.args.self.now c.args.self.now c.args.waiting.now.items c.push_refusal.new.out.items) (sym c.in-TooLarge.is) (
      TooLarge,
      refl,
      record {
        to = 0;
        answer = Said (Refused FrameTooLarge);
        handled = is_too_large (record { server = refl; table = refl });
        admin = refl;
        appended = c.push_refusal.ensures.items;
      },
    )
